-- `put_asked` meets its contract. Assumes nothing.
use Rattle.rules.specs.Tables.{field_table, trim_table}
use Rattle.program.proofs.Steps.{refuses, asked_refused, asked_given}
use Rattle.program.proofs.put_asked.Goals as goal

pub returns-in_err-query : goal.returns-in_err-query
returns-in_err-query c =
    let s = c.args in
    let e = c.in_err-query.field-0.0 in
    refuses _ _ _ e c.from_residual.result c.from_residual.ensures.1
    (asked_refused s.input.now (field_table s.kinds s.f.now) (trim_table s.kinds s.t.now) e c.in_err-query.ensures)

pub returns : goal.returns
returns c =
    let s = c.args in
    asked_given s.input.now (field_table s.kinds s.f.now) (trim_table s.kinds s.t.now) c.in_ok-query.query s.out.now
    c.put_answer.new.out c.put_answer.result c.in_ok-query.ensures c.put_answer.ensures
