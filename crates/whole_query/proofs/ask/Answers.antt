-- `ask` meets its contract. Assumes nothing.
use mathlib.Core.Path.{sym, ap, ◌∙◌}
use borrow.Author.Rules.{rules}
use Rattle.rules.specs.Numbers.{code}
use Rattle.whole_query.specs.Asked.{asked_field, asked_trim}
use Rattle.whole_query.proofs.Ends.{checks_code}
use Rattle.whole_query.proofs.ask.Goals as goal

pub returns-in_err-check_asked-clause-code : goal.returns-in_err-check_asked-clause-code
returns-in_err-check_asked-clause-code c =
    let s = c.args in
    let l = s.query.now in
    let asked =
    c.check_asked.ensures
    ∙ checks_code s.least l (asked_field l s.f.now) (asked_trim l s.t.now) s.room c.run-run.result
    (simp (c.kinds_in-kinds.ensures, c.query_in-q.ensures) at c.run-run.ensures) in
    let number = sym (ap code c.in_err-check_asked.was) ∙ asked in
    search rules

pub returns-clause-code : goal.returns-clause-code
returns-clause-code c =
    let s = c.args in
    let l = s.query.now in
    let ran = simp (c.kinds_in-kinds.ensures, c.query_in-q.ensures) at c.run-run.ensures in
    let asked =
    c.check_asked.ensures
    ∙ checks_code s.least l (asked_field l s.f.now) (asked_trim l s.t.now) s.room c.run-run.result ran in
    sym (ap code c.in_ok-check_asked.was) ∙ asked
