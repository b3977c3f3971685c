-- The rules' opening.
use Rattle.std.proofs.Common.{◌≡◌, sym, ap, ◌∙◌, arith, eq-eqb}
use Rattle.rules.specs.Numbers.{code}
use Rattle.rules.specs.Tables.{field_table, trim_table}
use Rattle.rules.specs.Calls.{open_code, open_call}
use Rattle.session_laws.specs.Calls.{open_out}
use Rattle.rules.specs.Numbered.{refused_is}
use Rattle.opening.proofs.start.Goals as goal
use Rattle.opening.proofs.start.Goals.{After-check_opening, After-rows_lent}

coded : (c : After-check_opening) → let a = c.args in
    code c.check_opening.result ≡ open_code a.q (field_table a.kinds a.f.now) (trim_table a.kinds a.t.now)
coded c = simp (c.field_coordinates-m.ensures, c.trim_coordinates-n.ensures) at c.check_opening.ensures

pub returns-in-Err : goal.returns-in-Err
unfolding open_call
returns-in-Err c =
    let k = refused_is c.check_opening.result c.in-Err.refusal c.in-Err.is in
    simp (sym (coded (goal.at.returns-in-Err c).After-check_opening), k.0, k.1, c.all_zeros.ensures)

passed : (c : After-rows_lent) → let a = c.args in
    open_code a.q (field_table a.kinds a.f.now) (trim_table a.kinds a.t.now) ≡ 0
passed c = sym (coded (goal.at.overflow_cast-rows c).After-check_opening) ∙ ap code c.in_default.is

pub overflow_cast-rows : goal.overflow_cast-rows
overflow_cast-rows c =
    let o = open_out c.args.q _ _ (passed c) in
    let count = simp c.field_coordinates-m.ensures at c.rows_lent.ensures in
    record { fits = omega (arith, count, o.field.few) }

pub overflow_cast-rows-2 : goal.overflow_cast-rows-2
overflow_cast-rows-2 c =
    let o = open_out c.args.q _ _ (passed (goal.at.overflow_cast-rows-2 c).After-rows_lent) in
    let count = simp c.trim_coordinates-n.ensures at c.rows_lent-2.ensures in
    record { fits = omega (arith, count, o.trim.few) }

pub returns : goal.returns
unfolding open_call
returns c =
    simp (
      eq-eqb _ _ (passed (goal.at.returns c).After-rows_lent),
      c.fresh.ensures,
      simp c.field_coordinates-m.ensures at c.rows_lent.ensures,
      simp c.trim_coordinates-n.ensures at c.rows_lent-2.ensures,
      c.field_coordinates-m.ensures,
    )
