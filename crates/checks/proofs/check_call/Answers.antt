-- `check_call` meets its contract: the rows are looked at only once 5 and 4 have passed. Assumes nothing.
use Rattle.std.proofs.Common.{sym, ap, ◌∙◌, ℕ, ◌+◌, ◌≤◌, arith}
use Rattle.rules.specs.Numbers.{code}
use Rattle.rules.specs.Tables.{Table, most_rows, HasRows}
use Rattle.rules.specs.Widths.{has_rows}
use Rattle.session_laws.specs.Calls.{SameSize}
use Rattle.checks.specs.Codes.{lent_of_out}
use Rattle.checks.proofs.check_call.Goals as goal

rows_within : (t : Table) (rows depth : ℕ) → SameSize rows t → (depth ≤ rows) × (rows ≤ most_rows)
    → (0 + depth ≤ most_rows) × HasRows t (0 + depth)
rows_within t rows depth h k = (omega (arith, k), has_rows t (0 + depth) (omega (arith, h.count, k)))

pub check_rows-requires : goal.check_rows-requires
check_rows-requires c =
    let s = c.args in
    let k =
    lent_of_out s.fits s.rows s.f.now s.t.now (sym c.check_lent.ensures ∙ ap code c.in_ok-check_lent.was) in
    rows_within _ _ _ k.1.0 (c.requires k.0).field

pub check_rows-requires-2 : goal.check_rows-requires-2
check_rows-requires-2 c =
    let s = c.args in
    let k =
    lent_of_out s.fits s.rows s.f.now s.t.now (sym c.check_lent.ensures ∙ ap code c.in_ok-check_lent.was) in
    rows_within _ _ _ k.1.1 (c.requires k.0).trim
