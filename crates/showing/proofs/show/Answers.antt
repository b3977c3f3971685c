-- Which table it is a part of, and which rows.
use Rattle.std.proofs.Common.{◌≡◌, ap, ◌∙◌, eqb, eqb-true, not, true, arith, ℕ, ◌≤◌, ◌<◌}
use Rattle.rules.specs.Tables.{Table, most_rows, HasRows}
use Rattle.rules.specs.Widths.{has_rows}
use Rattle.rules.specs.Session.{lent_table}
use Rattle.rules.specs.Take.{shown_rows}
use Rattle.rules.specs.Calls.{lent_code, show_call, show_place}
use Rattle.session_laws.specs.Record.{CountsFit}
use Rattle.session_laws.specs.Calls.{SameSize, Lent, lent_out}
use Rattle.checks.specs.Codes.{lent_passes}
use Rattle.showing.proofs.show.Goals as goal
use Rattle.showing.proofs.show.Goals.{After-is_err}

-- a table's last rows may be cut out
cut : (t : Table) (block rows depth : ℕ) → 1 ≤ block → 0 < depth → CountsFit block rows depth → SameSize rows t
    → (0 < block) × (0 < depth) × (depth ≤ most_rows) × HasRows t depth
cut t block rows depth b d fits size =
    (b, d, omega (arith, fits.few, fits.within), has_rows t depth (omega (arith, fits.within, size.count)))

-- whether 5 and 4 pass
asked : (c : After-is_err) → let a = c.args in
    eqb (lent_code (lent_table a.s a.f.now) (lent_table a.s a.t.now) a.s) 0 ≡ not c.is_err.result
asked c =
    lent_passes c.args.f.now c.args.t.now c.args.s c.fits.result c.check_lent.result c.fits.ensures c.check_lent.ensures
    ∙ c.is_err.ensures.negation

known : (c : After-is_err) → not c.is_err.result ≡ true → let a = c.args in
    Lent (lent_table a.s a.f.now) (lent_table a.s a.t.now) a.s
known c e = lent_out _ _ c.args.s (eqb-true _ 0 (asked c ∙ e))

pub returns-then-is_err : goal.returns-then-is_err
unfolding show_call show_place
returns-then-is_err c =
    let e = asked (goal.at.returns-then-is_err c).After-is_err in
    record { result_value = simp (e, c.if-is_err.true); ref_ptr_value = simp (e, c.if-is_err.true) }

pub last_rows-requires : goal.last_rows-requires
last_rows-requires c =
    let k = known (goal.at.last_rows-requires c).After-is_err (ap not c.if-is_err.false) in
    cut _ _ _ _ k.fits.query.block.0 (k.fits.mark.field c.in-1.is) k.fits.field k.field

pub last_rows-requires-in-2 : goal.last_rows-requires-in-2
last_rows-requires-in-2 c =
    let k = known (goal.at.last_rows-requires-in-2 c).After-is_err (ap not c.if-is_err.false) in
    cut _ _ _ _ k.fits.query.block.0 (k.fits.mark.trim c.in-2.is) k.fits.trim k.trim

pub returns-in-1 : goal.returns-in-1
unfolding show_call show_place shown_rows
returns-in-1 c =
    let e = asked (goal.at.returns-in-1 c).After-is_err in
    record {
      result_value = simp (e, c.if-is_err.false, c.in-1.is) c.last_rows.ensures.result_value;
      ref_ptr_value = simp (e, c.if-is_err.false, c.in-1.is) c.last_rows.ensures.ref_ptr_value;
    }

pub returns-in-2 : goal.returns-in-2
unfolding show_call show_place shown_rows
returns-in-2 c =
    let e = asked (goal.at.returns-in-2 c).After-is_err in
    record {
      result_value = simp (e, c.if-is_err.false, c.in-2.is) c.last_rows-in-2.ensures.result_value;
      ref_ptr_value = simp (e, c.if-is_err.false, c.in-2.is) c.last_rows-in-2.ensures.ref_ptr_value;
    }

pub returns-in_default : goal.returns-in_default
unfolding show_call show_place shown_rows
returns-in_default c =
    let e = asked (goal.at.returns-in_default c).After-is_err ∙ ap not c.if-is_err.false in
    record { result_value = grind (arith, e); ref_ptr_value = grind (arith, e) }
