-- `put_shown` meets its contract. Assumes nothing.
use Rattle.std.proofs.Common.{◌≡◌, ap, ◌∙◌, eqb, eqb-true, not, true, arith}
use Rattle.rules.specs.Session.{lent_table}
use Rattle.rules.specs.Calls.{lent_code}
use Rattle.session_laws.specs.Calls.{Lent, lent_out}
use Rattle.checks.specs.Codes.{lent_passes}
use Rattle.flat_calls.specs.Calls.{shown_numbers}
use Rattle.flat_show.proofs.put_shown.Goals as goal
use Rattle.flat_show.proofs.put_shown.Goals.{After-is_err}

-- whether 5 and 4 pass
asked : (c : After-is_err) → let a = c.args in
    eqb (lent_code (lent_table a.s a.f.now) (lent_table a.s a.t.now) a.s) 0 ≡ not c.is_err.result
asked c =
    lent_passes c.args.f.now c.args.t.now c.args.s c.fits.result c.check_lent.result c.fits.ensures c.check_lent.ensures
    ∙ c.is_err.ensures.negation

known : (c : After-is_err) → not c.is_err.result ≡ true → let a = c.args in
    Lent (lent_table a.s a.f.now) (lent_table a.s a.t.now) a.s
known c e = lent_out _ _ c.args.s (eqb-true _ 0 (asked c ∙ e))

pub returns-then-is_err : goal.returns-then-is_err
unfolding shown_numbers
returns-then-is_err c =
    simp (asked (goal.at.returns-then-is_err c).After-is_err, c.if-is_err.true) c.put_three.ensures

pub put_block-requires : goal.put_block-requires
put_block-requires c =
    let k = known (goal.at.put_block-requires c).After-is_err (ap not c.if-is_err.false) in (
      k.fits.query.block.0,
      k.fits.mark.field c.in-1.is,
      omega (arith, k.fits.field.few, k.fits.field.within),
      c.requires,
    )

pub put_block-requires-in-2 : goal.put_block-requires-in-2
put_block-requires-in-2 c =
    let k = known (goal.at.put_block-requires-in-2 c).After-is_err (ap not c.if-is_err.false) in (
      k.fits.query.block.0,
      k.fits.mark.trim c.in-2.is,
      omega (arith, k.fits.trim.few, k.fits.trim.within),
      c.requires,
    )

pub returns-in-1 : goal.returns-in-1
unfolding shown_numbers
returns-in-1 c =
    simp (asked (goal.at.returns-in-1 c).After-is_err, c.if-is_err.false, c.in-1.is) c.put_block.ensures

pub returns-in-2 : goal.returns-in-2
unfolding shown_numbers
returns-in-2 c =
    simp (asked (goal.at.returns-in-2 c).After-is_err, c.if-is_err.false, c.in-2.is) c.put_block-in-2.ensures

pub returns-in_default : goal.returns-in_default
unfolding shown_numbers
returns-in_default c =
    let e = asked (goal.at.returns-in_default c).After-is_err ∙ ap not c.if-is_err.false in
    grind (arith, e)
