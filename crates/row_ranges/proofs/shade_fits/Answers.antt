-- `shade_fits` meets its contract: the coordinates seen so far keep their ranges. Assumes nothing.
use Rattle.std.proofs.Common.{◌≡◌, refl, add-one, arith, length, get_or, pos, to_z, of_z}
use mir.Syntax.{w32}
use borrow.Author.Rules.{rules}
use Rattle.lists.specs.Lists.{every, range}
use Rattle.lists.specs.Appends.{every_more}
use Rattle.rules.specs.Tables.{fits_at, shade_fits}
use Rattle.row_ranges.proofs.shade_fits.Goals as goal

pub loop-k-init : goal.loop-k-init
unfolding every range
loop-k-init c = refl

pub loop-k-preserved : goal.loop-k-preserved
unfolding fits_at
loop-k-preserved c =
    let x = get_or c.args.shade.now c.loop-k.k (pos 0) in
    let told : to_z w32 (of_z w32 x) ≡ x = search rules in
    rw (add-one, every_more) (cc)

pub returns : goal.returns
unfolding shade_fits
returns c = let e : c.loop-k.k ≡ length c.args.shade.now = omega arith in cc
