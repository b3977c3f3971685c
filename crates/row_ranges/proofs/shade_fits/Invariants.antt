-- `shade_fits` meets its contract: the coordinates seen so far keep their ranges. Assumes nothing.
use Rattle.std.proofs.Common.{◌≡◌}
use Rattle.lists.specs.Lists.{every, range}
use Rattle.rules.specs.Tables.{fits_at}
use Rattle.row_ranges.proofs.shade_fits.Given as goal

abbrev pub invariant-loop-k : goal.invariant-loop-k
invariant-loop-k l = l.fits ≡ every (fits_at l.shade) (range 0 l.k)
