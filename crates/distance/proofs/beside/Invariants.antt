-- `beside` meets its contract: the coordinate whose test fails lies beyond. Assumes nothing.
use mathlib.Core.Path.{◌≡◌}
use mathlib.Core.Bool.{false}
use Rattle.tolerances.specs.Counted.{Beyond}
use Rattle.distance.proofs.beside.Given as goal

abbrev pub invariant-loop-k : goal.invariant-loop-k
invariant-loop-k l = l.all ≡ false → Beyond l.reach l.x l.y
