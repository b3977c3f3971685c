-- `rows_far` meets its contract: what the sides seen leave of the radius' square decides. Assumes nothing.
use mathlib.Core.Path.{◌≡◌}
use Prim.Native.Nat.{◌+◌, ◌*◌}
use Rattle.rules.specs.Tables.{table}
use Rattle.rectangles.proofs.Sums as S
use Rattle.rectangles.proofs.rows_far.Given as goal

abbrev pub invariant-loop-k : goal.invariant-loop-k
invariant-loop-k l = l.left + S.seen l.less l.sides (table l.n l.t) l.m l.k ≡ l.radius * l.radius
