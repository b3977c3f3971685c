-- `near_small` meets its contract: the squares of three small gaps fit together. Assumes nothing.
use mathlib.Core.Path.{◌≡◌}
use Prim.Native.Nat.{◌*◌, ◌≤◌}
use lib.ListN.{take}
use Rattle.rules.specs.Tables.{squares}
use Rattle.tolerances.specs.Counted.{counted}
use Rattle.distance.proofs.near_small.Given as goal

abbrev pub invariant-loop-k : goal.invariant-loop-k
invariant-loop-k l = (l.sum ≤ 1140210289 * l.k)
    × (l.sum ≡ squares (counted l.more l.less) (take l.k l.x) (take l.k l.y))
