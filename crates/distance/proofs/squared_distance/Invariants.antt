-- `squared_distance` meets its contract: the sum of the coordinates seen, or the largest number. Assumes nothing.
use mathlib.Core.Path.{◌≡◌}
use Prim.Native.Nat.{◌-◌, ◌^◌, min}
use lib.ListN.{take}
use Rattle.rules.specs.Tables.{squared_distance}
use Rattle.distance.proofs.squared_distance.Given as goal

abbrev pub invariant-loop-k : goal.invariant-loop-k
invariant-loop-k l = l.sum ≡ min (squared_distance (take l.k l.x) (take l.k l.y)) (2 ^ 64 - 1)
