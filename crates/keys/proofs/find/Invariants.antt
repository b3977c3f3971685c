-- `find` meets its contract: each number passed is lower. Assumes nothing.
use mathlib.Core.Path.{◌≡◌}
use Prim.Native.Nat.{◌+◌}
use lib.ListN.{drop}
use Rattle.keys.specs.Held.{place_of}
use Rattle.keys.proofs.find.Given as goal

abbrev pub invariant-loop-i : goal.invariant-loop-i
invariant-loop-i l = place_of l.p l.keys ≡ l.i + place_of l.p (drop l.i l.keys)
