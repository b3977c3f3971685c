-- `side` meets its contract: the side of the rows seen. Assumes nothing.
use mathlib.Core.Path.{◌≡◌}
use Prim.Native.Nat.{◌-◌}
use Rattle.rules.specs.Tables.{table, side}
use Rattle.sides.proofs.side.Given as goal

abbrev pub invariant-loop-i : goal.invariant-loop-i
invariant-loop-i l = l.s ≡ side (table l.n l.t) l.k (l.i - 1)
