-- `put_sides` meets its contract: the sides written so far are those of the rectangle. Assumes nothing.
use Prim.Native.Nat.{◌-◌}
use Rattle.rules.specs.Tables.{table, side}
use Rattle.sides.proofs.Stored as S
use Rattle.sides.proofs.put_sides.Given as goal

abbrev pub invariant-loop-k : goal.invariant-loop-k
invariant-loop-k l = S.Stand (λ j. side (table l.n l.t) j (l.m - 1)) l.out l.k
