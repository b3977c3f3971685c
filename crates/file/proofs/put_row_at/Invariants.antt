-- `put_row_at` meets its contract: the numbers passed stand in their places. Assumes nothing.
use mathlib.Core.Path.{◌≡◌}
use Prim.Native.Nat.{◌+◌}
use Rattle.rules.specs.File.{column_start}
use Rattle.rules.specs.File.{number_at}
use Rattle.file.specs.Put.{put}
use Rattle.file.proofs.put_row_at.Given as goal

abbrev pub invariant-loop-j : goal.invariant-loop-j
invariant-loop-j l = (l.at ≡ l.o + column_start l.j)
    × (l.out ≡ put (number_at l.bytes l.o) l.p l.j l.initial.out)
