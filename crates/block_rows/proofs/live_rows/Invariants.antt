-- `live_rows` meets its contract: the rows passed from the end upward are withdrawn. Assumes nothing.
use mathlib.Core.Path.{◌≡◌}
use mathlib.Core.Bool.{true}
use Prim.Native.Nat.{ℕ, ◌≤◌, ◌<◌}
use Rattle.rules.specs.Tables.{table, row, withdrawn, row_count}
use Rattle.block_rows.proofs.live_rows.Given as goal

abbrev pub invariant-loop-i : goal.invariant-loop-i
invariant-loop-i l =
    (k : ℕ) → l.i ≤ k → k < row_count (table l.n l.x) → withdrawn (row (table l.n l.x) k) ≡ true
