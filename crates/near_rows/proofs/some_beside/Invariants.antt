-- `some_beside` meets its contract: where no row was seen beside, all rows passed lie beyond reach. Assumes nothing.
use mathlib.Core.Path.{◌≡◌}
use mathlib.Core.Bool.{false}
use Prim.Native.Nat.{ℕ, ◌≤◌, ◌<◌}
use Rattle.rules.specs.Tables.{table, row}
use Rattle.tolerances.specs.Counted.{Beyond}
use Rattle.near_rows.proofs.some_beside.Given as goal

abbrev pub invariant-loop-j : goal.invariant-loop-j
invariant-loop-j l =
    l.seen ≡ false → (b : ℕ) → l.k ≤ b → b < l.j
    → Beyond l.reach (row (table l.n l.x) l.i).shade (row (table l.n l.y) b).shade
