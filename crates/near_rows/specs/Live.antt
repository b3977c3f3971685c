-- The rows of a block that are not withdrawn stand above all others. Definitions only. Assumes nothing.
use Rattle.std.specs.Prelude.{◌≡◌, true, false, ℕ, ◌≤◌, ◌<◌}
use Rattle.rules.specs.Tables.{Table, row, row_count, withdrawn}

-- the first n rows are not withdrawn, those from there on are
pub record Live (rows : Table) (n : ℕ) : Type 0 where
  pub upto : n ≤ row_count rows
  pub live : (i : ℕ) → i < n → withdrawn (row rows i) ≡ false
  pub beyond : (i : ℕ) → n ≤ i → i < row_count rows → withdrawn (row rows i) ≡ true
