-- Parts of a table: the block that a part is, and that its rows which are not withdrawn stand above all others. Assumes
-- nothing.
use Rattle.std.specs.Prelude.{ℕ, ◌≤◌, ◌<◌, ◌≡◌, true, false}
use Rattle.lists.specs.Bools.{clash, fails}
use Rattle.rules.specs.Tables.{Table, Block, row, row_count, withdrawn}

-- a part of a table, a rows standing before it
abbrev pub at : ℕ → Table → Block
at a rows = record { start = a; rows = rows }

-- below a withdrawn row all are: scores fall
abbrev pub WithdrawnBelow : Table → Type 0
WithdrawnBelow rows =
    (i j : ℕ) → i ≤ j → j < row_count rows → withdrawn (row rows i) ≡ true → withdrawn (row rows j) ≡ true

-- above a row that is not withdrawn none is
pub above_live : (rows : Table) → WithdrawnBelow rows → (i j : ℕ) → i ≤ j → j < row_count rows
    → withdrawn (row rows j) ≡ false → withdrawn (row rows i) ≡ false
above_live rows below i j h k e = fails (withdrawn (row rows i)) (λ f. clash (below i j h k f) e)
