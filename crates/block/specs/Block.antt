-- The block join: what it makes of the pairs held, and the same in the code's own shape, pair by pair. Definitions
-- only. Assumes nothing.
use Rattle.std.specs.Prelude.{ℕ, zero, suc, ◌+◌, ◌*◌, ◌≤◌, ◌<◌, ◌≡◌, Bool, true, cond, List, ◌++◌, length, take}
use Rattle.lists.specs.Lists.{ins, sort}
use Rattle.lists.specs.Words.{Ordered}
use Rattle.rules.specs.declared.Pair.{Pair}
use Rattle.rules.specs.Tables.{Table, Terms, most_rows, row_in_range, Block, row, pair_at, qualifying}
use Rattle.rules.specs.Tables.{ahead, width, row_count}
use Rattle.keys.specs.Held.{Keyed}

-- a part of n whole rows within a table's 65,535, each of which passed 6 and 7
pub record RowsPassed (a : ℕ) (rows : Table) : Type 0 where
  pub whole : width rows.coordinates * row_count rows ≡ length rows.numbers
  pub few : a + row_count rows ≤ most_rows
  pub range : (i : ℕ) → i < row_count rows → row_in_range rows i ≡ true
  pub falls : (i j : ℕ) → i ≤ j → j < row_count rows → (row rows j).score ≤ (row rows i).score

-- the pairs of x and y that qualify among those that keys stand for, of which at most `room` are kept: those that
-- `after` stands for
pub record Joined (w : Terms) (room : ℕ) (x y : Block) (ks after : List ℕ) : Type 0 where
  pub few : length after ≤ room
  pub held : (l : List Pair) → Keyed l ks → Ordered ahead l
      → Keyed (take room (sort ahead (l ++ qualifying w x y))) after

-- p among the pairs held, of which at most `room` are kept, if it qualifies
abbrev pub put_if : Bool → ℕ → Pair → List Pair → List Pair
put_if qualified room p l = cond qualified (take room (ins ahead p l)) l

-- row i + 1 of x with the first rows of y
unfoldable pub met_row : Terms → ℕ → Block → Block → ℕ → List Pair → ℕ → List Pair
met_row w room x y i l zero = l
met_row w room x y i l (suc j) =
    put_if (w.near (row x.rows i) (row y.rows j)) room (pair_at w x y i j) (met_row w room x y i l j)

-- the first rows of x with all rows of y
unfoldable pub met_rows : Terms → ℕ → Block → Block → List Pair → ℕ → List Pair
met_rows w room x y l zero = l
met_rows w room x y l (suc i) = met_row w room x y i (met_rows w room x y l i) (row_count y.rows)

-- row i + 1 of x with all rows of y
pub record RowJoined (w : Terms) (room : ℕ) (x y : Block) (i : ℕ) (ks after : List ℕ) : Type 0 where
  pub few : length after ≤ room
  pub held : (l : List Pair) → Keyed l ks → Ordered ahead l → Keyed (met_row w room x y i l (row_count y.rows)) after
