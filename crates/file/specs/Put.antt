-- What is put into a lent slice. Definitions only. Assumes nothing.
use Rattle.std.specs.Prelude.{ℕ, ◌+◌, ◌<◌, ◌≡◌, true, List, ◌++◌, map, ℤ, take, drop}
use Rattle.lists.specs.Lists.{range}
use Rattle.rules.specs.Tables.{width}
use Rattle.rules.specs.File.{number_at, row_columns_fit}

-- f of 0, 1, .. put in place of the m numbers from place p on
abbrev pub put : (ℕ → ℤ) → ℕ → ℕ → List ℤ → List ℤ
put f p m l = take p l ++ (map f (range 0 m) ++ drop (p + m) l)

-- the numbers of the row of n coordinates that begins at o
abbrev pub row_put : ℕ → List ℕ → ℕ → ℕ → List ℤ → List ℤ
row_put n bytes o p l = put (number_at bytes o) p (width n) l

-- the columns and LF of the first m rows are formed as they must be
abbrev pub RowsFit : ℕ → List ℕ → ℕ → Type 0
RowsFit n bytes m = (i : ℕ) → i < m → row_columns_fit n bytes i ≡ true
