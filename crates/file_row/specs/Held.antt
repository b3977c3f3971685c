-- What is read of a row, and the checks of what was read, by the rules' "The strict file".
-- Definitions only. Assumes nothing.
use Rattle.std.specs.Prelude.{ℕ, ◌+◌, Bool, true, ◌&&◌, List, [], ◌∷◌, ℤ, pos}
use Rattle.std.specs.Prelude.{Option, Some, None, unwrap_or, Result}
use Rattle.std.specs.Int.Signed.{le_z}
use Rattle.lists.specs.Lists.{every, range}
use Rattle.rules.specs.Tables.{width, within, coordinate_fits}
use Rattle.rules.specs.Numbers.{row_limit, row_order, bad_column, unless, first}
use Rattle.rules.specs.File.{is_signed, column_start, column_at, column_fits_at, number_at, ends_line}
use Rattle.column.specs.Column.{column_held, formed}
use Rattle.file_row.specs.declared.Row.{Row}

-- whether the first k columns of the row that begins at o are formed as they must be
unfoldable pub columns_held : ℕ → List ℕ → ℕ → Bool
columns_held k bytes o = every (column_fits_at bytes o) (range 0 k)

-- whether its pattern number and score, and its first k coordinates, keep their ranges
unfoldable pub coordinate_held : List ℕ → ℕ → ℕ → Bool
coordinate_held bytes o k = coordinate_fits k (number_at bytes o (k + 2))

unfoldable pub numbers_held : ℕ → List ℕ → ℕ → Bool
numbers_held k bytes o =
    (within (pos 1) (pos 999999) (number_at bytes o 0) && within (pos 0) (pos 9999) (number_at bytes o 1))
    && every (coordinate_held bytes o) (range 0 k)

-- what is read of number j of it: 0 where its column is not formed as it must be
unfoldable pub held_column : List ℕ → ℕ → ℕ → ℤ
held_column bytes o j = unwrap_or (column_held (is_signed j) (column_at bytes o j)) (pos 0)

-- whether its pattern number and score, and its first k coordinates, keep their ranges as they are read
unfoldable pub coordinate_read : List ℕ → ℕ → ℕ → Bool
coordinate_read bytes o k = coordinate_fits k (held_column bytes o (k + 2))

unfoldable pub numbers_read : ℕ → List ℕ → ℕ → Bool
numbers_read k bytes o =
    (within (pos 1) (pos 999999) (held_column bytes o 0) && within (pos 0) (pos 9999) (held_column bytes o 1))
    && every (coordinate_read bytes o) (range 0 k)

-- what is read of its columns where it has n coordinates
abbrev pub row_read : ℕ → List ℕ → ℕ → Row
row_read n bytes o =
    record { inside = numbers_read n bytes o; score = held_column bytes o 1; end = o + column_start (width n) }

-- in Ok where its columns are formed as they must be, else in Err
unfoldable pub columns_row : ℕ → List ℕ → ℕ → Result Row Row
columns_row n bytes o = formed (columns_held (width n) bytes o) (row_read n bytes o)

-- "Each row, 27 bytes", or 33: in Ok where its columns and its LF are formed as they must be, else in Err
unfoldable pub row_held : ℕ → List ℕ → ℕ → Result Row Row
row_held n bytes o =
    formed (columns_held (width n) bytes o && ends_line bytes (o + column_start (width n))) (row_read n bytes o)

-- whether a score is at most the one before, if there is one
abbrev pub follows : Option ℤ → ℤ → Bool
follows None z = true
follows (Some last) z = le_z z last

-- "each row by 9, 6, 7"
unfoldable pub held_row_code : ℕ → List ℕ → ℕ → Option ℤ → ℕ
held_row_code n bytes o before =
    first
    (unless (columns_held (width n) bytes o && ends_line bytes (o + column_start (width n))) bad_column
    ∷ unless (numbers_held n bytes o) row_limit
    ∷ unless (follows before (number_at bytes o 1)) row_order
    ∷ [])

-- the same of what was read, behind that of its form
unfoldable pub read_row_code : Row → Option ℤ → ℕ
read_row_code row before =
    first (unless row.inside row_limit ∷ unless (follows before row.score) row_order ∷ [])
