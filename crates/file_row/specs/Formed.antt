-- Where a row's columns are formed as they must be, what is read of it is what the rules say. Assumes nothing.
use Rattle.std.specs.Prelude.{◌≡◌, ℕ, ◌+◌, ◌<◌, Bool, true, ◌&&◌, List, pos}
use Rattle.std.proofs.Common.{ap, ap₂, arith}
use Rattle.lists.specs.Lists.{every, range}
use Rattle.lists.specs.Parts.{every_at, every_same, mem_range}
use Rattle.rules.specs.Tables.{width, within, coordinate_fits}
use Rattle.rules.specs.File.{is_signed, column_start, column_at, column_fits_at, number_at}
use Rattle.column.specs.Column.{number_held_lem}
use Rattle.file_row.specs.declared.Row.{Row}
use Rattle.file_row.specs.Held.{columns_held, coordinate_held, numbers_held, held_column, coordinate_read, numbers_read}
use Rattle.file_row.specs.Held.{row_read}

-- the row by the rules' numbers
abbrev pub row_by_rules : ℕ → List ℕ → ℕ → Row
row_by_rules n bytes o =
    record { inside = numbers_held n bytes o; score = number_at bytes o 1; end = o + column_start (width n) }

module _ (n : ℕ) (bytes : List ℕ) (o : ℕ) (h : columns_held (width n) bytes o ≡ true) where
  number_formed : (j : ℕ) → j < width n → held_column bytes o j ≡ number_at bytes o j
  unfolding columns_held column_fits_at held_column number_at
  number_formed j l =
      let m = (mem_range j 0 (width n)).1 (omega arith, omega arith) in
      rw (number_held_lem (is_signed j) (column_at bytes o j) (every_at (column_fits_at bytes o) j h m))

  shade_formed : every (coordinate_read bytes o) (range 0 n) ≡ every (coordinate_held bytes o) (range 0 n)
  unfolding coordinate_read coordinate_held
  shade_formed =
      every_same (coordinate_read bytes o) (coordinate_held bytes o) (range 0 n)
      (λ k m. ap (coordinate_fits k) (number_formed (k + 2) (omega (arith, ((mem_range k 0 n).0 m).1))))

  pub row_formed : row_read n bytes o ≡ row_by_rules n bytes o
  unfolding numbers_read numbers_held
  row_formed =
      let pattern = ap (within (pos 1) (pos 999999)) (number_formed 0 (omega arith)) in
      let score = number_formed 1 (omega arith) in
      let inside =
      ap₂ (λ (a b : Bool). a && b)
      (ap₂ (λ (a b : Bool). a && b) pattern (ap (within (pos 0) (pos 9999)) score)) shade_formed in
      λ i. record { inside = inside i; score = score i; end = o + column_start (width n) }
