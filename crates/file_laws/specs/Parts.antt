-- The columns and LF of a header and of a row that fit. Assumes nothing.
use Rattle.std.specs.Prelude.{◌≡◌, true, false, ◌&&◌, List, ℕ, ◌+◌, ◌<◌}
use Rattle.std.proofs.Common.{arith}
use Rattle.rules.specs.Tables.{width}
use Rattle.rules.specs.File.{columns, column_fits, column_start, column_fits_at, ends_line, header_fits, row_start}
use Rattle.rules.specs.File.{row_columns_fit}
use Rattle.lists.specs.Lists.{every, range}
use Rattle.lists.specs.Bools.{and_left, and_right}
use Rattle.lists.specs.Parts.{every_at, mem_range}

pub record HeaderFits (bytes : List ℕ) : Type 0 where
  pub count : column_fits false (columns bytes 0 6) ≡ true
  pub kind : column_fits false (columns bytes 6 6) ≡ true
  pub end : ends_line bytes 12 ≡ true

pub header_parts : (bytes : List ℕ) → header_fits bytes ≡ true → HeaderFits bytes
unfolding header_fits
header_parts bytes f =
    let c = column_fits false (columns bytes 0 6) in
    let k = column_fits false (columns bytes 6 6) in
    let e = ends_line bytes 12 in
    let rest = and_right c (k && e) f in
    record { count = and_left c (k && e) f; kind = and_left k e rest; end = and_right k e rest }

-- of a row that begins at o
pub record RowBytesFit (n : ℕ) (bytes : List ℕ) (o : ℕ) : Type 0 where
  pub column : (j : ℕ) → j < width n → column_fits_at bytes o j ≡ true
  pub end : ends_line bytes (o + column_start (width n)) ≡ true

pub row_parts : (n : ℕ) (bytes : List ℕ) (i : ℕ) → row_columns_fit n bytes i ≡ true
    → RowBytesFit n bytes (row_start n i)
unfolding row_columns_fit
row_parts n bytes i f =
    let o = row_start n i in
    let all = every (column_fits_at bytes o) (range 0 (width n)) in
    let end = ends_line bytes (o + column_start (width n)) in
    record {
      column = λ j h.
          every_at (column_fits_at bytes o) j (and_left all end f)
          ((mem_range j 0 (width n)).1 (omega arith, omega arith));
      end = and_right all end f;
    }
