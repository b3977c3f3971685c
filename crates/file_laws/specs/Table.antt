-- The table of a file's first m rows: row after row, as many numbers each as it has columns. Assumes nothing.
use Rattle.std.specs.Prelude.{◌≡◌, Bool, ℤ, pos}
use Rattle.std.proofs.Math.Path.{refl, sym, ap}
use Rattle.std.proofs.Common.{◌∙◌, zero-add}
use Rattle.std.proofs.Math.Bool.{true, false}
use mathlib.Core.List.{List, ◌++◌, append_assoc, append-nil}
use Prim.Native.Nat.{ℕ, zero, suc, ◌+◌, ◌*◌, ◌<◌}
use native.Mathlib.Omega.{arith}
use Rattle.std.proofs.Math.Dec.{ltb}
use Rattle.std.proofs.Math.ListN.{length, get_or, length-append, get_or-append}
use Rattle.std.proofs.Math.Seq.{get_or-append-add}
use borrow.Author.Tests.{ltb-true, ltb-false}
use Rattle.lists.specs.Lists.{range, each}
use Rattle.lists.specs.Parts.{length_map_range, map_range_at}
use Rattle.rules.specs.Tables.{table, width, num}
use Rattle.rules.specs.Widths.{next_row}
use Rattle.rules.specs.File.{row_start, number_at, row_numbers, file_table}

module _ {B : Type 0} (f : ℕ → List B) where
  -- the last of some numbers in a row
  pub each_range_last : (a n : ℕ) → each f (range a (suc n)) ≡ each f (range a n) ++ f (a + n)
  unfolding each range
  each_range_last a zero = let e : a + 0 ≡ a = omega arith in rw e (append-nil (f a))
  each_range_last a (suc n) =
      let e : suc a + n ≡ a + suc n = omega arith in
      ap (λ (l : List B). f a ++ l) (each_range_last (suc a) n)
      ∙ sym (append_assoc (f a) (each f (range (suc a) n)) (f (suc a + n)))
      ∙ ap (λ (k : ℕ). (f a ++ each f (range (suc a) n)) ++ f k) e

module _ (n : ℕ) (bytes : List ℕ) where
  -- its numbers
  abbrev numbers : ℕ → List ℤ
  numbers m = (file_table n bytes m).numbers

  pub table_last : (m : ℕ) → numbers (suc m) ≡ numbers m ++ row_numbers n bytes m
  unfolding file_table
  table_last m =
      each_range_last (row_numbers n bytes) 0 m
      ∙ ap (λ (k : ℕ). each (row_numbers n bytes) (range 0 m) ++ row_numbers n bytes k) (zero-add m)

  pub row_length : (i : ℕ) → length (row_numbers n bytes i) ≡ width n
  unfolding row_numbers
  row_length i = length_map_range (number_at bytes (row_start n i)) 0 (width n)

  -- number j of a row
  pub row_number : (i j : ℕ) → j < width n → get_or (row_numbers n bytes i) j (pos 0)
      ≡ number_at bytes (row_start n i) j
  unfolding row_numbers
  row_number i j h =
      map_range_at (number_at bytes (row_start n i)) 0 (width n) j (pos 0) h
      ∙ ap (number_at bytes (row_start n i)) (zero-add j)

  pub table_length : (m : ℕ) → length (numbers m) ≡ width n * m
  unfolding file_table each range
  table_length zero = omega arith
  table_length (suc m) =
      ap length (table_last m)
      ∙ length-append (numbers m) (row_numbers n bytes m)
      ∙ omega (arith, table_length m, row_length m)

  -- number j of row i + 1
  pub table_num : (m i j : ℕ) → i < m → j < width n → num (file_table n bytes m) i j ≡ number_at bytes (row_start n i) j
  unfolding file_table
  table_num zero i j h k = absurd (omega arith)
  table_num (suc m) i j h k =
      ap (λ (l : List ℤ). num (table n l) i j) (table_last m) ∙ go (λ s. table_num m i j s k) (ltb i m) refl
    where
      go : (i < m → num (file_table n bytes m) i j ≡ number_at bytes (row_start n i) j) → (t : Bool) → ltb i m ≡ t →
          num (table n (numbers m ++ row_numbers n bytes m)) i j ≡ number_at bytes (row_start n i) j
      go above true t =
          let s : i < m = ltb-true i m t in
          get_or-append (numbers m) (row_numbers n bytes m) (pos 0) (width n * i + j)
          (omega (arith, table_length m, next_row (width n) i m s))
          ∙ above s
      go above false t =
          let e : i ≡ m = omega (arith, ltb-false i m t) in
          let p : width n * i ≡ width n * m = ap (λ (x : ℕ). width n * x) e in
          let o : width n * i + j ≡ length (numbers m) + j = omega (arith, table_length m, p) in
          ap (λ (x : ℕ). get_or (numbers m ++ row_numbers n bytes m) x (pos 0)) o
          ∙ get_or-append-add (numbers m) (row_numbers n bytes m) j (pos 0)
          ∙ row_number m j k
          ∙ ap (λ (x : ℕ). number_at bytes (row_start n x) j) (sym e)
