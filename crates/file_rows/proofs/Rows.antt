-- The checks of a row are the rules' checks of the file's table, and what they come to. Assumes nothing.
use Rattle.std.proofs.Common.{◌≡◌, refl, sym, ap, ap₂, ◌∙◌, Bool, ◌&&◌, ◌||◌, List, ℕ, zero, suc, ◌+◌, ◌*◌, ◌-◌, ◌<◌}
use Rattle.std.proofs.Common.{ℤ, pos, Option, Some, None, Ok, Err, add-one, arith, eq-eqb, ne_eqb}
use Rattle.std.proofs.Math.Decide.{le_ind}
use lib.Signed.{le_z}
use Rattle.lists.specs.Lists.{every, range}
use Rattle.lists.specs.Parts.{every_same, mem_range}
use Rattle.rules.specs.declared.Refusal.{Refusal}
use Rattle.rules.specs.Tables.{Table, width, num, HasRow, within, coordinate_fits, fits_at, shade_fits, shade_at}
use Rattle.rules.specs.Tables.{row_in_range, row_in_order}
use Rattle.rules.specs.Widths.{next_row, shade_length, shade_num}
use Rattle.rules.specs.Numbers.{number_of, unfit}
use Rattle.rules.specs.Numbered.{refusal_again, number_range}
use Rattle.rules.specs.Calls.{row_code}
use Rattle.rules.specs.File.{header_bytes, row_bytes, number_at, row_start, row_columns_fit, file_table}
use Rattle.rules.specs.File.{file_row_code, and_row, rows_loaded}
use Rattle.file_laws.specs.Table.{table_length, table_num}
use Rattle.row_ranges.specs.Ranges.{in_range_parts}
use Rattle.file_row.specs.Held.{columns_held, coordinate_held, numbers_held, follows, held_row_code}

-- the score of the row before row i + 1, if there is one
abbrev pub score_before : Table → ℕ → Option ℤ
score_before t zero = None
score_before t (suc i) = Some (num t i 1)

order_is : (t : Table) (i : ℕ) → follows (score_before t i) (num t i 1) ≡ row_in_order t i
unfolding row_in_order
order_is t zero = refl
order_is t (suc i) =
    let last : suc i - 1 ≡ i = omega arith in
    ap (λ (k : ℕ). le_z (num t (suc i) 1) (num t k 1)) (sym last)
    ∙ ap (λ (b : Bool). b || le_z (num t (suc i) 1) (num t (suc i - 1) 1))
    (sym (ne_eqb (suc i) 0 (λ e. omega (arith, e))))

-- row i + 1 of a file's table
module _ (n : ℕ) (bytes : List ℕ) (m i : ℕ) (h : i < m) where
  abbrev t : Table
  t = file_table n bytes m

  number_is : (j : ℕ) → j < width n → number_at bytes (row_start n i) j ≡ num t i j
  number_is j k = sym (table_num n bytes m i j h k)

  there : HasRow t i
  unfolding file_table
  there = omega (arith, table_length n bytes m, next_row (width n) i m h)

  shade_is : every (coordinate_held bytes (row_start n i)) (range 0 n) ≡ shade_fits (shade_at t i)
  unfolding file_table shade_fits fits_at coordinate_held
  shade_is =
      every_same (coordinate_held bytes (row_start n i)) (fits_at (shade_at t i)) (range 0 n)
      (λ k e.
      let s : k < n = omega (arith, ((mem_range k 0 n).0 e).1) in
      ap (coordinate_fits k) (number_is (k + 2) (omega arith) ∙ sym (shade_num t i k s)))
      ∙ ap (λ (c : ℕ). every (fits_at (shade_at t i)) (range 0 c)) (sym (shade_length t i there))

  inside_is : numbers_held n bytes (row_start n i) ≡ row_in_range t i
  unfolding numbers_held row_in_range
  inside_is =
      let pattern = ap (within (pos 1) (pos 999999)) (number_is 0 (omega arith)) in
      let score = ap (within (pos 0) (pos 9999)) (number_is 1 (omega arith)) in
      ap₂ (λ (a b : Bool). a && b) (ap₂ (λ (a b : Bool). a && b) pattern score) shade_is
      ∙ in_range_parts (num t i 0) (num t i 1) (shade_at t i)

  code_is : held_row_code n bytes (row_start n i) (score_before t i) ≡ file_row_code bytes t i
  unfolding held_row_code columns_held file_row_code row_columns_fit row_code file_table
  code_is = simp (inside_is, number_is 1 (omega arith), order_is t i)

  -- the same, of what was read of it where it begins
  module _ (size : ℕ) (e : size ≡ row_bytes n) where
    place : header_bytes + size * i ≡ row_start n i
    place = ap (λ (z : ℕ). header_bytes + z * i) e

    pub checked_is : (k : ℕ) (before : Option ℤ) → before ≡ score_before t i
        → k ≡ held_row_code n bytes (header_bytes + size * i) before → k ≡ file_row_code bytes t i
    checked_is k before b h =
        h ∙ ap₂ (λ (o : ℕ) (x : Option ℤ). held_row_code n bytes o x) place b ∙ code_is

    pub score_is : (z : ℤ) → z ≡ number_at bytes (header_bytes + size * i) 1 → Some z ≡ score_before t (i + 1)
    score_is z h =
        ap Some (h ∙ ap (λ (o : ℕ). number_at bytes o 1) place ∙ number_is 1 (omega arith))
        ∙ ap (score_before t) (sym (add-one i))

-- rows that were accepted, and the next
module _ (bytes : List ℕ) (t : Table) (i : ℕ) (so_far : rows_loaded bytes t i ≡ Ok i) where
  pub one_more : file_row_code bytes t i ≡ 0 → rows_loaded bytes t (i + 1) ≡ Ok (i + 1)
  unfolding rows_loaded and_row
  one_more z =
      ap (λ (m : ℕ). rows_loaded bytes t m) (add-one i) ∙ rw (so_far, eq-eqb (file_row_code bytes t i) 0 z)

  pub refused : (e : Refusal) → number_of e ≡ file_row_code bytes t i → (n : ℕ) → i < n →
      Err (record { refusal = e; row = i + 1 }) ≡ rows_loaded bytes t n
  unfolding rows_loaded and_row
  refused e c n h =
      let some : file_row_code bytes t i ≡ 0 → ⊥ = λ z. omega (arith, c, z, (number_range e).1) in
      let here : rows_loaded bytes t (suc i) ≡ unfit (number_of e) (i + 1) =
      rw (so_far, ne_eqb (file_row_code bytes t i) 0 some, ← c) in
      sym (le_ind (λ (m : ℕ). rows_loaded bytes t m ≡ unfit (number_of e) (i + 1)) here (λ m l ih. rw ih) n h
      ∙ rw refusal_again)
