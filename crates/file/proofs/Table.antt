-- The table that is written, number after number and row after row. Assumes nothing.
use mathlib.Core.Path.{◌≡◌, sym, ap, ◌∙◌}
use mathlib.Core.List.{List, [], ◌∷◌, ◌++◌, map, map-append, append_assoc}
use Prim.Native.Nat.{ℕ, suc, ◌+◌, ◌*◌, ◌≤◌, ◌<◌}
use native.Mathlib.Numerals.{add-one}
use native.Mathlib.Omega.{arith}
use lib.IntN.{ℤ, pos}
use lib.ListN.{length, get_or, take, drop, set, length-append, take-append-drop}
use lib.Seq.{take_at, drop-append-add, drop-drop, drop-cons, set_at, length-take-le}
use Rattle.lists.specs.Lists.{range}
use Rattle.lists.specs.Appends.{range_end}
use Rattle.lists.specs.Parts.{length_map_range}
use Rattle.rules.specs.File.{row_start, row_numbers, number_at, file_table}
use Rattle.rules.specs.Tables.{table, width, after_rows}
use Rattle.file_laws.specs.Table.{table_last, table_length}
use Rattle.file.specs.Put.{put, row_put}

-- ---- Numbers from place p on

module _ (f : ℕ → ℤ) (p : ℕ) (l : List ℤ) where
  pub put_none : p ≤ length l → put f p 0 l ≡ l
  unfolding range
  put_none h =
      let e : p + 0 ≡ p = omega arith in
      ap (λ (o : ℕ). take p l ++ drop o l) e ∙ take-append-drop p l

  -- one number more
  numbers_last : (j : ℕ) → map f (range 0 (j + 1)) ≡ map f (range 0 j) ++ f j ∷ []
  numbers_last j =
      let e : 0 + j ≡ j = omega arith in
      ap (λ (m : ℕ). map f (range 0 m)) (add-one j)
      ∙ ap (map f) (range_end 0 j ∙ ap (λ (m : ℕ). range 0 j ++ m ∷ []) e)
      ∙ map-append f (range 0 j) (j ∷ [])

  pub put_more : (j : ℕ) → p + j < length l → set (put f p j l) (p + j) (f j) ≡ put f p (j + 1) l
  put_more j h =
      let front = take p l ++ map f (range 0 j) in
      let next : suc (p + j) ≡ p + (j + 1) = omega arith in
      let size : length front ≡ p + j =
      length-append (take p l) (map f (range 0 j))
      ∙ omega (arith, length-take-le p l (omega arith), length_map_range f 0 j) in
      ap (λ (r : List ℤ). set r (p + j) (f j))
      (sym (append_assoc (take p l) (map f (range 0 j)) (drop (p + j) l))
      ∙ ap (λ (r : List ℤ). front ++ r) (drop-cons l (p + j) (pos 0) h))
      ∙ set_at front (get_or l (p + j) (pos 0)) (drop (suc (p + j)) l) (f j) (p + j) size
      ∙ append_assoc (take p l) (map f (range 0 j)) (f j ∷ drop (suc (p + j)) l)
      ∙ ap (λ (r : List ℤ). take p l ++ r)
      (sym (append_assoc (map f (range 0 j)) (f j ∷ []) (drop (suc (p + j)) l))
      ∙ ap (λ (r : List ℤ). r ++ drop (suc (p + j)) l) (sym (numbers_last j))
      ∙ ap (λ (o : ℕ). map f (range 0 (j + 1)) ++ drop o l) next)

-- ---- One row more

module _ (n : ℕ) (bytes : List ℕ) (i : ℕ) (l : List ℤ) where
  abbrev rows : List ℤ
  rows = (file_table n bytes i).numbers

  abbrev rest : List ℤ
  rest = (after_rows i (table n l)).numbers

  after : drop (width n * i + width n) (rows ++ rest) ≡ drop (width n * i + width n) l
  after =
      rw (← table_length n bytes i)
      (drop-append-add rows (drop (length rows) l) (width n) ∙ drop-drop (width n) (length rows) l)

  pub one_row_lem : row_put n bytes (row_start n i) (width n * i) (rows ++ rest) ≡
      (file_table n bytes (i + 1)).numbers ++ (after_rows (i + 1) (table n l)).numbers
  unfolding row_numbers
  one_row_lem =
      let first = take_at rows rest (width n * i) (table_length n bytes i) in
      let k : width n * i + width n ≡ width n * (i + 1) = omega arith in
      let row = map (number_at bytes (row_start n i)) (range 0 (width n)) in
      ap (λ (r : List ℤ). r ++ (row ++ drop (width n * i + width n) (rows ++ rest))) first
      ∙ ap (λ (r : List ℤ). rows ++ (row ++ r)) (after ∙ ap (λ (o : ℕ). drop o l) k)
      ∙ sym (append_assoc rows row (drop (width n * (i + 1)) l))
      ∙ ap (λ (r : List ℤ). r ++ drop (width n * (i + 1)) l)
      (sym (ap (λ (m : ℕ). (file_table n bytes m).numbers) (add-one i) ∙ table_last n bytes i))
