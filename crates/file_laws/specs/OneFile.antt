-- Two different accepted files of the same kind give different rows. Assumes nothing.
use Rattle.std.specs.Prelude.{◌≡◌, refl, Bool, true, false, cond, List, [], ◌∷◌, ◌++◌, eqb, ℤ, pos, neg_ℤ, length}
use Rattle.std.specs.Prelude.{get_or, Ok}
use Rattle.std.proofs.Common.{sym, ap₂, ◌∙◌, add-zero, take-append-drop, length-drop, drop_of_length-le, drop-drop}
use Rattle.std.proofs.Common.{drop-cons, length-take-le, eqb-true}
use Rattle.std.proofs.Math.Path.{ap}
use Prim.Native.Nat.{ℕ, zero, suc, ◌+◌, ◌≤◌, ◌<◌}
use native.Mathlib.Omega.{arith}
use Rattle.std.proofs.Math.ListN.{drop}
use Rattle.rules.specs.Tables.{Table, nat_of, num, row_count, width}
use Rattle.rules.specs.Widths.{rows_count, next_row}
use Rattle.rules.specs.Calls.{between}
use Rattle.rules.specs.File.{after_blanks, digits_from, has_minus, digits_of, columns, column_fits, column_number}
use Rattle.rules.specs.File.{header_bytes, ends_line, header_fits, file_count, file_kind, kind_fits, check_file}
use Rattle.rules.specs.File.{is_signed, column_bytes, column_start, row_bytes, row_start, column_fits_at, number_at}
use Rattle.rules.specs.File.{row_columns_fit, file_table, wanted}
use Rattle.lists.specs.Bools.{and_right}
use Rattle.file_laws.specs.Parts.{header_parts, row_parts}
use Rattle.file_laws.specs.Table.{table_length, table_num}
use Rattle.file_laws.specs.Accepted.{accepted}
use Rattle.file_laws.specs.Spelling.{one_spelling}

module _ (l k : List ℕ) where
  -- two files that are the same from place p on, and in the column before it
  same_column : (signed : Bool) (o w p : ℕ) → o + w ≡ p → p ≤ length l → p ≤ length k →
      column_fits signed (columns l o w) ≡ true → column_fits signed (columns k o w) ≡ true →
      column_number signed (columns l o w) ≡ column_number signed (columns k o w) → drop p l ≡ drop p k →
      drop o l ≡ drop o k
  same_column signed o w p q h g f f' e rest =
      let width : (x : List ℕ) → p ≤ length x → length (columns x o w) ≡ w =
      λ x s. length-take-le w (drop o x) (rw length-drop (omega arith)) in
      let same = one_spelling signed (columns l o w) (columns k o w) (width l h ∙ sym (width k g)) f f' e in
      let cut : (x : List ℕ) → columns x o w ++ drop p x ≡ drop o x =
      λ x. ap (λ (y : List ℕ). columns x o w ++ y) (ap (λ (n : ℕ). drop n x) (sym q) ∙ sym (drop-drop w o x))
      ∙ take-append-drop w (drop o x) in
      sym (cut l) ∙ ap₂ (λ (x y : List ℕ). x ++ y) same rest ∙ cut k

  -- and in the LF before it
  same_end : (o p : ℕ) → o + 1 ≡ p → p ≤ length l → p ≤ length k → ends_line l o ≡ true → ends_line k o ≡ true →
      drop p l ≡ drop p k → drop o l ≡ drop o k
  same_end o p q h g f f' rest =
      let byte : get_or l o 0 ≡ get_or k o 0 = eqb-true (get_or l o 0) 10 f ∙ sym (eqb-true (get_or k o 0) 10 f') in
      let next : suc o ≡ p = omega arith in
      drop-cons l o 0 (omega arith)
      ∙ ap₂ (λ (x : ℕ) (y : List ℕ). x ∷ y) byte
      (ap (λ (n : ℕ). drop n l) next ∙ rest ∙ sym (ap (λ (n : ℕ). drop n k) next))
      ∙ sym (drop-cons k o 0 (omega arith))

  -- and in the m columns before it, the first of them at o
  same_columns : (o m : ℕ) → o + column_start m ≤ length l → o + column_start m ≤ length k →
      ((j : ℕ) → j < m → column_fits_at l o j ≡ true) → ((j : ℕ) → j < m → column_fits_at k o j ≡ true) →
      ((j : ℕ) → j < m → number_at l o j ≡ number_at k o j) →
      drop (o + column_start m) l ≡ drop (o + column_start m) k → drop o l ≡ drop o k
  unfolding column_start column_fits_at number_at
  same_columns o zero h g f f' e rest =
      let z : o + 0 ≡ o = omega arith in
      ap (λ (x : ℕ). drop x l) (sym z) ∙ rest ∙ ap (λ (x : ℕ). drop x k) z
  same_columns o (suc m) h g f f' e rest =
      let last : m < suc m = omega arith in
      same_columns o m (omega arith) (omega arith) (λ j s. f j (omega arith)) (λ j s. f' j (omega arith))
      (λ j s. e j (omega arith))
      (same_column (is_signed m) (o + column_start m) (column_bytes m) (o + column_start (suc m)) (omega arith) h g
      (f m last) (f' m last) (e m last) rest)

  -- and in the row before it
  same_row : (n i : ℕ) → row_start n (suc i) ≤ length l → row_start n (suc i) ≤ length k →
      row_columns_fit n l i ≡ true → row_columns_fit n k i ≡ true →
      ((j : ℕ) → j < width n → number_at l (row_start n i) j ≡ number_at k (row_start n i) j) →
      drop (row_start n (suc i)) l ≡ drop (row_start n (suc i)) k → drop (row_start n i) l ≡ drop (row_start n i) k
  unfolding row_bytes
  same_row n i h g f f' e rest =
      let o = row_start n i in
      let p = row_parts n l i f in
      let q = row_parts n k i f' in
      let end = o + column_start (width n) in
      let next : end + 1 ≡ row_start n (suc i) = omega arith in
      same_columns o (width n) (omega arith) (omega arith) p.column q.column e
      (same_end end (row_start n (suc i)) next h g p.end q.end rest)

  -- and in all rows from row i + 1 on
  same_rows : (n m : ℕ) → length l ≡ row_start n m → length k ≡ row_start n m →
      ((i : ℕ) → i < m → (row_columns_fit n l i ≡ true) × (row_columns_fit n k i ≡ true)) →
      ((i j : ℕ) → i < m → j < width n → number_at l (row_start n i) j ≡ number_at k (row_start n i) j) →
      (left i : ℕ) → left + i ≡ m → drop (row_start n i) l ≡ drop (row_start n i) k
  same_rows n m h g fit same zero i e =
      let end : i ≡ m = omega arith in
      let all : row_start n i ≡ row_start n m = ap (row_start n) end in
      drop_of_length-le l {i = row_start n i} (omega arith)
      ∙ sym (drop_of_length-le k {i = row_start n i} (omega arith))
  same_rows n m h g fit same (suc left) i e =
      let s : i < m = omega arith in
      let row = fit i s in
      let long = next_row (row_bytes n) i m s in
      same_row n i (omega arith) (omega arith) row.0 row.1 (λ j u. same i j s u)
      (same_rows n m h g fit same left (suc i) (omega arith))

  -- and in the header
  same_header : header_bytes ≤ length l → header_bytes ≤ length k → header_fits l ≡ true → header_fits k ≡ true →
      column_number false (columns l 0 6) ≡ column_number false (columns k 0 6) →
      column_number false (columns l 6 6) ≡ column_number false (columns k 6 6) →
      drop header_bytes l ≡ drop header_bytes k → l ≡ k
  same_header h g f f' count kind rest =
      let p = header_parts l f in
      let q = header_parts k f' in
      let end = same_end 12 header_bytes refl h g p.end q.end rest in
      let second = same_column false 6 6 12 refl (omega arith) (omega arith) p.kind q.kind kind end in
      same_column false 0 6 6 refl (omega arith) (omega arith) p.count q.count count second

-- a number in a column without a minus
unsigned : (l : List ℕ) → column_number false l ≡ pos (nat_of (column_number false l))
unfolding column_number has_minus
unsigned l = go (after_blanks l) (digits_from 0 (digits_of false l))
  where
    go : (m : List ℕ) (n : ℕ) →
        let z = cond (has_minus false m) (neg_ℤ (pos n)) (pos n) in z ≡ pos (nat_of z)
    go [] n = refl
    go (b ∷ m) n = refl

-- two accepted files of the same kind that give the same rows are the same bytes
pub one_file : (l k : List ℕ) (kind : ℤ) (m p : ℕ) → check_file l kind ≡ Ok m → check_file k kind ≡ Ok p →
    file_table (wanted kind) l m ≡ file_table (wanted kind) k p → l ≡ k
unfolding file_count file_kind kind_fits file_table
one_file l k kind m p h g t =
    let n = wanted kind in
    let f = accepted l kind m h in
    let f' = accepted k kind p g in
    let counted : (x : List ℕ) (c : ℕ) → row_count (file_table n x c) ≡ c =
    λ x c. rows_count (file_table n x c) c (table_length n x c) in
    let rows : p ≡ m = sym (counted k p) ∙ ap row_count (sym t) ∙ counted l m in
    let count =
    unsigned (columns l 0 6) ∙ ap pos (f.count ∙ sym rows ∙ sym f'.count) ∙ sym (unsigned (columns k 0 6)) in
    let found : (x : List ℕ) → kind_fits x kind ≡ true → file_kind x ≡ nat_of kind =
    λ x s. eqb-true (file_kind x) (nat_of kind)
    (and_right (between 1 4 (nat_of kind)) (eqb (file_kind x) (nat_of kind)) s) in
    let kinds =
    unsigned (columns l 6 6)
    ∙ ap pos (found l f.head.kind_fits_lem ∙ sym (found k f'.head.kind_fits_lem))
    ∙ sym (unsigned (columns k 6 6)) in
    let number : (i j : ℕ) → i < m → j < width n → number_at l (row_start n i) j ≡ number_at k (row_start n i) j =
    λ i j s u.
    sym (table_num n l m i j s u) ∙ ap (λ (x : Table). num x i j) t ∙ table_num n k p i j (omega arith) u in
    let from : row_start n 0 ≡ header_bytes = omega arith in
    let rest =
    same_rows l k n m f.size (f'.size ∙ ap (row_start n) rows)
    (λ i s. ((f.rows i s).columns, (f'.rows i (omega arith)).columns)) number m 0 (add-zero m) in
    same_header l k f.head.whole f'.head.whole f.head.fits f'.head.fits count kinds
    (ap (λ (x : ℕ). drop x l) (sym from) ∙ rest ∙ ap (λ (x : ℕ). drop x k) from)
