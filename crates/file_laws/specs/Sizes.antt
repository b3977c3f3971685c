-- What numbers an answer can have. Assumes nothing.
use Rattle.std.specs.Prelude.{◌≡◌, refl, Bool, true, false, cond, List, ℕ, zero, suc, ◌+◌, ◌*◌, ◌≤◌, ltb, eqb, ℤ}
use Rattle.std.specs.Prelude.{length}
use Rattle.std.specs.Prelude.{Ok, Err}
use Rattle.std.proofs.Common.{arith, eqb-true}
use Rattle.rules.specs.declared.Refusal.{Refusal}
use Rattle.rules.specs.declared.Unfit.{Unfit}
use Rattle.rules.specs.Tables.{Table, most_rows, width}
use Rattle.rules.specs.Numbers.{IsRefusal, number_of, short_slice, Loaded, unfit}
use Rattle.rules.specs.Numbered.{number_range}
use Rattle.rules.specs.File.{file_count, wanted, head_code, check_file, file_table, file_row_code, and_row, rows_loaded}
use Rattle.rules.specs.File.{and_slice, load_answer}
use Rattle.file_laws.specs.Accepted.{head_passed}

-- what can be told of a file of at most n rows: their count, or a refusal with one of the rows or 0
abbrev pub Told : ℕ → Loaded → Type 0
Told n (Ok m) = m ≤ n
Told n (Err e) = e.row ≤ n

told_more : (n m : ℕ) (x : Loaded) → n ≤ m → Told n x → Told m x
told_more n m (Ok k) l h = omega arith
told_more n m (Err e) l h = omega (arith, h)

-- ---- What is told of the rows, of a file, and of a file with a slice

row_told : (bytes : List ℕ) (t : Table) (n : ℕ) (x : Loaded) → Told n x → Told (suc n) (and_row bytes t n x)
unfolding and_row
row_told bytes t n (Err e) h = told_more n (suc n) (Err e) (omega arith) h
row_told bytes t n (Ok m) h = go (eqb (file_row_code bytes t n) 0)
  where
    go : (b : Bool) → Told (suc n) (cond b (Ok (n + 1)) (unfit (file_row_code bytes t n) (n + 1)))
    go true = omega arith
    go false = omega arith

rows_told : (bytes : List ℕ) (t : Table) (n : ℕ) → Told n (rows_loaded bytes t n)
unfolding rows_loaded
rows_told bytes t zero = omega arith
rows_told bytes t (suc n) = row_told bytes t n (rows_loaded bytes t n) (rows_told bytes t n)

pub check_told : (bytes : List ℕ) (kind : ℤ) → Told most_rows (check_file bytes kind)
unfolding check_file
check_told bytes kind = go (eqb (head_code bytes kind) 0) refl
  where
    go : (b : Bool) → eqb (head_code bytes kind) 0 ≡ b →
        Told most_rows
        (cond b (rows_loaded bytes (file_table (wanted kind) bytes (file_count bytes)) (file_count bytes))
        (unfit (head_code bytes kind) 0))
    go true e =
        let n = file_count bytes in
        let t = file_table (wanted kind) bytes n in
        let head = head_passed bytes kind (eqb-true (head_code bytes kind) 0 e) in
        told_more n most_rows (rows_loaded bytes t n) head.few (rows_told bytes t n)
    go false e = omega arith

slice_told : (n lent : ℕ) (x : Loaded) → Told most_rows x → Told most_rows (and_slice n lent x)
unfolding and_slice
slice_told n lent (Err e) h = h
slice_told n lent (Ok m) h = go (ltb lent (width n * m))
  where
    go : (b : Bool) → Told most_rows (cond b (unfit short_slice 0) (Ok m))
    go true = omega arith
    go false = h

pub load_told : (bytes : List ℕ) (kind : ℤ) (lent : List ℤ) → Told most_rows (load_answer bytes kind lent)
unfolding load_answer
load_told bytes kind lent = slice_told (wanted kind) (length lent) (check_file bytes kind) (check_told bytes kind)

-- a refused file has a number other than 0
pub file_numbered : (bytes : List ℕ) (kind : ℤ) (e : Unfit) → check_file bytes kind ≡ Err e
    → number_of e.refusal ≡ 0 → ⊥
file_numbered bytes kind e h z = omega (arith, number_range e.refusal)
