-- An accepted file's rows are legal; a file is accepted for at most one kind; the check alone and the
-- reading with a long enough slice agree. Assumes nothing.
use Rattle.std.specs.Prelude.{◌≡◌, refl, Bool, true, false, ◌&&◌, List, ℕ, zero, suc, ◌+◌, ◌*◌, ◌%◌, ◌≤◌, ◌<◌, leb, ltb}
use Rattle.std.specs.Prelude.{eqb, ℤ, pos, negsuc, length, Ok, Err}
use Rattle.std.proofs.Common.{sym, ap, ◌∙◌, arith, le-leb, le-ltb, leb-true, eqb-true}
use Rattle.lists.specs.Lists.{every, range}
use Rattle.rules.specs.Numbers.{Loaded}
use Rattle.rules.specs.Tables.{table, most_rows, nat_of, row_in_range, row_in_order, size_fits, legal, width, HasRows}
use Rattle.rules.specs.Tables.{row_count}
use Rattle.rules.specs.Widths.{rows_count, no_rest}
use Rattle.rules.specs.Calls.{between}
use Rattle.rules.specs.File.{file_count, file_kind, file_table, kind_fits, wanted, check_file, and_slice, load_answer}
use Rattle.lists.specs.Bools.{and_left, and_right, and_in}
use Rattle.file_laws.specs.Table.{table_length}
use Rattle.file_laws.specs.Accepted.{accepted}

-- a test that all numbers from a on pass
every_range : (test : ℕ → Bool) (a n : ℕ) → ((i : ℕ) → a ≤ i → i < a + n → test i ≡ true) →
    every test (range a n) ≡ true
unfolding every range
every_range test a zero h = refl
every_range test a (suc n) h =
    and_in (test a) (every test (range (suc a) n)) (h a (omega arith) (omega arith))
    (every_range test (suc a) n (λ i k l. h i (omega arith) (omega arith)))

-- an accepted file's rows are legal
pub accepted_legal : (bytes : List ℕ) (kind : ℤ) (n : ℕ) → check_file bytes kind ≡ Ok n →
    legal (file_table (wanted kind) bytes n) ≡ true
unfolding legal size_fits file_table
accepted_legal bytes kind n h =
    let f = accepted bytes kind n h in
    let w = width (wanted kind) in
    let t = file_table (wanted kind) bytes n in
    let size = table_length (wanted kind) bytes n in
    let rows : row_count t ≡ n = rows_count t n size in
    let whole : length t.numbers % w ≡ 0 = no_rest t (ap (◌*◌ w) rows ∙ sym size) in
    let each_row : every (λ i. row_in_range t i && row_in_order t i) (range 0 n) ≡ true =
    every_range (λ i. row_in_range t i && row_in_order t i) 0 n
    (λ i k l.
    let p = f.rows i (omega arith) in and_in (row_in_range t i) (row_in_order t i) p.limit p.order) in
    simp (rows, whole, each_row, le-leb n most_rows f.few)

-- a file is accepted for at most one kind
pub one_kind : (bytes : List ℕ) (j k : ℤ) (n m : ℕ) → check_file bytes j ≡ Ok n → check_file bytes k ≡ Ok m → j ≡ k
unfolding kind_fits
one_kind bytes j k n m h l =
    same j k (found j (accepted bytes j n h).head.kind_fits_lem) (found k (accepted bytes k m l).head.kind_fits_lem)
  where
    found : (x : ℤ) → kind_fits bytes x ≡ true → (1 ≤ nat_of x) × (file_kind bytes ≡ nat_of x)
    found x f =
        let some = and_left (leb 1 (nat_of x)) (leb (nat_of x) 4)
        (and_left (between 1 4 (nat_of x)) (eqb (file_kind bytes) (nat_of x)) f) in (
          leb-true 1 (nat_of x) some,
          eqb-true (file_kind bytes) (nat_of x)
              (and_right (between 1 4 (nat_of x)) (eqb (file_kind bytes) (nat_of x)) f),
        )

    same : (x y : ℤ) → (1 ≤ nat_of x) × (file_kind bytes ≡ nat_of x) → (1 ≤ nat_of y) × (file_kind bytes ≡ nat_of y)
        → x ≡ y
    same (pos a) (pos b) p q = ap pos (omega arith)
    same (pos a) (negsuc b) p q = absurd (omega arith)
    same (negsuc a) y p q = absurd (omega arith)

-- the check alone and the reading into a long enough slice agree
pub check_and_load : (bytes : List ℕ) (kind : ℤ) (lent : List ℤ) →
    HasRows (table (wanted kind) lent) (file_count bytes) → load_answer bytes kind lent ≡ check_file bytes kind
unfolding load_answer and_slice
check_and_load bytes kind lent h = go (check_file bytes kind) refl
  where
    go : (x : Loaded) → check_file bytes kind ≡ x →
        and_slice (wanted kind) (length lent) (check_file bytes kind) ≡ check_file bytes kind
    go (Err u) e = ap (and_slice (wanted kind) (length lent)) e ∙ sym e
    go (Ok n) e =
        let f = accepted bytes kind n e in
        let w = width (wanted kind) in
        let same : w * file_count bytes ≡ w * n = ap (◌*◌ w) f.count in
        let room : ltb (length lent) (w * n) ≡ false = le-ltb (length lent) (w * n) (omega (arith, h, same)) in
        ap (and_slice (wanted kind) (length lent)) e ∙ rw room (sym e)
