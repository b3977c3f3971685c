-- What a file that is not refused for its header, and what an accepted file has passed. Assumes nothing.
use Rattle.std.specs.Prelude.{◌≡◌, Bool, List, [], ◌∷◌, leb, ℤ, length, get_or, Ok, Err}
use Rattle.std.proofs.Math.Path.{refl, ap}
use Rattle.std.proofs.Common.{sym, ◌∙◌, arith}
use Rattle.std.proofs.Math.Bool.{true, false, cond}
use Prim.Native.Nat.{ℕ, zero, suc, ◌+◌, ◌≤◌, ◌<◌}
use Rattle.std.proofs.Math.Dec.{ltb, eqb}
use borrow.Author.Tests.{leb-true, ltb-true, ltb-false, eqb-true}
use Rattle.rules.specs.Tables.{Table, most_rows, row_in_range, row_in_order}
use Rattle.rules.specs.Numbers.{table_size, row_limit, row_order, cut_file, bad_column, wrong_kind, unless}
use Rattle.rules.specs.Numbers.{Loaded, unfit}
use Rattle.rules.specs.Calls.{row_code}
use Rattle.rules.specs.File.{header_bytes, header_fits, file_count, kind_fits, wanted, row_start, head_code, check_file}
use Rattle.rules.specs.File.{row_columns_fit, file_table, file_row_code, and_row, rows_loaded}
use Rattle.rules.specs.Checks.{unless_out, first_out}

-- no refusal is a row count
pub unfit_rows : {X : Type 0} (code row n : ℕ) → unfit code row ≡ Ok n → X
unfit_rows code row n h = cc

-- ---- The header

-- the header's checks, in the rules' order
abbrev pub head_checks : List ℕ → ℤ → List ℕ
head_checks bytes kind =
    unless (leb header_bytes (length bytes)) cut_file
    ∷ unless (header_fits bytes) bad_column
    ∷ unless (kind_fits bytes kind) wrong_kind
    ∷ unless (leb (file_count bytes) most_rows) table_size
    ∷ unless (eqb (length bytes) (row_start (wanted kind) (file_count bytes))) cut_file
    ∷ []

-- a header that is not refused
pub record HeadPassed (bytes : List ℕ) (kind : ℤ) : Type 0 where
  pub whole : header_bytes ≤ length bytes
  pub fits : header_fits bytes ≡ true
  pub kind_fits_lem : kind_fits bytes kind ≡ true
  pub few : file_count bytes ≤ most_rows
  pub size : length bytes ≡ row_start (wanted kind) (file_count bytes)

pub head_passed : (bytes : List ℕ) (kind : ℤ) → head_code bytes kind ≡ 0 → HeadPassed bytes kind
unfolding head_code
head_passed bytes kind e =
    let passed : (i : ℕ) → get_or (head_checks bytes kind) i 0 ≡ 0 = first_out (head_checks bytes kind) e in
    let size = row_start (wanted kind) (file_count bytes) in
    record {
      whole = leb-true header_bytes (length bytes)
          (unless_out (leb header_bytes (length bytes)) cut_file (omega arith) (passed 0));
      fits = unless_out (header_fits bytes) bad_column (omega arith) (passed 1);
      kind_fits_lem = unless_out (kind_fits bytes kind) wrong_kind (omega arith) (passed 2);
      few = leb-true (file_count bytes) most_rows
          (unless_out (leb (file_count bytes) most_rows) table_size (omega arith) (passed 3));
      size = eqb-true (length bytes) size (unless_out (eqb (length bytes) size) cut_file (omega arith) (passed 4));
    }

-- ---- A row

-- a row that is not refused
pub record RowPassed (bytes : List ℕ) (t : Table) (i : ℕ) : Type 0 where
  pub columns : row_columns_fit t.coordinates bytes i ≡ true
  pub limit : row_in_range t i ≡ true
  pub order : row_in_order t i ≡ true

pub row_passed : (bytes : List ℕ) (t : Table) (i : ℕ) → file_row_code bytes t i ≡ 0 → RowPassed bytes t i
unfolding file_row_code row_code
row_passed bytes t i e =
    let passed : (j : ℕ) → get_or (unless (row_columns_fit t.coordinates bytes i) bad_column ∷ row_code t i ∷ []) j 0
    ≡ 0 =
    first_out (unless (row_columns_fit t.coordinates bytes i) bad_column ∷ row_code t i ∷ []) e in
    let row : (j : ℕ) → get_or (unless (row_in_range t i) row_limit ∷ unless (row_in_order t i) row_order ∷ []) j 0
    ≡ 0 =
    first_out (unless (row_in_range t i) row_limit ∷ unless (row_in_order t i) row_order ∷ []) (passed 1) in
    record {
      columns = unless_out (row_columns_fit t.coordinates bytes i) bad_column (omega arith) (passed 0);
      limit = unless_out (row_in_range t i) row_limit (omega arith) (row 0);
      order = unless_out (row_in_order t i) row_order (omega arith) (row 1);
    }

-- ---- The rows

module _ (bytes : List ℕ) (t : Table) where
  -- the next row, and those before it
  record Next (n m : ℕ) (x : Loaded) : Type 0 where
    pub code : file_row_code bytes t n ≡ 0
    pub count : m ≡ n + 1
    pub before : (k : ℕ) × (x ≡ Ok k)

  next_passed : (n m : ℕ) (x : Loaded) → and_row bytes t n x ≡ Ok m → Next n m x
  unfolding and_row
  next_passed n m (Err e) h = cc
  next_passed n m (Ok k) h = go (eqb (file_row_code bytes t n) 0) refl h
    where
      go : (e : Bool) → eqb (file_row_code bytes t n) 0 ≡ e →
          cond e (Ok (n + 1)) (unfit (file_row_code bytes t n) (n + 1)) ≡ Ok m → Next n m (Ok k)
      go true e g = record { code = eqb-true (file_row_code bytes t n) 0 e; count = cc; before = (k, refl) }
      go false e g = cc

  pub rows_counted : (n m : ℕ) → rows_loaded bytes t n ≡ Ok m → m ≡ n
  unfolding rows_loaded
  rows_counted zero m h = cc
  rows_counted (suc n) m h = let p = next_passed n m (rows_loaded bytes t n) h in omega (arith, p.count)

  pub rows_passed : (n m : ℕ) → rows_loaded bytes t n ≡ Ok m → (i : ℕ) → i < n → file_row_code bytes t i ≡ 0
  unfolding rows_loaded
  rows_passed zero m h i l = absurd (omega arith)
  rows_passed (suc n) m h i l =
      let p = next_passed n m (rows_loaded bytes t n) h in
      go (ltb i n) refl p.code (λ k. rows_passed n p.before.0 p.before.1 i k)
    where
      go : (e : Bool) → ltb i n ≡ e → file_row_code bytes t n ≡ 0 → (i < n → file_row_code bytes t i ≡ 0) →
          file_row_code bytes t i ≡ 0
      go true e z before = before (ltb-true i n e)
      go false e z before =
          let k : i ≡ n = omega (arith, ltb-false i n e) in ap (file_row_code bytes t) k ∙ z

-- ---- The file

-- a file that is accepted, with n rows
pub record FileAccepted (bytes : List ℕ) (kind : ℤ) (n : ℕ) : Type 0 where
  pub head : HeadPassed bytes kind
  pub count : file_count bytes ≡ n
  pub few : n ≤ most_rows
  pub size : length bytes ≡ row_start (wanted kind) n
  pub rows : (i : ℕ) → i < n → RowPassed bytes (file_table (wanted kind) bytes n) i

pub accepted : (bytes : List ℕ) (kind : ℤ) (n : ℕ) → check_file bytes kind ≡ Ok n → FileAccepted bytes kind n
unfolding check_file
accepted bytes kind n h = go (eqb (head_code bytes kind) 0) refl h
  where
    go : (b : Bool) → eqb (head_code bytes kind) 0 ≡ b →
        cond b (rows_loaded bytes (file_table (wanted kind) bytes (file_count bytes)) (file_count bytes))
        (unfit (head_code bytes kind) 0) ≡ Ok n →
        FileAccepted bytes kind n
    go false e g = cc
    go true e g =
        let m = file_count bytes in
        let t = file_table (wanted kind) bytes m in
        let head = head_passed bytes kind (eqb-true (head_code bytes kind) 0 e) in
        let same : n ≡ m = rows_counted bytes t m n g in
        record {
          head = head;
          count = sym same;
          few = omega (arith, head.few);
          size = head.size ∙ ap (row_start (wanted kind)) (sym same);
          rows = rw same (λ i l. row_passed bytes t i (rows_passed bytes t m n g i l));
        }
