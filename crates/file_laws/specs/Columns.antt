-- A row's columns stand one behind the other: where each begins, and how many bytes a row has. Assumes nothing.
use Rattle.std.specs.Prelude.{◌≡◌, refl, Bool, true, false, cond, ℕ, zero, suc, ◌+◌, ◌*◌, ◌≤◌, ◌<◌, leb}
use Rattle.std.proofs.Common.{ap, arith}
use Rattle.std.proofs.Math.Decide.{le_ind}
use Rattle.std.proofs.lemmas.Bool.{lt-leb}
use Rattle.lists.specs.Bools.{and_false}
use Rattle.rules.specs.Tables.{width}
use Rattle.rules.specs.File.{is_signed, column_bytes, column_start, row_bytes}

-- a column has 6 or 7 bytes
pub column_size : (j : ℕ) → (6 ≤ column_bytes j) × (column_bytes j ≤ 7)
column_size j = go (is_signed j)
  where
    go : (b : Bool) → (6 ≤ cond b 7 6) × (cond b 7 6 ≤ 7)
    go true = (omega arith, omega arith)
    go false = (omega arith, omega arith)

-- what follows a column begins where it ends
pub start_next : (j : ℕ) → column_start (suc j) ≡ column_start j + column_bytes j
unfolding column_start
start_next j = refl

pub start_up : (j k : ℕ) → j ≤ k → column_start j ≤ column_start k
start_up j k h =
    le_ind (λ (m : ℕ). column_start j ≤ column_start m) (omega arith) (λ m l ih. omega (arith, start_next m, ih)) k h

pub start_grows : (j k : ℕ) → j < k → column_start j < column_start k
start_grows j k h = omega (arith, start_next j, column_size j, start_up (suc j) k h)

-- the columns before number k hold column j
pub column_ends : (j k : ℕ) → j < k → column_start j + column_bytes j ≤ column_start k
column_ends j k h = omega (arith, start_next j, start_up (suc j) k h)

-- columns 1-6 and 7-12, then two of 7, then 6 each
pub start_front : (j : ℕ) → j ≤ 2 → column_start j ≡ 6 * j
unfolding column_start
start_front zero h = refl
start_front (suc zero) h = refl
start_front (suc (suc zero)) h = refl
start_front (suc (suc (suc j))) h = absurd (omega arith)

pub start_signed : column_start 3 ≡ 19
unfolding column_start
start_signed = refl

-- the columns behind b have no minus
pub signed_back : (j : ℕ) → 4 ≤ j → is_signed j ≡ false
signed_back j h = rw (lt-leb j 3 h) (and_false (leb 2 j))

pub size_back : (j : ℕ) → 4 ≤ j → column_bytes j ≡ 6
size_back j h = ap (λ (b : Bool). cond b 7 6) (signed_back j h)

pub start_back : (j : ℕ) → 4 ≤ j → column_start j ≡ 6 * j + 2
unfolding column_start
start_back j h =
    le_ind (λ (m : ℕ). column_start m ≡ 6 * m + 2) refl
    (λ m l ih. omega (arith, start_next m, size_back m l, ih)) j h

-- no more than seven bytes each
pub start_most : (j : ℕ) → column_start j ≤ 7 * j
unfolding column_start
start_most zero = omega arith
start_most (suc j) = omega (arith, start_most j, column_size j)

pub row_most : (n : ℕ) → row_bytes n ≤ 7 * n + 15
unfolding row_bytes
row_most n = omega (arith, start_most (width n))

pub row_least : (n : ℕ) → 1 ≤ row_bytes n
unfolding row_bytes
row_least n = omega arith
