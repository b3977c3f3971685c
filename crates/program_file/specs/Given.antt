-- A file of at most 512 rows, as the program reads it. Assumes nothing.
use Rattle.std.specs.Prelude.{◌≡◌, Bool, cond, List, [], ◌∷◌, ◌⊎◌, ℕ, ◌*◌, ◌≤◌, leb, ltb, pos, Ok}
use Rattle.std.proofs.Math.Path.{refl}
use Rattle.std.proofs.Math.Bool.{true, false}
use Rattle.std.proofs.Common.{inl, inr, leb-true, ltb-true, ltb-false}
use native.Mathlib.Omega.{arith}
use Rattle.std.proofs.Math.ListN.{length}
use Rattle.rules.specs.Tables.{kind_coordinates, most_rows}
use Rattle.rules.specs.Widths.{next_row}
use Rattle.rules.specs.Numbers.{table_size, unless, first, said_of, refusal, Loaded, unfit}
use Rattle.rules.specs.File.{row_bytes, check_file}
use Rattle.rules.specs.Query.{peeked, program_kind, most_file_bytes, program_file_code}
use Rattle.file_laws.specs.Columns.{row_least}
use Rattle.file_laws.specs.Accepted.{accepted}
use Rattle.file_laws.specs.Sizes.{Told, check_told}
use Rattle.program_sizes.specs.Sizes.{table_rows}

-- the kind that a file is read as is one of the two
pub kind_either : (old new : ℕ) (bytes : List ℕ) → (program_kind old new bytes ≡ old)
    ⊎ (program_kind old new bytes ≡ new)
unfolding program_kind
kind_either old new bytes = go (peeked new bytes)
  where
    go : (t : Bool) → (cond t new old ≡ old) ⊎ (cond t new old ≡ new)
    go true = inr refl
    go false = inl refl

unfoldable pub program_file : List ℕ → ℕ → Loaded
program_file bytes kind =
    cond (leb (length bytes) (most_file_bytes (kind_coordinates kind))) (check_file bytes (pos kind))
    (unfit table_size 0)

-- so many rows are so many bytes
rows_of : (b n m : ℕ) → 1 ≤ b → b * n ≤ b * m → n ≤ m
rows_of b n m h k = go (ltb m n) refl
  where
    go : (t : Bool) → ltb m n ≡ t → n ≤ m
    go true e = absurd (omega (arith, next_row b m n (ltb-true m n e)))
    go false e = ltb-false m n e

module _ (bytes : List ℕ) (kind : ℕ) where
  abbrev most : ℕ
  most = most_file_bytes (kind_coordinates kind)

  pub program_code : refusal (said_of (program_file bytes kind)) ≡ program_file_code bytes kind
  unfolding program_file program_file_code
  program_code = go (leb (length bytes) most)
    where
      check : Loaded
      check = check_file bytes (pos kind)

      go : (t : Bool) → refusal (said_of (cond t check (unfit table_size 0)))
          ≡ first (unless t table_size ∷ refusal (said_of check) ∷ [])
      go true = refl
      go false = refl

  -- an accepted file has at most 512 rows
  pub program_rows : (n : ℕ) → program_file bytes kind ≡ Ok n → (check_file bytes (pos kind) ≡ Ok n)
      × (n ≤ table_rows)
  unfolding program_file
  program_rows n h = go (leb (length bytes) most) refl h
    where
      few : check_file bytes (pos kind) ≡ Ok n → length bytes ≤ most → n ≤ table_rows
      few g l =
          rows_of (row_bytes (kind_coordinates kind)) n table_rows (row_least (kind_coordinates kind))
          (omega (arith, (accepted bytes (pos kind) n g).size, l))

      go : (t : Bool) → leb (length bytes) most ≡ t →
          cond t (check_file bytes (pos kind)) (unfit table_size 0) ≡ Ok n →
          (check_file bytes (pos kind) ≡ Ok n) × (n ≤ table_rows)
      go true e g = (g, few g (leb-true (length bytes) most e))
      go false e g = cc

  -- what is told of it
  pub program_told : Told most_rows (program_file bytes kind)
  unfolding program_file
  program_told = go (leb (length bytes) most)
    where
      go : (t : Bool) → Told most_rows (cond t (check_file bytes (pos kind)) (unfit table_size 0))
      go true = check_told bytes (pos kind)
      go false = omega arith
