-- A file's check: the header comes before the rows. Assumes nothing.
use Rattle.std.proofs.Common.{◌≡◌, sym, List, length, ℕ, ◌≤◌, ℤ, Err, arith, eq-eqb, ne_eqb}
use Rattle.rules.specs.declared.Refusal.{Refusal}
use Rattle.rules.specs.Numbers.{number_of}
use Rattle.rules.specs.Numbered.{refusal_again, number_range}
use Rattle.rules.specs.Tables.{most_rows}
use Rattle.rules.specs.File.{row_start, file_count, file_table, rows_loaded, wanted, head_code, check_file}
use Rattle.file_laws.specs.Accepted.{head_passed}
use Rattle.file_laws.specs.Kinds.{fits_least}

module _ (bytes : List ℕ) (kind : ℤ) where
  pub head_refuses : (e : Refusal) → number_of e ≡ head_code bytes kind
      → Err (record { refusal = e; row = 0 }) ≡ check_file bytes kind
  unfolding check_file
  head_refuses e h =
      let some : head_code bytes kind ≡ 0 → ⊥ = λ z. omega (arith, h, z, (number_range e).1) in
      sym (rw (ne_eqb (head_code bytes kind) 0 some, ← h, refusal_again e))

  -- a header that is not refused, and what was found of it
  module _ (n count : ℕ) (h : 0 ≡ head_code bytes kind) (e : n ≡ wanted kind) (k : count ≡ file_count bytes) where
    pub head_passes : rows_loaded bytes (file_table n bytes count) count ≡ check_file bytes kind
    unfolding check_file
    head_passes = simp (e, k, eq-eqb (head_code bytes kind) 0 (sym h))

    pub rows_there : (2 ≤ n) × (count ≤ most_rows) × (row_start n count ≤ length bytes)
    rows_there =
        let p = head_passed bytes kind (sym h) in
        rw (e, k) (fits_least bytes kind p.kind_fits_lem, p.few, omega (arith, p.size))
