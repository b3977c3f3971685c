-- The end of reading into a slice: what 11 does to an answer, and what stands in the slice after it. Assumes nothing.
use Rattle.std.proofs.Common.{◌≡◌, refl, sym, ap, Bool, true, false, cond, List, ◌++◌, ℕ, ◌*◌, ltb, ℤ, length, Ok}
use Rattle.std.proofs.Common.{Err, arith}
use borrow.Author.Tests.{ltb-false}
use Rattle.rules.specs.declared.Unfit.{Unfit}
use Rattle.rules.specs.Numbers.{short_slice, Loaded, unfit}
use Rattle.rules.specs.File.{file_table, wanted, check_file, and_slice, loaded_into, load_answer, load_numbers}
use Rattle.rules.specs.Tables.{table, width, HasRows, after_rows}

module _ (bytes : List ℕ) (kind : ℤ) (lent : List ℤ) where
  ends : (x : Loaded) → x ≡ and_slice (wanted kind) (length lent) (check_file bytes kind) →
      (x ≡ load_answer bytes kind lent) × (loaded_into (wanted kind) bytes lent x ≡ load_numbers bytes kind lent)
  unfolding load_answer load_numbers
  ends x e = (e, ap (loaded_into (wanted kind) bytes lent) e)

  pub unfit_load : (u : Unfit) → Err u ≡ and_slice (wanted kind) (length lent) (check_file bytes kind) →
      (Err u ≡ load_answer bytes kind lent) × (lent ≡ load_numbers bytes kind lent)
  unfolding loaded_into
  unfit_load u e = ends (Err u) e

  pub whole_load : (n : ℕ) → Ok n ≡ and_slice (wanted kind) (length lent) (check_file bytes kind) →
      (Ok n ≡ load_answer bytes kind lent)
      × ((file_table (wanted kind) bytes n).numbers ++ (after_rows n (table (wanted kind) lent)).numbers
      ≡ load_numbers bytes kind lent)
  unfolding loaded_into
  whole_load n e = ends (Ok n) e

  -- what is read was checked, and there is room for it
  pub read_passed : (n : ℕ) → Ok n ≡ and_slice (wanted kind) (length lent) (check_file bytes kind) →
      (check_file bytes kind ≡ Ok n) × HasRows (table (wanted kind) lent) n
  unfolding and_slice
  read_passed n e = go (check_file bytes kind) (sym e)
    where
      short : (m : ℕ) (t : Bool) → ltb (length lent) (width (wanted kind) * m) ≡ t →
          cond t (unfit short_slice 0) (Ok m) ≡ Ok n →
          (◌≡◌ {A = Loaded} (Ok m) (Ok n)) × HasRows (table (wanted kind) lent) n
      short m true t h = cc
      short m false t h =
          let same : m ≡ n = cc in
          let count = ap (◌*◌ (width (wanted kind))) same in
          (h, omega (arith, count, ltb-false (length lent) (width (wanted kind) * m) t))

      go : (x : Loaded) → and_slice (wanted kind) (length lent) x ≡ Ok n →
          (x ≡ Ok n) × HasRows (table (wanted kind) lent) n
      go (Err u) h = cc
      go (Ok m) h = short m (ltb (length lent) (width (wanted kind) * m)) refl h
