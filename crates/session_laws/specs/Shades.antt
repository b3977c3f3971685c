-- The coordinates of a row that passed 6 are small: each lies less than 2^14 from 0. Assumes nothing.
use Rattle.std.specs.Prelude.{◌≡◌, refl, Bool, true, false, cond, List, ℕ, ◌≤◌, ◌<◌, ltb, ℤ, pos, negsuc, length}
use Rattle.std.specs.Prelude.{get_or}
use Rattle.std.proofs.Common.{arith, leb-true, ltb-true, ltb-false}
use Rattle.std.proofs.Math.ListN.{get_or-eq_default}
use Rattle.std.specs.Int.Signed.{le_z, mag}
use Rattle.lists.specs.Bools.{clash, and_out}
use Rattle.rules.specs.Tables.{Table, within, coordinate_fits, shade_fits, row_in_range, row}
use Rattle.session_laws.specs.Tables.{shade_out, ranges}

below_small : (z : ℤ) → within (negsuc 12799) (pos 12700) z ≡ true → mag z < 16384
unfolding within
below_small z e = go z (and_out (le_z (negsuc 12799) z) (le_z z (pos 12700)) e)
  where
    go : (z : ℤ) → (le_z (negsuc 12799) z ≡ true) × (le_z z (pos 12700) ≡ true) → mag z < 16384
    go (pos n) h = let l : n ≤ 12700 = leb-true n 12700 h.1 in omega arith
    go (negsuc n) h = let l : n ≤ 12799 = leb-true n 12799 h.0 in omega arith

natural_small : (z : ℤ) → within (pos 0) (pos 10000) z ≡ true → mag z < 16384
unfolding within
natural_small z e = go z (and_out (le_z (pos 0) z) (le_z z (pos 10000)) e)
  where
    go : (z : ℤ) → (le_z (pos 0) z ≡ true) × (le_z z (pos 10000) ≡ true) → mag z < 16384
    go (pos n) h = let l : n ≤ 10000 = leb-true n 10000 h.1 in omega arith
    go (negsuc n) h = clash h.0 refl

coordinate_small : (k : ℕ) (z : ℤ) → coordinate_fits k z ≡ true → mag z < 16384
unfolding coordinate_fits
coordinate_small k z e = go (ltb k 2) e
  where
    go : (t : Bool) → cond t (within (negsuc 12799) (pos 12700) z) (within (pos 0) (pos 10000) z) ≡ true → mag z < 16384
    go true e = below_small z e
    go false e = natural_small z e

shade_small : (z : List ℤ) → shade_fits z ≡ true → (k : ℕ) → mag (get_or z k (pos 0)) < 16384
shade_small z h k = go (ltb k (length z)) refl
  where
    go : (t : Bool) → ltb k (length z) ≡ t → mag (get_or z k (pos 0)) < 16384
    go true e = coordinate_small k (get_or z k (pos 0)) (shade_out z h k (ltb-true k (length z) e))
    go false e = rw (get_or-eq_default z (pos 0) {n = k} (ltb-false k (length z) e)) (omega arith)

pub row_small : (t : Table) (i : ℕ) → row_in_range t i ≡ true → (k : ℕ) → mag (get_or (row t i).shade k (pos 0)) < 16384
unfolding row
row_small t i h = shade_small (row t i).shade (ranges t i h).shade
