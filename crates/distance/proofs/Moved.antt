-- Two numbers lie no farther apart than r exactly if each is at most the other and r: as the code has it, at 32 bits.
-- Assumes nothing.
use mathlib.Core.Path.{◌≡◌, refl, sym}
use mathlib.Core.Bool.{Bool, true, false, ◌&&◌}
use Prim.Native.Nat.{ℕ, ◌+◌, ◌≤◌, ◌<◌}
use native.Mathlib.Omega.{arith}
use lib.Dec.{leb}
use lib.IntN.{ℤ, pos, negsuc, ◌+ℤ◌, ◌-ℤ◌}
use lib.Signed.{le_z, mag}
use mir.Syntax.{w32}
use mir.Val.{SFits, to_z}
use mir.Facts.{to_z-of_z, to_z_pos}
use borrow.Author.Tests.{le-leb, lt-leb}
use Rattle.rules.specs.Tables.{gap}
use Rattle.lists.specs.Bits.{as32}
use Rattle.distance.proofs.Gap.{small_is}
use Rattle.rules.specs.Whole.{plus, minus, apart, apart_le, le_is, not_le_is, moved_up, moved_down}

beside_is : (x y : ℤ) (r : ℕ) → (le_z (x -ℤ pos r) y && le_z y (x +ℤ pos r)) ≡ leb (gap x y) r
beside_is x y r = go (le_z (x -ℤ pos r) y) (le_z y (x +ℤ pos r)) refl refl
  where
    go : (a b : Bool) → le_z (x -ℤ pos r) y ≡ a → le_z y (x +ℤ pos r) ≡ b → (a && b) ≡ leb (gap x y) r
    go true true e f =
        let down = moved_down x r in
        let up = moved_up x r in
        let l = le_is (x -ℤ pos r) y e in
        let m = le_is y (x +ℤ pos r) f in
        sym (le-leb (gap x y) r (apart_le x y r (omega arith) (omega arith)))
    go true false e f =
        sym (lt-leb (gap x y) r (omega (arith, moved_up x r, not_le_is y (x +ℤ pos r) f, apart x y)))
    go false b e f =
        sym (lt-leb (gap x y) r (omega (arith, moved_down x r, not_le_is (x -ℤ pos r) y e, apart x y)))

-- a number's size, by its two parts
mag_in : (z : ℤ) (n : ℕ) → plus z ≤ n + minus z → minus z ≤ plus z + n → mag z ≤ n
mag_in (pos a) n h k = omega arith
mag_in (negsuc a) n h k = omega arith

parts_le : (z : ℤ) → plus z + minus z ≤ mag z + 1
parts_le (pos a) = omega arith
parts_le (negsuc a) = omega arith

-- a small number, less and more by r
module _ (x y : ℤ) (r : ℕ) (f : mag x < 16384) (g : mag y < 16384) (few : r ≤ 41000) where
  lower_fits : SFits w32 (x -ℤ pos r)
  lower_fits =
      let down = moved_down x r in
      let parts = parts_le x in
      record { sfits = omega (arith, mag_in (x -ℤ pos r) 60000 (omega arith) (omega arith)) }

  upper_fits : SFits w32 (x +ℤ pos r)
  upper_fits =
      let up = moved_up x r in
      let parts = parts_le x in
      record { sfits = omega (arith, mag_in (x +ℤ pos r) 60000 (omega arith) (omega arith)) }

  number_is : to_z w32 r ≡ pos r
  number_is = to_z_pos w32 {n = r} (omega arith)

  pub sub_fits : SFits w32 (as32 x -ℤ to_z w32 r)
  sub_fits = rw (small_is x f, number_is) lower_fits

  pub add_fits : SFits w32 (as32 x +ℤ to_z w32 r)
  add_fits = rw (small_is x f, number_is) upper_fits

  pub test_is : (le_z (as32 (as32 x -ℤ to_z w32 r)) (as32 y) && le_z (as32 y) (as32 (as32 x +ℤ to_z w32 r)))
      ≡ leb (gap x y) r
  test_is = rw (small_is x f, small_is y g, number_is, to_z-of_z lower_fits, to_z-of_z upper_fits) (beside_is x y r)
