-- Moving a number up by an even number of bits until the top two of them are not both 0: no bit is lost. Assumes
-- nothing.
use mathlib.Core.Path.{◌≡◌, ap, ◌∙◌}
use Prim.Native.Nat.{ℕ, suc, ◌+◌, ◌*◌, ◌-◌, ◌/◌, ◌%◌, ◌^◌, ◌≤◌, ◌<◌}
use native.Mathlib.Nat.{mul-le-mul_right, two-mul, lt_of_not-le, not-le_of_lt}
use native.Mathlib.Omega.{arith}
use lib.Pow.{pow_mono, pow-add, shl_lt, shl_exact}
use lib.Count.{count_leading_zeros, leading_top}

-- of two powers, the lesser has the lesser exponent
exponent_below : (i j : ℕ) → 2 ^ i < 2 ^ j → i < j
exponent_below i j h = lt_of_not-le (λ g. not-le_of_lt h (pow_mono g))

module _ (n unused : ℕ) (positive : 0 < n) (few : unused ≤ 62) (used : n < 2 ^ (64 - unused)) where
  -- half of the zeros above n's highest bit, the unused ones not counted
  abbrev by : ℕ
  by = (count_leading_zeros 64 n - unused) / 2

  below : n < 2 ^ 64
  below = let h : 2 ^ (64 - unused) ≤ 2 ^ 64 = pow_mono {j = 64} (omega arith) in omega arith

  top : (j : ℕ) × (count_leading_zeros 64 n + suc j ≡ 64) × (2 ^ j ≤ n) × (n < 2 ^ suc j)
  top = leading_top 64 n positive below

  pub unused_zeros : unused ≤ count_leading_zeros 64 n
  unused_zeros =
      let t = top in
      let h : t.0 < 64 - unused = exponent_below t.0 (64 - unused) (omega arith) in
      omega arith

  pub by_below : by < 32
  by_below = let t = top in omega (arith, unused_zeros)

  exact : (n * 2 ^ (2 * by)) % 2 ^ 64 ≡ n * 2 ^ (2 * by)
  exact = let t = top in shl_exact (suc t.0) (2 * by) 64 t.3 (omega (arith, unused_zeros))

  even : n * 2 ^ (2 * by) ≡ n * (2 ^ by * 2 ^ by)
  even = ap (λ (i : ℕ). n * 2 ^ i) (two-mul by) ∙ ap (λ (p : ℕ). n * p) (pow-add 2 by by)

  pub moved : (n * 2 ^ (2 * by)) % 2 ^ 64 ≡ n * (2 ^ by * 2 ^ by)
  moved = exact ∙ even

  pub moved_least : 2 ^ (62 - unused) ≤ (n * 2 ^ (2 * by)) % 2 ^ 64
  moved_least =
      let t = top in
      let a : 2 ^ (62 - unused) ≤ 2 ^ (t.0 + 2 * by) = pow_mono {i = 62 - unused} (omega (arith, unused_zeros)) in
      let b : 2 ^ t.0 * 2 ^ (2 * by) ≤ n * 2 ^ (2 * by) = mul-le-mul_right (2 ^ (2 * by)) t.2 in
      omega (arith, exact, pow-add 2 t.0 (2 * by))

  pub moved_below : (n * 2 ^ (2 * by)) % 2 ^ 64 < 2 ^ (64 - unused)
  moved_below =
      let t = top in
      let a : n * 2 ^ (2 * by) < 2 ^ (suc t.0 + 2 * by) = shl_lt (suc t.0) (2 * by) t.3 in
      let b : 2 ^ (suc t.0 + 2 * by) ≤ 2 ^ (64 - unused) =
      pow_mono {i = suc t.0 + 2 * by} (omega (arith, unused_zeros)) in
      omega (arith, exact)

-- what the move comes to
pub ruleset shift_laws = (unused_zeros, by_below, moved, moved_least, moved_below)
