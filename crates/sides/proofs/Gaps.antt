-- The gap of two sides at 64 bits: differences of 32-bit numbers fit, and the one that the tests choose is the gap.
-- Assumes nothing.
use mathlib.Core.Path.{◌≡◌, refl, sym, subst, ◌∙◌}
use Rattle.std.specs.Int.{int_max}
use mathlib.Core.Bool.{Bool, true, false, cond}
use mathlib.Core.Logic.{◌⊎◌, inl, inr}
use Prim.Native.Nat.{ℕ, zero, suc, ◌+◌, ◌-◌, ◌≤◌, ◌<◌, ◌^◌}
use native.Mathlib.Omega.{arith}
use lib.IntN.{ℤ, pos, negsuc, nat_abs, ◌-ℤ◌}
use lib.Signed.{lt_z, non_neg}
use lib.Dec.{T}
use mir.Syntax.{w32, w64}
use mir.Val.{SFits, to_z, of_z}
use mir.Facts.{to_z-of_z}
use Rattle.lists.specs.Bits.{as64, as64_is}
use Rattle.rules.specs.declared.Side.{Side}
use Rattle.rules.specs.Tables.{gap, side_gap}
use Rattle.rules.specs.Whole.{plus, minus, Below, apart, apart_le, lt_is, not_lt_is, sub_is}

-- ---- Differences

-- z is x less y
abbrev Less : ℤ → ℤ → ℤ → Type 0
Less x y z = plus z + (plus y + minus x) ≡ minus z + (plus x + minus y)

less : (x y : ℤ) → Less x y (x -ℤ y)
less (pos a) (pos zero) = omega arith
less (pos a) (pos (suc b)) = omega (arith, sub_is a (suc b))
less (pos a) (negsuc b) = omega arith
less (negsuc a) (pos zero) = omega (arith, sub_is 0 (suc a))
less (negsuc a) (pos (suc b)) = omega arith
less (negsuc a) (negsuc b) = omega (arith, sub_is (suc b) (suc a))

small : (x : ℤ) → SFits w32 x → (plus x < 2 ^ 31) × (minus x ≤ 2 ^ 31)
small (pos a) f = omega (arith, f.sfits)
small (negsuc a) f = omega (arith, f.sfits)

-- a number of which so much is known fits 64 bits
fits_by : (z : ℤ) (m n : ℕ) → plus z + m ≡ minus z + n → m ≤ 2 ^ 32 → n ≤ 2 ^ 32 → SFits w64 z
fits_by (pos a) m n e h k = record { sfits = omega arith }
fits_by (negsuc a) m n e h k = record { sfits = omega arith }

-- the difference of two, as the code has it
abbrev pub difference : ℤ → ℤ → ℤ
difference x y = to_z w64 (of_z w64 (as64 x -ℤ as64 y))

module _ (x y : ℤ) (f : SFits w32 x) (g : SFits w32 y) where
  pub sub_fits : SFits w64 (as64 x -ℤ as64 y)
  sub_fits =
      rw (as64_is x f, as64_is y g)
      (fits_by (x -ℤ y) (plus y + minus x) (plus x + minus y) (less x y)
      (omega (arith, small x f, small y g)) (omega (arith, small x f, small y g)))

  difference_less : Less x y (difference x y)
  difference_less = rw (to_z-of_z sub_fits, as64_is x f, as64_is y g) (less x y)

-- ---- What the tests choose

gap_below : (x y : ℤ) → Below x y → gap x y + (plus x + minus y) ≡ plus y + minus x
gap_below x y h =
    let most = apart_le x y (plus y + minus x - (plus x + minus y)) (omega arith) (omega arith) in
    omega (arith, apart x y)

-- z is the natural number n, and n is below 2 ^ 32
abbrev pub Is : ℤ → ℕ → Type 0
Is z n = T (non_neg z) × (nat_abs z ≡ n) × (nat_abs z < 2 ^ 32)

natural : (z : ℤ) (n : ℕ) → plus z ≡ minus z + n → n < 2 ^ 32 → Is z n
natural (pos a) n e h = (tt, omega arith, omega arith)
natural (negsuc a) n e h = absurd (omega arith)

-- the first where it is above 0, else the second, raised to 0 where it is below
abbrev pub ChosenGap : ℤ → ℤ → ℤ → Type 0
ChosenGap a b z =
    ((lt_z (pos 0) a ≡ true) × (z ≡ a)) ⊎ ((lt_z (pos 0) a ≡ false) × (z ≡ int_max b (pos 0)))

raised : (b : ℤ) → ((lt_z (pos 0) b ≡ true) × (int_max b (pos 0) ≡ b))
    ⊎ ((lt_z (pos 0) b ≡ false) × (int_max b (pos 0) ≡ pos 0))
raised b = go (lt_z (pos 0) b) refl
  where
    go : (t : Bool) → lt_z (pos 0) b ≡ t
        → ((t ≡ true) × (cond t b (pos 0) ≡ b)) ⊎ ((t ≡ false) × (cond t b (pos 0) ≡ pos 0))
    go true e = inl (refl, refl)
    go false e = inr (refl, refl)

module _ (s o : Side) (f : SFits w32 s.low) (g : SFits w32 s.high) (h : SFits w32 o.low)
    (k : SFits w32 o.high) where
  abbrev above : ℤ
  above = difference o.low s.high

  abbrev below : ℤ
  below = difference s.low o.high

  pub chosen_is : (z : ℤ) → ChosenGap above below z → Is z (side_gap s o)
  unfolding side_gap
  chosen_is z c = go (lt_z s.high o.low) (lt_z o.high s.low) refl refl c (raised below)
    where
      go : (t u : Bool) → lt_z s.high o.low ≡ t → lt_z o.high s.low ≡ u → ChosenGap above below z
          → ((lt_z (pos 0) below ≡ true) × (int_max below (pos 0) ≡ below))
          ⊎ ((lt_z (pos 0) below ≡ false) × (int_max below (pos 0) ≡ pos 0))
          → Is z (cond t (gap s.high o.low) (cond u (gap o.high s.low) 0))
      go true u d e (inl (p, q)) m =
          let n = gap_below s.high o.low (lt_is s.high o.low d) in
          let l = difference_less o.low s.high h g in
          subst (λ z. Is z (gap s.high o.low)) (sym q)
          (natural above (gap s.high o.low) (omega arith)
          (omega (arith, small s.high g, small o.low h)))
      go true u d e (inr (p, q)) m =
          let l = difference_less o.low s.high h g in
          absurd (omega (arith, lt_is s.high o.low d, not_lt_is (pos 0) above p))
      go false u d e (inl (p, q)) m =
          let l = difference_less o.low s.high h g in
          absurd (omega (arith, not_lt_is s.high o.low d, lt_is (pos 0) above p))
      go false true d e (inr (p, q)) (inl (c, r)) =
          let n = gap_below o.high s.low (lt_is o.high s.low e) in
          let l = difference_less s.low o.high f k in
          subst (λ z. Is z (gap o.high s.low)) (sym (q ∙ r))
          (natural below (gap o.high s.low) (omega arith)
          (omega (arith, small s.low f, small o.high k)))
      go false true d e (inr (p, q)) (inr (c, r)) =
          let l = difference_less s.low o.high f k in
          absurd (omega (arith, lt_is o.high s.low e, not_lt_is (pos 0) below c))
      go false false d e (inr (p, q)) (inl (c, r)) =
          let l = difference_less s.low o.high f k in
          absurd (omega (arith, not_lt_is o.high s.low e, lt_is (pos 0) below c))
      go false false d e (inr (p, q)) (inr (c, r)) = subst (λ z. Is z 0) (sym (q ∙ r)) (tt, refl, omega arith)
