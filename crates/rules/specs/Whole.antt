-- Whole numbers as differences of two natural ones, so that their order and their gap are read by `omega`. Assumes
-- nothing.
use Rattle.std.specs.Prelude.{◌≡◌, refl, Bool, true, false, cond, ℕ, zero, suc, ◌+◌, ◌-◌, ◌≤◌, ◌<◌, ltb, ℤ, pos, negsuc}
use Rattle.std.specs.Prelude.{nat_abs, ◌+ℤ◌, ◌-ℤ◌}
use Rattle.std.proofs.Common.{◌∙◌, arith, leb-true, leb-false, ltb-true, ltb-false}
use Rattle.std.proofs.Math.IntN.{sub_ℕ}
use Rattle.std.specs.Int.Signed.{le_z, lt_z}
use Rattle.lists.specs.Bools.{clash}
use Rattle.rules.specs.Tables.{gap}

-- x is plus x less minus x
abbrev pub plus : ℤ → ℕ
plus (pos a) = a
plus (negsuc a) = 0

abbrev pub minus : ℤ → ℕ
minus (pos a) = 0
minus (negsuc a) = suc a

-- x ≤ y + n
abbrev pub AtMost : ℤ → ℤ → ℕ → Type 0
AtMost x y n = plus x + minus y ≤ plus y + minus x + n

-- x < y
abbrev pub Below : ℤ → ℤ → Type 0
Below x y = plus x + minus y < plus y + minus x

-- ---- The gap of two numbers

pub abs_sub : (a b : ℕ) → nat_abs (sub_ℕ a b) ≡ (a - b) + (b - a)
abs_sub a b = go (ltb a b) refl
  where
    go : (t : Bool) → ltb a b ≡ t → nat_abs (cond t (negsuc (b - suc a)) (pos (a - b))) ≡ (a - b) + (b - a)
    go true e = let h : a < b = ltb-true a b e in omega arith
    go false e = let h : b ≤ a = ltb-false a b e in omega arith

gap_both : (x y : ℤ)
    → gap x y ≡ (plus x + minus y - (plus y + minus x)) + (plus y + minus x - (plus x + minus y))
unfolding gap
gap_both (pos a) (pos zero) = omega arith
gap_both (pos a) (pos (suc b)) = abs_sub a (suc b) ∙ omega arith
gap_both (pos a) (negsuc b) = omega arith
gap_both (negsuc a) (pos zero) = abs_sub 0 (suc a) ∙ omega arith
gap_both (negsuc a) (pos (suc b)) = omega arith
gap_both (negsuc a) (negsuc b) = abs_sub (suc b) (suc a) ∙ omega arith

-- neither number is above the other by more than their gap, and no lower number will do
pub apart : (x y : ℤ) → AtMost x y (gap x y) × AtMost y x (gap x y)
apart x y = omega (arith, gap_both x y)

pub apart_le : (x y : ℤ) (n : ℕ) → AtMost x y n → AtMost y x n → gap x y ≤ n
apart_le x y n h k = omega (arith, gap_both x y)

pub gap_sym : (x y : ℤ) → gap x y ≡ gap y x
gap_sym x y = omega (arith, gap_both x y, gap_both y x)

pub gap_same : (x : ℤ) → gap x x ≡ 0
gap_same x = omega (arith, gap_both x x)

-- ---- The order

pub le_is : (x y : ℤ) → le_z x y ≡ true → AtMost x y 0
le_is (pos a) (pos b) e = let h : a ≤ b = leb-true a b e in omega arith
le_is (pos a) (negsuc b) e = clash e refl
le_is (negsuc a) (pos b) e = omega arith
le_is (negsuc a) (negsuc b) e = let h : b ≤ a = leb-true b a e in omega arith

pub not_le_is : (x y : ℤ) → le_z x y ≡ false → Below y x
not_le_is (pos a) (pos b) e = let h : b < a = leb-false a b e in omega arith
not_le_is (pos a) (negsuc b) e = omega arith
not_le_is (negsuc a) (pos b) e = clash refl e
not_le_is (negsuc a) (negsuc b) e = let h : a < b = leb-false b a e in omega arith

pub lt_is : (x y : ℤ) → lt_z x y ≡ true → Below x y
lt_is (pos a) (pos b) e = let h : a < b = ltb-true a b e in omega arith
lt_is (pos a) (negsuc b) e = clash e refl
lt_is (negsuc a) (pos b) e = omega arith
lt_is (negsuc a) (negsuc b) e = let h : b < a = ltb-true b a e in omega arith

pub not_lt_is : (x y : ℤ) → lt_z x y ≡ false → AtMost y x 0
not_lt_is (pos a) (pos b) e = let h : b ≤ a = ltb-false a b e in omega arith
not_lt_is (pos a) (negsuc b) e = omega arith
not_lt_is (negsuc a) (pos b) e = clash refl e
not_lt_is (negsuc a) (negsuc b) e = let h : a ≤ b = ltb-false b a e in omega arith

-- ---- A number moved up or down

pub sub_is : (a b : ℕ) → plus (sub_ℕ a b) + b ≡ minus (sub_ℕ a b) + a
sub_is a b = go (ltb a b) refl
  where
    go : (t : Bool) → ltb a b ≡ t
        → plus (cond t (negsuc (b - suc a)) (pos (a - b))) + b ≡ minus (cond t (negsuc (b - suc a)) (pos (a - b))) + a
    go true e = let h : a < b = ltb-true a b e in omega arith
    go false e = let h : b ≤ a = ltb-false a b e in omega arith

pub moved_up : (x : ℤ) (n : ℕ) → plus (x +ℤ pos n) + minus x ≡ plus x + minus (x +ℤ pos n) + n
moved_up (pos a) n = omega arith
moved_up (negsuc a) n = omega (arith, sub_is n (suc a))

pub moved_down : (x : ℤ) (n : ℕ) → plus (x -ℤ pos n) + minus x + n ≡ plus x + minus (x -ℤ pos n)
moved_down (pos a) zero = omega arith
moved_down (pos a) (suc n) = omega (arith, sub_is a (suc n))
moved_down (negsuc a) zero = omega (arith, sub_is 0 (suc a))
moved_down (negsuc a) (suc n) = omega arith
