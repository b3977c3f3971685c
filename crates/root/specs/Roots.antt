-- The root and its remainder: the root's square is not above the number, the next square is, and no other number is so.
-- Assumes nothing.
use Rattle.std.specs.Prelude.{◌≡◌, refl, Bool, true, false, ℕ, zero, suc, ◌+◌, ◌*◌, ◌-◌, ◌/◌, ◌≤◌, ◌<◌, leb}
use Rattle.std.proofs.Common.{ap, ◌∙◌, mul-le-mul, mul-pos, lt_of_not-le, not-le_of_lt, le_of_mul-le-mul_right}
use Rattle.std.proofs.Common.{lt_of_mul-lt-mul_right, div-mul-le_self, arith, leb-true, leb-false}
use Rattle.std.proofs.Math.Nat.{lt-div-mul-add}
use Rattle.rules.specs.Root.{root_up_to, root, remainder}
use Rattle.root.specs.Parts.{IsRoot, Parted}

-- the lesser square has the lesser side
pub side_below : (s t : ℕ) → s * s < t * t → s < t
side_below s t h = lt_of_not-le (λ g. not-le_of_lt h (mul-le-mul g g))

up_to_at_most : (n b : ℕ) → root_up_to n b * root_up_to n b ≤ n
unfolding root_up_to
up_to_at_most n zero = omega arith
up_to_at_most n (suc b) = go (leb (suc b * suc b) n) refl (up_to_at_most n b)
  where
    go : (t : Bool) → leb (suc b * suc b) n ≡ t → root_up_to n b * root_up_to n b ≤ n →
        elim t [ true ↦ suc b | false ↦ root_up_to n b ] * elim t [ true ↦ suc b | false ↦ root_up_to n b ] ≤ n
    go true e ih = leb-true (suc b * suc b) n e
    go false e ih = ih

up_to_above : (n b : ℕ) → n < suc b * suc b → n < suc (root_up_to n b) * suc (root_up_to n b)
unfolding root_up_to
up_to_above n zero h = h
up_to_above n (suc b) h = go (leb (suc b * suc b) n) refl (up_to_above n b)
  where
    go : (t : Bool) → leb (suc b * suc b) n ≡ t →
        (n < suc b * suc b → n < suc (root_up_to n b) * suc (root_up_to n b)) →
        n < suc (elim t [ true ↦ suc b | false ↦ root_up_to n b ]) * suc
        (elim t [ true ↦ suc b | false ↦ root_up_to n b ])
    go true e ih = h
    go false e ih = ih (leb-false (suc b * suc b) n e)

pub root_at_most : (n : ℕ) → root n * root n ≤ n
unfolding root
root_at_most n = up_to_at_most n n

pub root_above : (n : ℕ) → n < (root n + 1) * (root n + 1)
unfolding root
root_above n = omega (arith, up_to_above n n (omega arith))

-- no other number is the root
pub root_only : (n s : ℕ) → s * s ≤ n → n < (s + 1) * (s + 1) → s ≡ root n
root_only n s h k =
    let a : s < root n + 1 = side_below s (root n + 1) (omega (arith, root_above n)) in
    let b : root n < s + 1 = side_below (root n) (s + 1) (omega (arith, root_at_most n)) in
    omega arith

pub remainder_at_most : (n : ℕ) → remainder n ≤ 2 * root n
unfolding remainder
remainder_at_most n = omega (arith, root_above n)

pub rebuilt : (n : ℕ) → root n * root n + remainder n ≡ n
unfolding remainder
rebuilt n = omega (arith, root_at_most n)

-- the root of n times the square of p, divided by p, is the root of n
pub root_scaled : (n p s : ℕ) → 0 < p → IsRoot (n * (p * p)) s → IsRoot n (s / p)
root_scaled n p s pos h =
    let q : ℕ = s / p in
    let low : q * p ≤ s = div-mul-le_self s p in
    let high : s + 1 ≤ (q + 1) * p = omega (arith, lt-div-mul-add {a = s} pos) in
    let a : (q * p) * (q * p) ≤ s * s = mul-le-mul low low in
    let b : (s + 1) * (s + 1) ≤ ((q + 1) * p) * ((q + 1) * p) = mul-le-mul high high in
    let c : (q * q) * (p * p) ≤ n * (p * p) = omega (arith, h.at_most) in
    let d : n * (p * p) < ((q + 1) * (q + 1)) * (p * p) = omega (arith, h.above) in
    record { at_most = le_of_mul-le-mul_right c (mul-pos pos pos); above = lt_of_mul-lt-mul_right (p * p) d }

-- a square with a rest that is too little for the next square shows the root
pub parted_root : {n s r : ℕ} → Parted n s r → IsRoot n s
parted_root h = record { at_most = omega arith; above = omega arith }

-- so s is the root, and r the remainder
pub parted_is : {n s r : ℕ} → Parted n s r →
    ((s * s ≤ n) × (n < (s + 1) * (s + 1)) × (r ≡ n - s * s)) × ((s ≡ root n) × (r ≡ remainder n))
unfolding remainder
parted_is {n} {s} {r} h =
    let is_root = parted_root h in
    let same : s ≡ root n = root_only n s is_root.at_most is_root.above in
    let left : r ≡ n - s * s = omega arith in
    ((is_root.at_most, is_root.above, left), (same, left ∙ ap (λ (t : ℕ). n - t * t) same))
