-- Zimmermann's step: from the root s and the rest r of a number to those of that number with two more digits of base b,
-- which make `next`. Everything is linear in a few products. Assumes nothing.
use Rattle.std.specs.Prelude.{◌≡◌, ℕ, zero, suc, ◌+◌, ◌*◌, ◌-◌, ◌/◌, ◌%◌, ◌≤◌, ◌<◌}
use Rattle.std.proofs.Common.{ap, mul-le-mul, mul-le-mul_right, mul-pos, div-add-mod', mod-lt, div-lt_iff_lt-mul}
use Rattle.std.proofs.Common.{not-suc-le-zero, arith}
use Rattle.root.specs.Parts.{Parted, StepReady}
use Rattle.root.specs.Roots.{side_below}

-- a number from b * b / 4 to below b * b, with b even, is ready
pub ready : {n s r : ℕ} (next b : ℕ) → Parted n s r → b % 2 ≡ 0 → b * b ≤ 4 * n → n < b * b → b ≤ 65536 →
    next < b * b → StepReady s r next b
ready {n} {s} {r} next b h even low high bits digits =
    let above : b < 2 * (s + 1) = side_below b (2 * (s + 1)) (omega arith) in
    record { rest = h.small; half = omega arith; fewer = side_below s b (omega arith); bits = bits; digits = digits }

-- where t's square is too much by less than 2 * t, its root is t - 1
one_less : (n t x y : ℕ) → t * t + x ≡ n + y → x < y → y < 2 * t → Parted n (t - 1) (x + 2 * t - 1 - y)
one_less n zero x y e h k = absurd (not-suc-le-zero k)
one_less n (suc t) x y e h k =
    let less : suc t - 1 ≡ t = omega arith in
    let square : (suc t - 1) * (suc t - 1) ≡ t * t = ap (λ (s : ℕ). s * s) less in
    record { whole = omega arith; small = omega arith }

square_and_root : (q p : ℕ) → q * q ≤ 2 * p → 0 < p → q * q < 2 * (p + q)
square_and_root zero p h k = omega arith
square_and_root (suc q) p h k = omega arith

abbrev dividend : (r next b : ℕ) → ℕ
dividend r next b = r * b + next / b

module _ (s r next b : ℕ) (h : StepReady s r next b) where
  -- the new digit, or one more than it
  abbrev digit : ℕ
  digit = dividend r next b / (2 * s)

  -- what is left before the digit's square is taken off
  abbrev left : ℕ
  left = dividend r next b % (2 * s) * b + next % b

  high_below : next / b < b
  high_below = let positive : 0 < b = omega arith in (div-lt_iff_lt-mul positive).1 h.digits

  digit_at_most : digit ≤ b
  digit_at_most =
      let a : r * b ≤ 2 * s * b = mul-le-mul_right b h.rest in
      let d : dividend r next b < suc b * (2 * s) = omega (arith, high_below) in
      let positive : 0 < 2 * s = omega arith in
      let q : digit < suc b = (div-lt_iff_lt-mul positive).1 d in
      omega arith

  left_below : left < 2 * (s * b)
  left_below =
      let u : dividend r next b % (2 * s) < 2 * s = mod-lt (dividend r next b) (omega arith) in
      let v : next % b < b = mod-lt next (omega arith) in
      let w : suc (dividend r next b % (2 * s)) * b ≤ 2 * s * b = mul-le-mul_right b u in
      omega arith

  digit_square : digit * digit ≤ b * b
  digit_square = mul-le-mul digit_at_most digit_at_most

  base_square : b * b ≤ 2 * (s * b)
  base_square = omega (arith, mul-le-mul_right b h.half)

  -- every number of the step is a sum of these
  pub bounds : (s * b ≤ 65536 * 65536) × (r * b ≤ 2 * (s * b)) × (next / b < b) × (digit ≤ b) × (left < 2 * (s * b)) ×
      (digit * digit ≤ 2 * (s * b))
  bounds = (
    mul-le-mul {n₂ = 65536} {m₂ = 65536} (omega arith) h.bits,
    omega (arith, mul-le-mul_right b h.rest),
    high_below,
    digit_at_most,
    left_below,
    omega (arith, digit_square, base_square),
  )

  -- so taking one from the guess adds more to the rest than the digit's square takes off
  pub guess_above : digit * digit < 2 * (s * b + digit)
  guess_above =
      let positive : 0 < s * b = mul-pos (omega arith) (omega arith) in
      square_and_root digit (s * b) (omega (arith, digit_square, base_square)) positive

  -- the square of the guess, with what is left, is the new number, and the digit's square more
  squared : (s * b + digit) * (s * b + digit) + left ≡ (s * s + r) * (b * b) + next + digit * digit
  squared =
      let n : next / b * b + next % b ≡ next = div-add-mod' next b in
      let d : digit * (2 * s) + dividend r next b % (2 * s) ≡ dividend r next b =
      div-add-mod' (dividend r next b) (2 * s) in
      let e : (digit * (2 * s) + dividend r next b % (2 * s)) * b ≡ dividend r next b * b = ap (λ (x : ℕ). x * b) d in
      omega arith

  -- the guess is the root where the digit's square is not above what is left
  pub kept : digit * digit ≤ left → Parted ((s * s + r) * (b * b) + next) (s * b + digit) (left - digit * digit)
  kept k = record { whole = omega (arith, squared); small = omega (arith, left_below) }

  -- else it is one too high
  pub lowered : left < digit * digit →
      Parted ((s * s + r) * (b * b) + next) (s * b + digit - 1) (left + 2 * (s * b + digit) - 1 - digit * digit)
  lowered k = one_less _ (s * b + digit) left (digit * digit) squared k guess_above

-- what a step comes to
pub ruleset step_laws = (bounds, guess_above, kept, lowered)
