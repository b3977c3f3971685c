-- What the contracts of the code say of a number, its root and its rest. Definitions only. Assumes nothing.
use Rattle.std.specs.Prelude.{◌≡◌, ℕ, ◌+◌, ◌*◌, ◌≤◌, ◌<◌}

-- s is the greatest whole number whose square is not above n
pub record IsRoot (n s : ℕ) : Type 0 where
  pub at_most : s * s ≤ n
  pub above : n < (s + 1) * (s + 1)

-- n is the square of s and r more, too little for the next square
pub record Parted (n s r : ℕ) : Type 0 where
  pub whole : s * s + r ≡ n
  pub small : r ≤ 2 * s

-- what a step asks: r is a rest of s, s is at least half of b, next is two digits of base b, and all fits 64 bits
pub record StepReady (s r next b : ℕ) : Type 0 where
  pub rest : r ≤ 2 * s
  pub half : b ≤ 2 * s
  pub fewer : s < b
  pub bits : b ≤ 65536
  pub digits : next < b * b
