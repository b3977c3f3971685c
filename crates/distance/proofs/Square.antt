-- Squares of gaps: they fit, and how a loop over coordinates adds them up. Assumes nothing.
use mathlib.Core.Path.{◌≡◌}
use mathlib.Core.List.{List}
use Prim.Native.Nat.{ℕ, ◌+◌, ◌*◌, ◌≤◌, ◌<◌}
use native.Mathlib.Nat.{mul-le-mul}
use native.Mathlib.Omega.{arith}
use native.Mathlib.Numerals.{add-one}
use lib.IntN.{ℤ, pos}
use lib.ListN.{length, take}
use Rattle.rules.specs.Tables.{squares}
use Rattle.rules.specs.Squares.{square_at, squares_more}

-- the squares of three small gaps, each with tolerances, fit 32 bits together
pub square_small : (n : ℕ) → n < 33768 → n * n ≤ 1140210289
square_small n h = let k : n ≤ 33767 = omega arith in omega (arith, mul-le-mul k k)

-- of two shades with as many coordinates each one coordinate more, by gaps however they count
pub next_square : (f : ℤ → ℤ → ℕ) (x y : List ℤ) (k : ℕ) → length x ≡ length y → k < length x
    → squares f (take (k + 1) x) (take (k + 1) y) ≡ squares f (take k x) (take k y) + square_at f (pos 0) x y k
next_square f x y k same h = rw add-one (squares_more f (pos 0) x y k h (omega arith))
