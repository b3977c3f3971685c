-- The gap of two signed numbers, by their sizes; small ones at 32 bits. Assumes nothing.
use mathlib.Core.Path.{◌≡◌}
use Prim.Native.Nat.{◌+◌, ◌≤◌, ◌<◌}
use native.Mathlib.Omega.{arith}
use lib.IntN.{ℤ, pos, negsuc}
use lib.Signed.{mag}
use Rattle.lists.specs.Bits.{as32, as32_is}
use Rattle.rules.specs.Tables.{gap}
use Rattle.rules.specs.Whole.{apart_le}

pub gap_mag : (x y : ℤ) → gap x y ≤ mag x + mag y + 1
gap_mag (pos a) (pos b) = apart_le (pos a) (pos b) (a + b + 1) (omega arith) (omega arith)
gap_mag (pos a) (negsuc b) = apart_le (pos a) (negsuc b) (a + b + 1) (omega arith) (omega arith)
gap_mag (negsuc a) (pos b) = apart_le (negsuc a) (pos b) (a + b + 1) (omega arith) (omega arith)
gap_mag (negsuc a) (negsuc b) = apart_le (negsuc a) (negsuc b) (a + b + 1) (omega arith) (omega arith)

pub small_is : (z : ℤ) → mag z < 16384 → as32 z ≡ z
small_is z h = as32_is z (omega arith)
