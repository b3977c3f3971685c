-- A signed 32-bit number that is not below 0, as a natural number. Assumes nothing.
use Rattle.std.proofs.Common.{◌<◌, ◌^◌, arith}
use Rattle.std.specs.Prelude.{ℤ, pos, negsuc}
use Rattle.std.specs.Int.Signed.{mag}
use Rattle.rules.specs.Tables.{nat_of}

pub nat_small : (z : ℤ) → mag z < 2 ^ 31 → nat_of z < 2 ^ 31
nat_small (pos n) h = h
nat_small (negsuc n) h = omega arith
