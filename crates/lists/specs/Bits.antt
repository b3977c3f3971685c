-- Signed numbers as 32 and 64 bits hold them, the same where they fit; squares of 32 bits fit 64. Assumes nothing.
use Rattle.std.specs.Prelude.{◌≡◌, ℕ, ◌*◌, ◌≤◌, ◌<◌, ◌^◌, ℤ}
use Rattle.std.proofs.Common.{◌∙◌, mul-le-mul, arith, Fits, SFits, to_z, of_z, to_z-of_z}
use Rattle.std.specs.Int.Signed.{mag}
use Rattle.std.specs.Int.{w32, w64}

-- as 32 bits hold it
abbrev pub as32 : ℤ → ℤ
as32 z = to_z w32 (of_z w32 z)

pub as32_is : (z : ℤ) → mag z < 2 ^ 31 → as32 z ≡ z
as32_is z h = to_z-of_z {w = w32} {z = z} (record { sfits = h })

-- widened to 64
abbrev pub as64 : ℤ → ℤ
as64 z = to_z w64 (of_z w64 (as32 z))

pub fits64 : (z : ℤ) → SFits w32 z → SFits w64 (as32 z)
fits64 z h = rw (to_z-of_z h) (record { sfits = omega (arith, h.sfits) })

pub as64_is : (z : ℤ) → SFits w32 z → as64 z ≡ z
as64_is z h = to_z-of_z {w = w64} (fits64 z h) ∙ to_z-of_z h

pub square_fits : (n : ℕ) → n < 2 ^ 32 → Fits w64 (n * n)
square_fits n h =
    let most : n ≤ 4294967295 = omega arith in
    let k : n * n ≤ 4294967295 * 4294967295 = mul-le-mul most most in
    record { fits = omega arith }
