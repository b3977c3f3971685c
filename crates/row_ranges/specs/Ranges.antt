-- A row's ranges in two parts, as the code tests them: the numbers before its shade, and the shade. Assumes nothing.
use Rattle.std.specs.Prelude.{◌≡◌, ◌&&◌, List, ℤ, pos}
use Rattle.std.proofs.Math.Bool.{and_assoc}
use Rattle.rules.specs.Tables.{within, shade_fits, in_range}

pub in_range_parts : (pattern score : ℤ) (shade : List ℤ)
    → (within (pos 1) (pos 999999) pattern && within (pos 0) (pos 9999) score) && shade_fits shade
    ≡ in_range pattern score shade
unfolding in_range
in_range_parts pattern score shade =
    and_assoc (within (pos 1) (pos 999999) pattern) (within (pos 0) (pos 9999) score) (shade_fits shade)
