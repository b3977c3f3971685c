-- Sides as they stand in lent numbers, and the rectangle of a block's first rows. Definitions only. Assumes nothing.
use Rattle.std.specs.Prelude.{cond, List, map, ℕ, ◌+◌, ◌*◌, ◌-◌, ℤ, pos, get_or, set}
use Rattle.std.specs.Int.Signed.{le_z}
use Rattle.lists.specs.Lists.{range}
use Rattle.rules.specs.declared.Side.{Side}
use Rattle.rules.specs.Tables.{Table, side}

-- a side made to hold x too
abbrev pub widened : Side → ℤ → Side
widened s x = record { low = cond (le_z s.low x) s.low x; high = cond (le_z x s.high) s.high x }

-- side k, from 0 on: its low end and its high end, after each other
abbrev pub side_in : List ℤ → ℕ → Side
side_in l k = record { low = get_or l (2 * k) (pos 0); high = get_or l (2 * k + 1) (pos 0) }

-- the numbers with side k written
abbrev pub with_side : ℕ → Side → List ℤ → List ℤ
with_side k s l = set (set l (2 * k) s.low) (2 * k + 1) s.high

-- the first n sides
unfoldable pub sides_in : ℕ → List ℤ → List Side
sides_in n l = map (λ k. side_in l k) (range 0 n)

-- the rectangle of the first m rows
unfoldable pub first_sides : Table → ℕ → List Side
first_sides t m = map (λ k. side t k (m - 1)) (range 0 t.coordinates)
