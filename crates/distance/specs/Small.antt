-- Shades with small numbers, as legal rows have them: 32 bits hold their squared distances. Definitions only. Assumes
-- nothing.
use Rattle.std.specs.Prelude.{ℕ, ◌<◌, List, ℤ, pos, get_or}
use Rattle.std.specs.Int.Signed.{mag}

-- each number lies less than 2^14 from 0; past the end a number reads as 0
abbrev pub Small : List ℤ → Type 0
Small x = (k : ℕ) → mag (get_or x k (pos 0)) < 16384
