-- What a block pair comes to before it is looked at pair by pair: skipped, or joined with no qualifying pair.
-- Definitions only. Assumes nothing.
use Rattle.std.specs.Prelude.{◌≡◌, Bool, true, false, ◌&&◌, ◌||◌, ℕ, ltb}
use Rattle.rules.specs.declared.Query.{Query}
use Rattle.rules.specs.Tables.{Table, terms}
use Rattle.rules.specs.Meaning.{first_scores}
use Rattle.near_rows.specs.Near.{NoPair}
use Rattle.skipping.specs.declared.Joining.{Joining}
use Rattle.skipping.specs.declared.Joining.TheVariants.{Skipped, Quiet, PairByPair}

-- what the first rows add to a sum is too low for a full list
abbrev pub low_scores : Bool → ℕ → Query → Table → Table → Bool
low_scores full low q x y = full && ltb (first_scores q x y) low

abbrev pub skips : Bool → ℕ → Query → Table → Table → Bool
skips full low q x y = low_scores full low q x y || (terms q).far x y

abbrev pub Effect : Bool → ℕ → Query → Table → Table → Joining → Type 0
Effect full low q x y Skipped = skips full low q x y ≡ true
Effect full low q x y Quiet = (skips full low q x y ≡ false) × NoPair (terms q) x y
Effect full low q x y PairByPair = skips full low q x y ≡ false
