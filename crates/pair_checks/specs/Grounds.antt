-- Grounds of 5 that look at the pair places, over the numbers that they look at and not the whole record. Assumes
-- nothing.
use Rattle.std.specs.Prelude.{ℕ, suc, ◌≤◌, Bool, true, cond, ◌&&◌, ◌||◌, List, [], ◌∷◌, leb, eqb, ltb}
use Rattle.std.specs.Prelude.{Option, Some, None}
use Rattle.rules.specs.declared.Counts.{Counts}
use Rattle.rules.specs.declared.Pair.{Pair}
use Rattle.rules.specs.Tables.{most_rows, ahead}
use Rattle.rules.specs.Calls.{most_sum, between, is_zeros}
use Rattle.rules.specs.Session.{no_pair}
use Rattle.keys.specs.Held.{key_of}

-- `pair_fits` of the two depths
unfoldable pub pair_within : Counts → Pair → Bool
pair_within depth p =
    between 1 depth.field.0 p.field && (between 1 depth.trim.0 p.trim && leb p.sum most_sum)

-- pair place i, of which the first n are held: a pair that fits and stands behind the one before it, or zeros
unfoldable pub place_fits : ℕ → ℕ → Counts → Pair → Pair → Bool
place_fits i n depth before p = cond (leb n i) (is_zeros p) (pair_within depth p && (eqb i 0 || ahead before p))

-- the same by keys, `before` being the key before: the pair's key, or 1 for zeros; none where the place does not fit
unfoldable pub place_key : ℕ → ℕ → Counts → ℕ → Pair → Option ℕ
place_key i n depth before p =
    cond (leb n i) (cond (is_zeros p) (Some 1) None)
    (cond (pair_within depth p) (cond (ltb before (key_of p)) (Some (key_of p)) None) None)

-- no row of a held pair can be beyond 65,535
pub record Shallow (depth : Counts) : Type 0 where
  pub field : depth.field.0 ≤ most_rows
  pub trim : depth.trim.0 ≤ most_rows

-- the places from place i on
unfoldable pub places_from : ℕ → ℕ → Counts → Pair → List Pair → Bool
places_from i n depth before [] = true
places_from i n depth before (p ∷ l) = place_fits i n depth before p && places_from (suc i) n depth p l

-- all places, of which the first n are held
abbrev pub pairs_fit : List Pair → ℕ → Counts → Bool
pairs_fit pairs n depth = places_from 0 n depth no_pair pairs
