-- Grounds of 5 that look at depths, over those and not the whole record. Definitions only. Assumes nothing.
use Rattle.std.specs.Prelude.{ℕ, Bool, false, cond, ◌&&◌, ◌||◌, not, ltb, eqb}
use Rattle.rules.specs.declared.Counts.{Counts}
use Rattle.rules.specs.declared.Query.{Query}
use Rattle.rules.specs.Tables.{unsatisfiable}

-- `mark_fits` of the mark and the two depths
unfoldable pub mark_of : ℕ → Counts → Bool
mark_of last depth =
    cond (eqb last 0) (eqb depth.field.0 0 && eqb depth.trim.0 0)
    (cond (eqb last 1) (ltb 0 depth.field.0) (cond (eqb last 2) (ltb 0 depth.trim.0) false))

-- `depths_fit` of the query, the card and the two depths
unfoldable pub depths_of : Query → ℕ → Counts → Bool
depths_of q card depth = not (unsatisfiable q card) || (eqb depth.field.0 0 && eqb depth.trim.0 0)
