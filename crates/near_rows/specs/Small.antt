-- Two blocks of small shades. Definitions only. Assumes nothing.
use Rattle.std.specs.Prelude.{◌≡◌, true, ℕ, ◌≤◌, ◌<◌}
use Rattle.rules.specs.declared.Query.{Query}
use Rattle.rules.specs.Tables.{Table, row, row_count}
use Rattle.rules.specs.Calls.{is_card}
use Rattle.tolerances.specs.Counted.{TolerancesFit}
use Rattle.distance.specs.Small.{Small}

-- two blocks whose pairs may be tested at 32 bits
pub record SmallPairs (q : Query) (x y : Table) : Type 0 where
  pub within : q.radius ≤ 40000
  pub tolerances : TolerancesFit q
  pub card : is_card x.coordinates ≡ true
  pub first : (i : ℕ) → i < row_count x → Small (row x i).shade
  pub second : (i : ℕ) → i < row_count y → Small (row y i).shade
