-- Rows that passed 6 have small shades. Assumes nothing.
use Rattle.std.specs.Prelude.{◌≡◌, true, ℕ}
use Rattle.rules.specs.declared.Query.{Query}
use Rattle.rules.specs.Tables.{Table}
use Rattle.rules.specs.Calls.{is_card}
use Rattle.session_laws.specs.Shades.{row_small}
use Rattle.session_laws.specs.Record.{QueryFits}
use Rattle.near_rows.specs.Small.{SmallPairs}
use Rattle.block.specs.Block.{RowsPassed}

-- two blocks of such rows
pub rows_small : (q : Query) (a c : ℕ) (x y : Table) → is_card x.coordinates ≡ true → QueryFits q → RowsPassed a x
    → RowsPassed c y → SmallPairs q x y
rows_small q a c x y card fits first second =
    record {
      within = fits.radius;
      tolerances = (fits.field_tolerance, fits.trim_tolerance);
      card = card;
      first = λ i h. row_small x i (first.range i h);
      second = λ i h. row_small y i (second.range i h);
    }
