-- A read of one table, field or trim, the other one beside it. Assumes nothing.
use Rattle.std.specs.Prelude.{Bool, true, false, cond, ℕ}
use Rattle.rules.specs.declared.Counts.{Counts}
use Rattle.rules.specs.declared.Session.{Session}
use Rattle.rules.specs.Tables.{Table}
use Rattle.rules.specs.Read.{new_depth}
use Rattle.session_laws.specs.Calls.{Accepted, NewRowsFit, read_rows}
use Rattle.choosing.specs.Due.{other_depth}
use Rattle.block_pair.specs.Spans.{FirstFit}

-- the depths with one table's at e
unfoldable pub down_to : Bool → ℕ → Counts → Counts
down_to field e depth =
    record {
      field = record { 0 = cond field e depth.field.0 };
      trim = record { 0 = cond field depth.trim.0 e };
    }

-- what a read knows of rows: those down to the new block's end and those that it meets passed 6 and 7
pub record Passed (field : Bool) (f t : Table) (s : Session) : Type 0 where
  pub new : FirstFit (cond field f t) (new_depth field s)
  pub other : FirstFit (cond field t f) (other_depth field s)

-- the rows of a read whose checks have passed
pub passed : (field : Bool) (f t : Table) (s : Session) → Accepted f t s → NewRowsFit field f t s → Passed field f t s
passed true f t s a new = let rows = read_rows true f t s a new in record { new = rows.0; other = rows.1 }
passed false f t s a new = let rows = read_rows false f t s a new in record { new = rows.1; other = rows.0 }
