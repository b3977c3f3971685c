-- What the calls know of the rows read once their checks have passed, and of both tables once rows of both were read.
-- Assumes nothing.
use Rattle.std.specs.Prelude.{ℕ, ◌≤◌, ◌<◌}
use Rattle.std.proofs.Common.{arith}
use Rattle.rules.specs.declared.Counts.{Counts}
use Rattle.rules.specs.declared.Session.{Session}
use Rattle.rules.specs.Tables.{Table, HasRows}
use Rattle.rules.specs.Widths.{has_rows}
use Rattle.session_laws.specs.Tables.{RowFits}
use Rattle.session_laws.specs.Calls.{SameSize, Accepted}

-- the rows of a table down to a depth: the slice has them, and 6 and 7 refuse none
pub record RowsRead (t : Table) (depth : ℕ) : Type 0 where
  pub there : HasRows t depth
  pub fit : (i : ℕ) → i < depth → RowFits t i

-- rows of both tables were read
pub record BothRead (f t : Table) (depth : Counts) : Type 0 where
  pub field_some : 0 < depth.field.0
  pub trim_some : 0 < depth.trim.0
  pub field : RowsRead f depth.field.0
  pub trim : RowsRead t depth.trim.0

rows_read_lem : (t : Table) (rows depth : ℕ) → SameSize rows t → depth ≤ rows → ((i : ℕ) → i < depth → RowFits t i)
    → RowsRead t depth
rows_read_lem t rows depth size within fit = record { there = has_rows t depth (omega (arith, size.count)); fit = fit }

-- a record and two slices that were accepted
pub accepted_rows : (f t : Table) (s : Session) → Accepted f t s
    → RowsRead f s.depth.field.0 × RowsRead t s.depth.trim.0
accepted_rows f t s a =
    let l = a.lent in (
      rows_read_lem f s.rows.field.0 s.depth.field.0 l.field l.fits.field.within a.field_rows_lem,
      rows_read_lem t s.rows.trim.0 s.depth.trim.0 l.trim l.fits.trim.within a.trim_rows_lem,
    )
