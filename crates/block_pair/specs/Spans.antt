-- Some rows of a table, as the rules' block. Definitions only. Assumes nothing.
use Rattle.std.specs.Prelude.{ℕ, ◌≤◌, ◌<◌}
use Rattle.rules.specs.Tables.{Table, most_rows, Block, HasRows}
use Rattle.rules.specs.Read.{rows_between}
use Rattle.session_laws.specs.Tables.{RowFits}
use Rattle.block_pair.specs.declared.Span.{Span}

-- rows of a table, as the rules' block
abbrev pub span_block : Table → Span → Block
span_block t x = rows_between t x.from x.to

-- the first e rows of a table passed 6 and 7
abbrev pub FirstFit : Table → ℕ → Type 0
FirstFit t e = (i : ℕ) → i < e → RowFits t i

-- rows of a table lie within a slice and a table's 65,535 rows, there is one at least, and all rows down to their end
-- passed 6 and 7
pub record SpanFits (x : Span) (t : Table) : Type 0 where
  pub some : x.from < x.to
  pub few : x.to ≤ most_rows
  pub within : HasRows t x.to
  pub fit : FirstFit t x.to
