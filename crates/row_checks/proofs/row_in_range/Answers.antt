-- `row_in_range` meets its contract: what it reads are the numbers of the row. Assumes nothing.
use Rattle.std.proofs.Common.{arith}
use Rattle.rules.specs.Tables.{row, row_in_range}
use Rattle.row_ranges.specs.Ranges.{in_range_parts}
use Rattle.row_checks.proofs.row_in_range.Goals as goal

pub returns : goal.returns
unfolding row_in_range row
returns c = grind (arith, in_range_parts)
