-- `row_bytes` meets its contract: the columns passed end where the next begins. Assumes nothing.
use Rattle.std.proofs.Common.{◌≡◌}
use Rattle.rules.specs.File.{column_start}
use Rattle.row_columns.proofs.row_bytes.Given as goal

abbrev pub invariant-loop-j : goal.invariant-loop-j
invariant-loop-j l = l.end ≡ column_start l.j
