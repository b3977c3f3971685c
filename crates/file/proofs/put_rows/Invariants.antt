-- `put_rows` meets its contract: the rows passed stand at the front, the rest is as it was. Assumes nothing.
use mathlib.Core.Path.{◌≡◌}
use mathlib.Core.List.{◌++◌}
use Rattle.rules.specs.File.{file_table}
use Rattle.rules.specs.Tables.{table, after_rows}
use Rattle.file.proofs.put_rows.Given as goal

abbrev pub invariant-loop-i : goal.invariant-loop-i
invariant-loop-i l = l.out ≡ (file_table l.n l.bytes l.i).numbers ++ (after_rows l.i (table l.n l.initial.out)).numbers
