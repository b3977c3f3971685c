-- `check_rows` meets its contract: the rows passed are accepted, and the first that is not decides. Assumes nothing.
use Rattle.std.proofs.Common.{◌≡◌, Ok}
use Rattle.rules.specs.File.{file_table, rows_loaded}
use Rattle.file_rows.proofs.Rows.{score_before}
use Rattle.file_rows.proofs.check_rows.Given as goal

abbrev pub invariant-loop-i : goal.invariant-loop-i
invariant-loop-i l =
    let t = file_table l.n l.bytes l.count in
    record { so_far : rows_loaded l.bytes t l.i ≡ Ok l.i; before : l.before ≡ score_before t l.i }
