-- How long a file and a table of the program may be. Assumes nothing.
use Rattle.std.specs.Prelude.{ℕ, ◌*◌, ◌≤◌}
use Rattle.std.proofs.Common.{arith}
use Rattle.rules.specs.declared.Card.TheVariants.{New}
use Rattle.rules.specs.Tables.{coordinates, kind_coordinates, width}
use Rattle.rules.specs.File.{row_bytes}
use Rattle.rules.specs.Query.{most_file_bytes}
use Rattle.file_laws.specs.Kinds.{kind_most}
use Rattle.file_laws.specs.Columns.{start_up}

-- the rows of the longest file, and the numbers of its table on the new card
abbrev pub table_rows : ℕ
table_rows = 512

abbrev pub table_room : ℕ
table_room = width (coordinates New) * table_rows

-- no card has longer files, or longer tables
pub file_most : (kind : ℕ) → most_file_bytes (kind_coordinates kind) ≤ most_file_bytes (coordinates New)
unfolding row_bytes
file_most kind =
    let n = kind_coordinates kind in
    omega (arith, start_up (width n) (width (coordinates New)) (omega (arith, kind_most kind)))

pub table_most : (kind : ℕ) → width (kind_coordinates kind) * table_rows ≤ table_room
table_most kind = omega (arith, kind_most kind)
