-- What is read of the header, by the rules' "The strict file". Definitions only. Assumes nothing.
use Rattle.std.specs.Prelude.{cond, leb, eqb, ◌&&◌, length, List, [], ◌∷◌, ℕ, ℤ, pos, false, unwrap_or, Result, Err}
use Rattle.rules.specs.Tables.{most_rows, nat_of}
use Rattle.rules.specs.Numbers.{table_size, cut_file, wrong_kind, unless, first}
use Rattle.rules.specs.Calls.{between}
use Rattle.rules.specs.File.{columns, header_bytes, header_fits, row_start, wanted}
use Rattle.column.specs.Column.{column_held, formed}
use Rattle.file_header.specs.declared.Header.{Header}

-- the number in the six columns behind a place: 0 where they are not formed as they must be
abbrev pub header_number : List ℕ → ℕ → ℤ
header_number bytes o = unwrap_or (column_held false (columns bytes o 6)) (pos 0)

-- "Header, 13 bytes": its numbers, as they are read
abbrev pub header_read : List ℕ → Header
header_read bytes = record { count = nat_of (header_number bytes 0); kind = nat_of (header_number bytes 6) }

-- in Ok where its columns and LF are formed as they must be, else in Err
abbrev pub whole_header : List ℕ → Result Header Header
whole_header bytes = formed (header_fits bytes) (header_read bytes)

-- that of a file which may be too short for one: then it has none
abbrev pub no_header : Header
no_header = record { count = 0; kind = 0 }

unfoldable pub header_held : List ℕ → Result Header Header
header_held bytes = cond (leb header_bytes (length bytes)) (whole_header bytes) (Err no_header)

-- the checks of what was read, behind that of its form
unfoldable pub header_code : Header → ℕ → ℤ → ℕ
header_code header len kind =
    first
    (unless (between 1 4 (nat_of kind) && eqb header.kind (nat_of kind)) wrong_kind
    ∷ unless (leb header.count most_rows) table_size
    ∷ unless (eqb len (row_start (wanted kind) header.count)) cut_file
    ∷ [])
