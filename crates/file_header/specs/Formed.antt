-- Where a header's columns are formed as they must be, what is read of it is what the rules say. Assumes nothing.
use Rattle.std.specs.Prelude.{◌≡◌, true, false, List, ℕ}
use Rattle.rules.specs.File.{columns, header_fits, file_count, file_kind}
use Rattle.file_laws.specs.Parts.{header_parts}
use Rattle.column.specs.Column.{number_held_lem}
use Rattle.file_header.specs.declared.Header.{Header}
use Rattle.file_header.specs.Held.{header_read}

-- the header by the rules' numbers
abbrev pub header_by_rules : List ℕ → Header
header_by_rules bytes = record { count = file_count bytes; kind = file_kind bytes }

pub header_formed : (bytes : List ℕ) → header_fits bytes ≡ true → header_read bytes ≡ header_by_rules bytes
unfolding file_count file_kind
header_formed bytes h =
    let parts = header_parts bytes h in
    rw (number_held_lem false (columns bytes 0 6) parts.count, number_held_lem false (columns bytes 6 6) parts.kind)
