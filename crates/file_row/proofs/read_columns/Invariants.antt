-- `read_columns` meets its contract: the columns passed are read. Assumes nothing.
use Rattle.std.proofs.Common.{◌≡◌}
use Rattle.rules.specs.Tables.{width}
use Rattle.file_row.specs.Held.{columns_held, row_read}
use Rattle.file_row.proofs.read_columns.Given as goal

abbrev pub invariant-loop-k : goal.invariant-loop-k
invariant-loop-k l =
    record { fits : l.fits ≡ columns_held (width l.k) l.bytes l.o; read : l.row ≡ row_read l.k l.bytes l.o }
