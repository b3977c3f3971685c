-- `read_row` meets its contract: the LF behind the columns decides, too. Assumes nothing.
use Rattle.std.proofs.Common.{sym, ◌∙◌}
use Rattle.file_row.proofs.Rows.{line_told}
use Rattle.file_row.proofs.read_row.Goals as goal

pub returns : goal.returns
returns c =
    c.formed.ensures
    ∙ line_told c.args.bytes.now c.args.o c.args.n c.in_ok-row.row (sym c.read_columns.ensures ∙ c.in_ok-row.was)
