-- `read_header` meets its contract. Assumes nothing.
use Rattle.std.proofs.Common.{◌≡◌, ◌∙◌, arith, to_z, of_z}
use mir.Syntax.{w32}
use borrow.Author.Rules.{rules}
use Rattle.file_header.proofs.Head.{header_told}
use Rattle.file_header.proofs.read_header.Goals as goal

pub returns : goal.returns
returns c =
    let n = c.column_at-count in
    let k = c.column_at-kind in
    let tn : to_z w32 (of_z w32 c.unwrap_or.result) ≡ c.unwrap_or.result = search rules in
    let tk : to_z w32 (of_z w32 c.unwrap_or-2.result) ≡ c.unwrap_or-2.result = search rules in
    c.formed.ensures
    ∙ simp (c.natural.ensures, c.natural-2.ensures, tn, tk)
    (simp (c.is_some.ensures, c.is_some-2.ensures, c.unwrap_or.ensures, c.unwrap_or-2.ensures)
    (header_told c.args.bytes.now n.result k.result n.ensures k.ensures (omega arith)))
