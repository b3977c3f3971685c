-- `put_rows` meets its contract: the rows passed stand at the front, the rest is as it was. Assumes nothing.
use Rattle.std.proofs.Common.{◌≡◌, sym, ap, ap₂, subst, ◌∙◌, ℕ, ◌+◌, ◌*◌, drop, arith}
use Rattle.lists.specs.Lists.{range, each}
use Rattle.rules.specs.File.{header_bytes, row_start, file_table}
use Rattle.rules.specs.Tables.{width}
use Rattle.file_laws.specs.Parts.{RowBytesFit, row_parts}
use Rattle.file.specs.Put.{row_put}
use Rattle.file.proofs.Table.{one_row_lem}
use Rattle.file.proofs.put_rows.Goals as goal

pub loop-i-init : goal.loop-i-init
unfolding file_table range each
loop-i-init c =
    let none : 0 ≡ width c.args.n * 0 = omega arith in
    ap (λ (k : ℕ). drop k c.args.out.now) none

pub put_row-requires-clause-row_bytes_fit : goal.put_row-requires-clause-row_bytes_fit
put_row-requires-clause-row_bytes_fit c =
    let s = c.args in
    let i = c.loop-i.i in
    let place = ap (λ (z : ℕ). header_bytes + z * i) c.row_bytes-size.ensures in
    subst (RowBytesFit s.n s.bytes.now) (sym place)
    (row_parts s.n s.bytes.now i (c.requires.rows_fit i c.loop-i-test.true))

pub loop-i-preserved : goal.loop-i-preserved
loop-i-preserved c =
    let l = c.loop-i in
    let s = c.args in
    let bytes = s.bytes.now in
    let place = ap (λ (z : ℕ). header_bytes + z * l.i) c.row_bytes-size.ensures in
    let target = ap (λ (w : ℕ). w * l.i) c.width-width.ensures in
    c.put_row.ensures
    ∙ ap₂ (λ (o p : ℕ). row_put s.n bytes o p l.out) place target
    ∙ ap (row_put s.n bytes (row_start s.n l.i) (width s.n * l.i)) l.invariant
    ∙ one_row_lem s.n bytes l.i s.out.now
