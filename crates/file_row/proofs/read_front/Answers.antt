-- `read_front` meets its contract: what is read of the four columns, put together. Assumes nothing.
use Rattle.std.proofs.Common.{◌≡◌, ◌∙◌, to_z, of_z}
use mir.Syntax.{w32}
use borrow.Author.Rules.{rules}
use Rattle.file_row.proofs.Rows.{front_told}
use Rattle.file_row.proofs.read_front.Goals as goal

pub returns : goal.returns
returns c =
    let p = c.column_at-pattern in
    let s = c.column_at-score in
    let a = c.column_at-a in
    let b = c.column_at-b in
    let ta : to_z w32 (of_z w32 c.unwrap_or.result) ≡ c.unwrap_or.result = search rules in
    let tb : to_z w32 (of_z w32 c.unwrap_or-2.result) ≡ c.unwrap_or-2.result = search rules in
    let tp : to_z w32 (of_z w32 c.unwrap_or-3.result) ≡ c.unwrap_or-3.result = search rules in
    let ts : to_z w32 (of_z w32 c.unwrap_or-4.result) ≡ c.unwrap_or-4.result = search rules in
    let tc : to_z w32 (of_z w32 c.unwrap_or-5.result) ≡ c.unwrap_or-5.result = search rules in
    c.formed.ensures
    ∙ simp (c.in_range.ensures, c.coordinate_fits.ensures, c.coordinate_fits-2.ensures, ta, tb, tp, ts, tc)
    (simp (
      c.is_some.ensures,
      c.is_some-2.ensures,
      c.is_some-3.ensures,
      c.is_some-4.ensures,
      c.unwrap_or.ensures,
      c.unwrap_or-2.ensures,
      c.unwrap_or-3.ensures,
      c.unwrap_or-4.ensures,
      c.unwrap_or-5.ensures,
    )
    (front_told c.args.bytes.now c.args.o p.result s.result a.result b.result p.ensures s.ensures a.ensures b.ensures))
