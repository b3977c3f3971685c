-- `read_input` meets its contract: a query is read of three columns. Assumes nothing.
use Rattle.std.proofs.Common.{◌≡◌, Some, true, false, get_or, eq-eqb, ne_eqb, arith, to_z, of_z}
use mir.Syntax.{w32}
use borrow.Author.Rules.{rules}
use Rattle.rules.specs.File.{columns, ends_line}
use Rattle.column.specs.Column.{column_held}
use Rattle.program_input.proofs.Steps.{end_none, query_held}
use Rattle.program_input.proofs.read_input.Goals as goal

pub returns-then-input-ne10 : goal.returns-then-input-ne10
returns-then-input-ne10 c =
    let input = c.args.input.now in
    end_none input (omega arith) (ne_eqb (get_or input 18 0) 10 c.if-input-ne10.true)

pub returns : goal.returns
returns c =
    let input = c.args.input.now in
    let k = c.in_ok-k.k in
    let b = c.in_ok-block.block in
    let r = c.in_ok-radius.radius in
    let tk : to_z w32 (of_z w32 k) ≡ k = search rules in
    let tb : to_z w32 (of_z w32 b) ≡ b = search rules in
    let tr : to_z w32 (of_z w32 r) ≡ r = search rules in
    let ek : column_held false (columns input 0 6) ≡ Some k = search rules in
    let eb : column_held false (columns input 6 6) ≡ Some b = search rules in
    let er : column_held false (columns input 12 6) ≡ Some r = search rules in
    let end : ends_line input 18 ≡ true = eq-eqb (get_or input 18 0) 10 (omega arith) in
    simp (c.evenly.ensures, c.natural.ensures, c.natural-2.ensures, c.natural-3.ensures, tk, tb, tr)
    (query_held input (omega arith) k b r ek eb er end)
