-- `put_row_at` meets its contract: the numbers passed stand in their places. Assumes nothing.
use Rattle.std.proofs.Common.{◌≡◌, sym, ap, subst, ◌∙◌, true, List, ℕ, ◌+◌, ◌≤◌, ℤ, length, set, add-one, arith, to_z}
use Rattle.std.proofs.Common.{of_z}
use mir.Syntax.{w32}
use borrow.Author.Rules.{rules}
use Rattle.rules.specs.Tables.{width}
use Rattle.rules.specs.File.{columns, column_fits, column_number, is_signed, column_bytes, column_start, row_bytes}
use Rattle.rules.specs.File.{column_fits_at, number_at}
use Rattle.file_laws.specs.Columns.{start_next, column_ends}
use Rattle.file.proofs.Table.{put_none, put_more}
use Rattle.file.proofs.put_row_at.Goals as goal
use Rattle.file.proofs.put_row_at.Goals.{In-loop-j}

-- the column at hand is there
room : (c : In-loop-j) → c.loop-j.at + column_bytes c.loop-j.j + 1 ≤ length c.args.bytes.now
unfolding row_bytes
room c =
    let l = c.loop-j in
    let inside : l.j + 1 ≤ width c.args.n = omega (arith, c.loop-j-test.true, c.width-j-end.ensures) in
    omega (arith, l.invariant.0, c.requires.n_in_bounds.0, column_ends l.j (width c.args.n) (omega arith))

pub loop-j-init : goal.loop-j-init
unfolding column_start
loop-j-init c =
    let s = c.args in
    (omega arith, sym (put_none (number_at s.bytes.now s.o) s.p s.out.now (omega (arith, c.requires.n_in_bounds.1))))

pub row_number-requires-clause-j_in_bounds : goal.row_number-requires-clause-j_in_bounds
row_number-requires-clause-j_in_bounds c =
    omega (arith, room (goal.at.row_number-requires-clause-j_in_bounds c).In-loop-j)

pub row_number-requires-clause-j_value : goal.row_number-requires-clause-j_value
unfolding column_fits_at
row_number-requires-clause-j_value c =
    let l = c.loop-j in
    let bytes = c.args.bytes.now in
    let fit = c.requires.row_bytes_fit.column l.j (omega (arith, c.loop-j-test.true, c.width-j-end.ensures)) in
    subst (λ (at : ℕ). column_fits (is_signed l.j) (columns bytes at (column_bytes l.j)) ≡ true) (sym l.invariant.0) fit

pub overflow_add-at : goal.overflow_add-at
overflow_add-at c = record
    { fits = omega (arith, room (goal.at.overflow_add-at c).In-loop-j, c.column_bytes-at.ensures) }

pub loop-j-preserved : goal.loop-j-preserved
unfolding number_at
loop-j-preserved c =
    let l = c.loop-j in
    let s = c.args in
    let bytes = s.bytes.now in
    let number = c.row_number in
    let f = number_at bytes s.o in
    let told : to_z w32 (of_z w32 number.result) ≡ number.result = search rules in
    let found : to_z w32 (of_z w32 number.result) ≡ f l.j =
    told
    ∙ number.ensures
    ∙ ap (λ (x : ℕ). column_number (is_signed l.j) (columns bytes x (column_bytes l.j))) l.invariant.0 in (
      omega (arith, l.invariant.0, c.column_bytes-at.ensures, ap column_start (add-one l.j), start_next l.j),
      ap (set l.out (s.p + l.j)) found
          ∙ ap (λ (r : List ℤ). set r (s.p + l.j) (f l.j)) l.invariant.1
          ∙ put_more f s.p s.out.now l.j
          (omega (arith, c.loop-j-test.true, c.width-j-end.ensures, c.requires.n_in_bounds.1)),
    )
