-- `put_part` meets its contract. Assumes nothing.
use Rattle.std.proofs.Common.{◌≤◌, ◌+◌, length}
use mathlib.Core.Path.{ap, ◌∙◌}
use native.Mathlib.Omega.{arith}
use Rattle.rules.specs.Tables.{table}
use Rattle.listing.specs.Shown.{line_of}
use Rattle.query_numbers.specs.Answers.{pair_numbers, root_numbers}
use Rattle.query_numbers.specs.Parts.{part_length, part_numbers}
use Rattle.query_numbers.proofs.Steps.{put_over}
use Rattle.query_numbers.proofs.put_part.Goals as goal

pub returns-in-Numbers : goal.returns-in-Numbers
unfolding part_numbers pair_numbers line_of
returns-in-Numbers c =
    let s = c.args in
    let wide = ap part_length c.in-Numbers.is in
    let fits : s.at + 6 ≤ length s.out.now = omega arith in
    rw c.in-Numbers.is
    (put_over s.at _ s.out.now _ (pair_numbers (table s.n s.f.now) (table s.n s.t.now) s.p)
    (c.copy_from_slice.ensures.after
    ∙ simp (
      c.from.ensures,
      c.from-in-Numbers.ensures,
      c.from-in-Numbers-2.ensures,
      c.from-in-Numbers-3.ensures,
      c.from-in-Numbers-4.ensures,
      c.line_of-line.ensures,
    ))
    (omega arith) (omega (arith, fits)))

pub returns-in-Roots : goal.returns-in-Roots
unfolding part_numbers root_numbers line_of
returns-in-Roots c =
    let s = c.args in
    let wide = ap part_length c.in-Roots.is in
    let fits : s.at + 2 ≤ length s.out.now = omega arith in
    rw c.in-Roots.is
    (put_over s.at _ s.out.now _ (root_numbers (table s.n s.f.now) (table s.n s.t.now) s.p)
    (c.copy_from_slice-in-Roots.ensures.after ∙ simp c.line_of-line.ensures) (omega arith) (omega (arith, fits)))
