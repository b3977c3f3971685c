-- `read_out` meets its contract: of a table of which nothing was read no row is withdrawn. Assumes nothing.
use mathlib.Core.Path.{◌≡◌, refl, ◌∙◌}
use native.Mathlib.Omega.{arith}
use borrow.Author.Tests.{ne_eqb}
use Rattle.rules.specs.Session.{withdrawn_within, read_out}
use Rattle.table_ends.proofs.read_out.Goals as goal

pub returns-else-depth-gt0 : goal.returns-else-depth-gt0
unfolding read_out withdrawn_within
returns-else-depth-gt0 c =
    let none : c.args.depth ≡ 0 = omega arith in
    simp (none, ne_eqb 0 c.args.rows (λ e. c.if-depth-rows.false (none ∙ e))) refl
