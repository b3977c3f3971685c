-- `put_sides` meets its contract: the sides written so far are those of the rectangle. Assumes nothing.
use mathlib.Core.Path.{sym, ap, ◌∙◌}
use native.Mathlib.Omega.{arith}
use Rattle.rules.specs.Tables.{table}
use Rattle.sides.specs.Sides.{first_sides}
use Rattle.sides.specs.SideLaws.{all_written, all_first}
use Rattle.sides.proofs.put_sides.Goals as goal

pub returns : goal.returns
returns c =
    let t = table c.args.n c.args.t.now in
    all_written t c.row_count-m.result c.loop-k.out (λ k h. c.loop-k.invariant k (omega arith))
    ∙ ap (first_sides t) c.row_count-m.ensures
    ∙ sym (all_first t)
