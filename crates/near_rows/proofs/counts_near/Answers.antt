-- `counts_near` meets its contract: of rows that are not withdrawn both tests are the rule's. Assumes nothing.
use mathlib.Core.Path.{sym, ap₂, ◌∙◌}
use Prim.Native.Nat.{◌*◌}
use lib.Dec.{leb}
use Rattle.rules.specs.Tables.{table, row, squares, qualifies}
use Rattle.session_laws.specs.ReadOut.{rows_qualify_in}
use Rattle.tolerances.specs.Counted.{counted}
use Rattle.tolerances.specs.Reach.{qualifies_counted}
use Rattle.near_rows.proofs.counts_near.Goals as goal

pub returns : goal.returns
returns c =
    let shades = c in
    let q = shades.args.q in
    let x = shades.shade-first.result.now in
    let y = shades.shade-second.result.now in
    let a = c.args in
    let live = c.requires.i_value in
    c.near_small.ensures
    ∙ ap₂ (λ more less. leb (squares (counted more less) x y) (q.radius * q.radius))
    c.more-more.ensures.0 c.less-less.ensures.0
    ∙ sym (qualifies_counted q x y)
    ∙ ap₂ (qualifies q) c.shade-first.ensures.0 c.shade-second.ensures.0
    ∙ sym (rows_qualify_in q (row (table a.n a.x.now) a.i) (row (table a.n a.y.now) a.j) live.0 live.1)
