-- `rows_far` meets its contract: what the sides seen leave of the radius' square decides. Assumes nothing.
use mathlib.Core.Path.{◌≡◌, ap, ap₂, ◌∙◌}
use Prim.Native.Nat.{◌+◌, ◌*◌, ◌-◌}
use native.Mathlib.Omega.{arith}
use lib.IntN.{pos}
use lib.ListN.{get_or}
use Rattle.lists.specs.Bits.{as32_is}
use Rattle.rules.specs.Tables.{table, squares, side_gap}
use Rattle.rectangles.proofs.Sums as S
use borrow.Author.Rules.{rules}
use Rattle.rectangles.proofs.rows_far.Goals as goal
use Rattle.rectangles.proofs.rows_far.Goals.{After-lowered-g}

pub loop-k-init : goal.loop-k-init
unfolding squares
loop-k-init c = rw c.from-r.ensures (omega arith)

-- one side more, at either branch
turn : (c : After-lowered-g)
    → let s = c.args in
    let k = c.loop-k.k in
    let seen = S.seen s.less s.sides.now (table s.n s.t.now) s.m in
    seen (k + 1) ≡ seen k + c.lowered-g.result * c.lowered-g.result
turn c =
    let s = c.args in
    let k = c.loop-k.k in
    let low = as32_is (get_or s.sides.now (2 * k) (pos 0)) (search rules) in
    let high = as32_is (get_or s.sides.now (2 * k + 1) (pos 0)) (search rules) in
    let gap = c.side_gap.ensures.0 ∙ ap₂ side_gap (λ i. record { low = low i; high = high i }) c.side-o.ensures in
    S.next s.less s.sides.now (table s.n s.t.now) s.m k c.lowered-g.result c.loop-k-test.true
    (c.lowered-g.ensures ∙ ap (λ n. n - s.less) gap)

pub returns-then-left-square : goal.returns-then-left-square
returns-then-left-square c =
    let s = c.args in
    S.too_far s.less s.sides.now (table s.n s.t.now) s.m (c.loop-k.k + 1) s.radius
    (omega (arith, turn (goal.at.returns-then-left-square c).After-lowered-g))

pub loop-k-preserved : goal.loop-k-preserved
loop-k-preserved c = omega (arith, turn (goal.at.loop-k-preserved c).After-lowered-g)

pub returns : goal.returns
returns c =
    let s = c.args in
    S.near_enough s.less s.sides.now (table s.n s.t.now) s.m c.loop-k.k s.radius (omega arith) (omega arith)
