-- `some_beside` meets its contract: where no row was seen beside, all rows passed lie beyond reach. Assumes nothing.
use mathlib.Core.Path.{subst}
use native.Mathlib.Omega.{arith}
use Rattle.lists.specs.Bools.{or_none_out}
use Rattle.rules.specs.Tables.{table, row}
use Rattle.rules.specs.Qualifying.{places_far}
use Rattle.tolerances.specs.Counted.{Beyond}
use Rattle.tolerances.specs.Reach.{beyond_reach}
use Rattle.near_rows.specs.Near.{row_more}
use Rattle.near_rows.proofs.some_beside.Goals as goal

pub loop-j-preserved : goal.loop-j-preserved
loop-j-preserved c =
    let s = c.args in
    let x = row (table s.n s.x.now) s.i in
    let y = table s.n s.y.now in
    let reach = c.reach-reach.result in
    let v = c.loop-j in
    λ e.
    let both = or_none_out v.seen c.beside_at-seen.result e in
    row_more (λ b. Beyond reach x.shade (row y b).shade) s.k v.j (v.invariant both.0) (c.beside_at-seen.ensures both.1)

pub returns : goal.returns
returns c =
    let s = c.args in
    let x = row (table s.n s.x.now) s.i in
    let y = table s.n s.y.now in
    λ e b h k.
    let beyond = c.loop-j.invariant e b h (omega (arith, k, c.loop-j-test.false)) in
    places_far s.q x (row y b)
    (beyond_reach s.q x.shade (row y b).shade
    (subst (λ reach. Beyond reach x.shade (row y b).shade) c.reach-reach.ensures.0 beyond))
