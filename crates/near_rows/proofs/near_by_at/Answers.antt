-- `near_by_at` meets its contract: no gap is raised or lowered. Assumes nothing.
use mathlib.Core.Path.{ap, ap₂, ◌∙◌}
use Prim.Native.Nat.{◌*◌}
use native.Mathlib.Omega.{arith}
use lib.Dec.{leb}
use Rattle.rules.specs.Tables.{gap, squared_distance}
use Rattle.rules.specs.Squares.{squares_each}
use Rattle.tolerances.specs.Counted.{counted}
use Rattle.near_rows.specs.Candidate.{stand_near}
use Rattle.near_rows.proofs.near_by_at.Goals as goal

pub returns : goal.returns
unfolding stand_near
returns c =
    let r = c.args.radius in
    let first = c.shade-first in
    let second = c.shade-second in
    c.near_small.ensures
    ∙ ap (λ n. leb n (r * r))
    (squares_each (counted 0 0) gap (λ a b. omega arith) first.result.now second.result.now
    ∙ ap₂ squared_distance first.ensures.0 second.ensures.0)
