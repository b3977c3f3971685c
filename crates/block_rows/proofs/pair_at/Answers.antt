-- `pair_at` meets its contract, by what `weighted` ensures: the sum is small. Assumes nothing.
use native.Mathlib.Omega.{arith}
use mathlib.Core.Path.{refl}
use Prim.Native.Nat.{◌+◌, ◌≤◌}
use Rattle.rules.specs.Tables.{table, pair_at, pair_sum}
use Rattle.rules.specs.Calls.{most_sum}
use Rattle.session_laws.specs.Tables.{weighted_most}
use Rattle.block_rows.proofs.pair_at.Goals as goal
use Rattle.block_rows.proofs.pair_at.Goals.{After-weighted-t}

-- two weighted scores of rows that passed 6
low : (c : After-weighted-t) → c.weighted-s.result + c.weighted-t.result ≤ most_sum
low c =
    let s = c in
    let a = s.args in
    let fits = s.requires.query_fits in
    let x = table a.n a.x.now in
    let y = table a.n a.y.now in
    let first = weighted_most x a.i fits.1 a.q.weights.field.0 fits.0.field_weight.1 in
    let second = weighted_most y a.j fits.2 a.q.weights.trim.0 fits.0.trim_weight.1 in
    omega (arith, c.weighted-s.ensures.0, c.weighted-t.ensures.0)

pub overflow_cast-result : goal.overflow_cast-result
overflow_cast-result c = record { fits = omega (arith, low (goal.at.overflow_cast-result c).After-weighted-t) }

pub returns : goal.returns
unfolding pair_at pair_sum
returns c = (
  simp (c.weighted-s.ensures.0, c.weighted-t.ensures.0) refl,
  record { sum = omega (arith, low (goal.at.returns c).After-weighted-t); field = omega arith; trim = omega arith },
)
