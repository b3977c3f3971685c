-- The ends of a side as the code has them: one row more. Assumes nothing.
use mathlib.Core.Path.{◌≡◌, ap, ap₂, ◌∙◌}
use Prim.Native.Nat.{ℕ, zero, suc, ◌+◌, ◌-◌, ◌≤◌}
use native.Mathlib.Omega.{arith}
use lib.IntN.{ℤ}
use Rattle.rules.specs.declared.Side.{Side}
use Rattle.rules.specs.Tables.{Table, num, side}
use Rattle.sides.specs.Sides.{widened}

-- one row more
pub side_more : (t : Table) (k i : ℕ) (s : Side) (x : ℤ) → 1 ≤ i → s ≡ side t k (i - 1) → x ≡ num t i (k + 2)
    → widened s x ≡ side t k (i + 1 - 1)
unfolding side
side_more t k zero s x h e f = absurd (omega arith)
side_more t k (suc i) s x h e f =
    let less : suc i - 1 ≡ i = omega arith in
    let same : suc i ≡ suc i + 1 - 1 = omega arith in
    ap₂ widened (e ∙ ap (side t k) less) f ∙ ap (side t k) same
