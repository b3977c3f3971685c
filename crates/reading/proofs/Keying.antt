-- Pairs that 5 lets pass have keys. Assumes nothing.
use mathlib.Core.Path.{◌≡◌}
use mathlib.Core.Bool.{true}
use mathlib.Core.List.{List, [], ◌∷◌}
use Prim.Native.Nat.{◌≤◌}
use native.Mathlib.Omega.{arith}
use Rattle.lists.specs.Bools.{and_out}
use Rattle.lists.specs.Lists.{every}
use Rattle.lists.specs.Words.{All}
use Rattle.rules.specs.declared.Pair.{Pair}
use Rattle.rules.specs.declared.Session.{Session}
use Rattle.rules.specs.Tables.{most_rows}
use Rattle.rules.specs.Session.{held_pairs}
use Rattle.rules.specs.Calls.{pair_fits}
use Rattle.session_laws.specs.Record.{RecordFits, pair_out}
use Rattle.keys.specs.Held.{Narrow}

-- pairs that 5 lets pass have keys
narrow_pairs : (s : Session) (l : List Pair) → s.depth.field.0 ≤ most_rows → s.depth.trim.0 ≤ most_rows
    → every (pair_fits s) l ≡ true
    → All Narrow l
unfolding every
narrow_pairs s [] f t h = tt
narrow_pairs s (p ∷ l) f t h =
    let k = and_out (pair_fits s p) (every (pair_fits s) l) h in
    let w = pair_out s p k.0 in (
      record {
        sum = omega (arith, w.low_sum_lem);
        field = omega (arith, w.field_row);
        trim = omega (arith, w.trim_row);
      },
      narrow_pairs s l f t k.1,
    )

pub held_narrow : (s : Session) → RecordFits s → (s.held ≤ 64) × All Narrow (held_pairs s)
held_narrow s r = (
  omega (arith, r.room, r.query.k.1),
  narrow_pairs s (held_pairs s) (omega (arith, r.field.few, r.field.within))
      (omega (arith, r.trim.few, r.trim.within)) r.pairs,
)
