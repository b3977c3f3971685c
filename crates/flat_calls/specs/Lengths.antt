-- Two lent slices that are both long enough. Assumes nothing.
use Rattle.std.specs.Prelude.{◌≡◌, false, ◌||◌, List, ℕ, ◌≤◌, length}
use Rattle.std.proofs.Common.{ltb-false}
use Rattle.lists.specs.Bools.{or_none_out}
use Rattle.flat_calls.specs.Calls.{too_short}

module _ (i j : ℕ) (l m : List ℕ) (e : too_short i l || too_short j m ≡ false) where
  pub left_long : i ≤ length l
  left_long = ltb-false (length l) i (or_none_out (too_short i l) (too_short j m) e).0

  pub right_long : j ≤ length m
  right_long = ltb-false (length m) j (or_none_out (too_short i l) (too_short j m) e).1
