-- `unpack` meets its contract: after i turns the first i places are taken back. Assumes nothing.
use mathlib.Core.Path.{◌≡◌}
use mathlib.Core.List.{◌++◌}
use lib.ListN.{drop, replicate}
use Rattle.rules.specs.Session.{no_pair, place_count}
use Rattle.record_layout.specs.Flat.{pairs_in, with_pairs}
use Rattle.record_taken.proofs.unpack.Given as goal

abbrev pub invariant-loop-i : goal.invariant-loop-i
invariant-loop-i l = l.s ≡ with_pairs l.l (pairs_in l.l l.i ++ drop l.i (replicate place_count no_pair))
