-- What a turn of the loop knows is `Looking`'s.
use Rattle.pair_checks.proofs.Looking.{Looking}
use Rattle.pair_checks.proofs.pairs_fit.Given as goal

abbrev pub invariant-loop-i : goal.invariant-loop-i
invariant-loop-i l = Looking l.pairs l.held l.depth l.i l.before
