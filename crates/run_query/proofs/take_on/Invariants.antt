-- `take_on`'s loop: the pairs so far, and the record's tables are the first one's. Assumes nothing.
use Rattle.std.proofs.Common.{◌≡◌}
use Rattle.rules.specs.Session.{lent_table}
use Rattle.run_query.proofs.Taking.{Taking}
use Rattle.run_query.proofs.take_on.Given as goal

abbrev pub invariant-loop-n : goal.invariant-loop-n
invariant-loop-n l =
    Taking (lent_table l.fn.s l.f) (lent_table l.fn.s l.t) l.fn.s l.n l.pairs l.left × (l.left.rows ≡ l.fn.s.rows)
