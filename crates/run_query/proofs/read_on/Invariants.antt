-- `read_on`'s loop: the record reads on to what the first one reads on to, and its tables are that one's. Assumes
-- nothing.
use Rattle.std.proofs.Common.{◌≡◌}
use Rattle.rules.specs.Session.{lent_table}
use Rattle.session_laws.specs.Read.{unread_rows}
use Rattle.outcomes.specs.Until.{read_on}
use Rattle.run_query.proofs.read_on.Given as goal

abbrev pub invariant-loop-at : goal.invariant-loop-at
invariant-loop-at l =
    (read_on (lent_table l.fn.s l.f) (lent_table l.fn.s l.t) l.at
    ≡ read_on (lent_table l.fn.s l.f) (lent_table l.fn.s l.t) l.fn.s)
    × (l.at.rows ≡ l.fn.s.rows)

abbrev pub decreases-loop-at : goal.decreases-loop-at
decreases-loop-at l = unread_rows l.at
