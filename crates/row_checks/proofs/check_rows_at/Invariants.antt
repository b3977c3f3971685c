-- `check_rows_at` meets its contract: no row before the turn's is refused, and the first that is decides. Assumes
-- nothing.
use mathlib.Core.Path.{◌≡◌}
use Rattle.rules.specs.Tables.{table}
use Rattle.rules.specs.Calls.{rows_code}
use Rattle.row_checks.proofs.check_rows_at.Given as goal

abbrev pub invariant-loop-i : goal.invariant-loop-i
invariant-loop-i l = rows_code (table l.n l.t) l.a l.i ≡ 0
