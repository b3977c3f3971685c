-- `next_counted` meets its contract: no row that was passed lies near. Assumes nothing.
use Rattle.rules.specs.Tables.{table, terms}
use Rattle.near_rows.specs.Near.{NoneNear}
use Rattle.near_rows.proofs.next_counted.Given as goal

abbrev pub invariant-loop-k : goal.invariant-loop-k
invariant-loop-k l = NoneNear (terms l.q) (table l.n l.x) l.i (table l.n l.y) l.j l.k
