-- `join_row` meets its contract, pair by pair. Assumes nothing.
use Rattle.std.proofs.Common.{◌-◌, ◌≤◌, length}
use Rattle.rules.specs.Tables.{table, terms}
use Rattle.block_rows.specs.Parts.{at}
use Rattle.block.proofs.Turns as Turns
use Rattle.block.proofs.join_row.Given as goal

abbrev pub invariant-loop-j : goal.invariant-loop-j
invariant-loop-j l = record {
  upto : l.j ≤ l.m;
  few : length l.keys ≤ l.room;
  met : Turns.RowMet (terms l.q) l.room (at l.a (table l.n l.x)) (at l.c (table l.n l.y)) l.i l.initial.keys l.j l.keys;
}

abbrev pub decreases-loop-j : goal.decreases-loop-j
decreases-loop-j l = l.m - l.j
