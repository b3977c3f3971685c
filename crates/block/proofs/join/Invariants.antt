-- `join` meets its contract, row by row. Assumes nothing.
use Rattle.std.proofs.Common.{◌≤◌, length}
use Rattle.rules.specs.Tables.{table, terms}
use Rattle.block_rows.specs.Parts.{at}
use Rattle.block.proofs.Turns as Turns
use Rattle.block.proofs.join.Given as goal

abbrev pub invariant-loop-i : goal.invariant-loop-i
invariant-loop-i l = record {
  few : length l.keys ≤ l.room;
  met : Turns.Met (terms l.q) l.room (at l.a (table l.n l.x)) (at l.c (table l.n l.y)) l.initial.keys l.i l.keys;
}
