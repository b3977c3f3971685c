-- `meet_blocks` meets its contract: after i turns the keys stand for the record that met the first i blocks. Assumes
-- nothing.
use Rattle.std.proofs.Common.{◌-◌, ◌≤◌, cond, length}
use Rattle.rules.specs.Session.{lent_table}
use Rattle.rules.specs.Read.{meet_blocks}
use Rattle.block_pair.specs.Spans.{span_block}
use Rattle.block_pair.specs.Stands.{Stands}
use Rattle.meeting.proofs.meet_blocks.Given as goal

abbrev pub invariant-loop-i : goal.invariant-loop-i
invariant-loop-i l = record {
  few : length l.keys ≤ l.s.query.k - l.s.out;
  stands :
      Stands
      (meet_blocks l.field l.s (span_block (cond l.field (lent_table l.s l.f) (lent_table l.s l.t)) l.new)
      (cond l.field (lent_table l.s l.t) (lent_table l.s l.f)) l.depth l.i)
      l.joined l.keys;
}
