-- `read_on` meets its contract: the new block and the other table's blocks are the rule's. Assumes nothing.
use Rattle.std.proofs.Common.{cond, arith}
use Rattle.rules.specs.Session.{lent_table}
use Rattle.rules.specs.Read.{meet_blocks, rows_between, old_depth, new_depth, block_count, read_table_by}
use Rattle.session_laws.specs.Read.{blocks_keep}
use Rattle.choosing.specs.Ready.{Ready}
use Rattle.choosing.specs.Due.{other_depth}
use Rattle.meeting.specs.Meets.{blocks_ready}
use Rattle.block_pair.specs.Stands.{Stands}
use Rattle.next_block.specs.After.{read_is}
use Rattle.next_block.proofs.read_on.Goals as goal

pub returns : goal.returns
unfolding read_table_by
returns c =
    let a = c.args in
    let f = lent_table a.s a.f.now in
    let t = lent_table a.s a.t.now in
    let depth = other_depth a.field a.s in
    let met =
    meet_blocks a.field a.s (rows_between (cond a.field f t) (old_depth a.field a.s) (new_depth a.field a.s))
    (cond a.field t f) depth (block_count a.s.query.block depth) in
    let ready : Ready met = blocks_ready a.field a.s _ _ _ _ c.requires.0.ready in
    let stands : Stands met c.meet_new-joined.result c.meet_new-joined.new.keys =
    simp (
      c.block_count-n.ensures.0,
      c.next_depth-e.ensures,
      c.pick-depth.ensures,
      c.pick-d.ensures,
      c.pick-rows.ensures,
    )
    at c.meet_new-joined.ensures in (
      simp (
        c.pick.ensures,
        c.down_to.ensures,
        c.next_depth-e.ensures,
        c.pick-d.ensures,
        c.pick-rows.ensures,
      )
          (read_is a.field (new_depth a.field a.s) a.s met (blocks_keep a.field a.s _ _ _ _) ready _ _ stands),
      omega (arith, stands.held, ready.room, ready.query.k.1),
    )
