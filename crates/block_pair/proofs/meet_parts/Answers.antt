-- `meet_parts` meets its contract: the block pair comes to what the rule says, whatever the record is. Assumes nothing.
use Rattle.block_pair.specs.Stands.{meets_skipped, meets_quiet, meets_joined}
use Rattle.block_pair.proofs.meet_parts.Goals as goal
use Rattle.block_pair.proofs.meet_parts.Goals.{in-Quiet, in-PairByPair}

pub returns-in-Skipped : goal.returns-in-Skipped
returns-in-Skipped c =
    meets_skipped _ _ _ _ _ _ c.requires.held_le_room.0
    (simp (c.held.ensures.many, c.last-low.ensures) at c.in-Skipped.ensures)

pub returns : goal.returns
returns c =
    let few = c.requires.held_le_room.0 in
    elim c.match-effect_parts.branch [
      | in-Quiet w ↦
          rw w.keys-is
          (meets_quiet _ _ _ _ _ _ few (simp (c.held.ensures.many, c.last-low.ensures) at w.in-Quiet.ensures))
      | in-PairByPair w ↦
          rw w.keys-is
          (meets_joined _ _ _ _ _ _ (simp (c.held.ensures.many, c.last-low.ensures) at w.in-PairByPair.ensures) _
          w.join_parts.ensures)
    ]
