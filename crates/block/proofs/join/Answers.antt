-- `join` meets its contract, row by row: withdrawn rows qualify with none. Assumes nothing.
use Rattle.std.proofs.Common.{arith}
use Rattle.block.specs.Live.{rows_below, none_beyond_first}
use Rattle.block.proofs.Turns as Turns
use Rattle.block.proofs.join.Goals as goal

pub live_rows-l-requires : goal.live_rows-l-requires
live_rows-l-requires c = rows_below _ _ c.requires.query_fits.2

pub live_rows-m-requires : goal.live_rows-m-requires
live_rows-m-requires c = rows_below _ _ c.requires.query_fits.3

pub loop-i-init : goal.loop-i-init
loop-i-init c = record { few = c.requires.held_le_room.0; met = Turns.starts _ _ _ _ _ }

pub loop-i-preserved : goal.loop-i-preserved
loop-i-preserved c =
    let v = c.loop-i in
    record {
      few = c.join_row.ensures.few;
      met = Turns.next_row _ _ _ _ _ v.i v.keys v.invariant.met c.join_row.new.keys c.join_row.ensures;
    }

pub returns : goal.returns
returns c =
    let v = c.loop-i in
    let live = c.live_rows-l.ensures in
    let none = none_beyond_first c.args.q _ _ c.live_rows-l.result live in
    Turns.all_met _ _ _ _ _ v.i v.keys v.invariant.met c.requires.held_le_room.0 v.invariant.few
    (omega (arith, live.upto))
    (λ k h few j _. none k j (omega (arith, h)) few)
