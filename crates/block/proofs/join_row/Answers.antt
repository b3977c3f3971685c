-- `join_row` meets its contract, pair by pair: withdrawn rows qualify with none. Assumes nothing.
use Rattle.std.proofs.Common.{◌+◌, ◌<◌, sym, ap, subst, ◌∙◌, arith}
use Rattle.rules.specs.Tables.{table, terms, pair_at}
use Rattle.block_rows.specs.Parts.{at}
use Rattle.keys.specs.Held.{Narrow, falls_off}
use Rattle.block.specs.Full.{later_narrow, later_falls}
use Rattle.block.specs.Live.{trim_falls, none_beyond_second}
use Rattle.block.specs.Small.{rows_small}
use Rattle.block.proofs.Turns as Turns
use Rattle.block.proofs.join_row.Goals as goal
use Rattle.block.proofs.join_row.Goals.{Then-falls_off}

pub loop-j-init : goal.loop-j-init
loop-j-init c = record { upto = omega arith; few = c.requires.held_le_room.0; met = Turns.row_starts _ _ _ _ _ _ }

pub next_near-k-requires-clause-small_pairs : goal.next_near-k-requires-clause-small_pairs
next_near-k-requires-clause-small_pairs c =
    let fits = c.requires.query_fits in
    rows_small c.args.q c.args.a c.args.c _ _ fits.1 fits.0 fits.2 fits.3

pub returns-then-k-m : goal.returns-then-k-m
returns-then-k-m c =
    let near = c.next_near-k.ensures in
    let v = c.loop-j in
    let none = none_beyond_second c.args.q _ _ c.args.m c.requires.live.2 c.args.i in
    Turns.row_ends _ _ _ _ _ _ v.keys _
    (Turns.skipped _ _ _ _ _ _ v.keys v.j _ near.from near.none_before v.invariant.met)
    (omega (arith, c.requires.live.2.upto)) v.invariant.few (λ k h. none k (omega (arith, h)))

pub returns-then-falls_off : goal.returns-then-falls_off
returns-then-falls_off c =
    let near = c.next_near-k.ensures in
    let v = c.loop-j in
    let q = c.args.q in
    let w = terms q in
    let x = at c.args.a (table c.args.n c.args.x.now) in
    let y = at c.args.c (table c.args.n c.args.y.now) in
    let k = c.next_near-k.result in
    let rows = c.requires.query_fits.3 in
    let pair = c.pair_at-p.ensures in
    let narrow : Narrow (pair_at w x y c.args.i k) = subst Narrow pair.0 pair.1 in
    let here = Turns.skipped w c.args.room x y c.args.i _ v.keys v.j k near.from near.none_before v.invariant.met in
    Turns.rest_fallen w c.args.room x y c.args.i _ v.keys k here (omega (arith, c.requires.live.2.upto)) v.invariant.few
    (λ j h l.
    let falls = trim_falls q c.args.c y.rows rows k j h l in
    let few : c.args.c + j + 1 < 65536 = omega (arith, rows.few, l) in (
      later_narrow w x y c.args.i k j h falls few narrow,
      λ some.
          later_falls w x y c.args.i k j h falls few narrow c.args.room v.keys
          (ap (falls_off c.args.room v.keys) (sym pair.0) ∙ sym (c.falls_off.ensures some) ∙ c.if-falls_off.true),
    ))

pub loop-j-preserved : goal.loop-j-preserved
loop-j-preserved c =
    let near = c.next_near-k.ensures in
    let v = c.loop-j in
    let here = Turns.skipped _ _ _ _ _ _ v.keys v.j _ near.from near.none_before v.invariant.met in
    record {
      upto = omega arith;
      few = c.put.ensures.few;
      met = Turns.joined _ _ _ _ _ _ v.keys _ c.put.new.self c.pair_at-p.result here (near.found (omega arith))
          c.pair_at-p.ensures.0 c.put.ensures;
    }

pub returns : goal.returns
returns c =
    let v = c.loop-j in
    let none = none_beyond_second c.args.q _ _ c.args.m c.requires.live.2 c.args.i in
    Turns.row_ends _ _ _ _ _ _ v.keys v.j v.invariant.met (omega (arith, c.requires.live.2.upto)) v.invariant.few
    (λ k h. none k (omega (arith, h)))
