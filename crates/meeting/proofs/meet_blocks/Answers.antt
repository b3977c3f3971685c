-- `meet_blocks` meets its contract: after i turns the keys stand for the record that met the first i blocks. Assumes
-- nothing.
use Rattle.std.specs.Prelude.{◌≡◌, ℕ, ◌+◌, ◌*◌, ◌-◌, ◌≤◌, ◌<◌, min, cond, length}
use Rattle.std.proofs.Common.{refl, sym, ap₂, ◌∙◌, arith}
use Rattle.rules.specs.declared.Query.{Query}
use Rattle.rules.specs.Tables.{Table, most_rows, HasRows}
use Rattle.rules.specs.Widths.{rows_less}
use Rattle.rules.specs.Session.{lent_table}
use Rattle.rules.specs.Read.{meet, meet_blocks_by, meet_blocks}
use Rattle.keys.specs.Keys.{keyed_length}
use Rattle.session_laws.specs.Read.{blocks_keep, blocks_joined}
use Rattle.block_pair.specs.declared.Span.{Span}
use Rattle.block_pair.specs.Spans.{SpanFits, FirstFit, span_block}
use Rattle.meeting.specs.Meets.{blocks_ready, block_begins, blocks_next, inside_field, inside_trim}
use Rattle.meeting.specs.Meets.{parts_meet}
use Rattle.meeting.proofs.meet_blocks.Goals as goal

-- the turn's old block lies within its table
old_inside : (other : Table) (c g depth block : ℕ) → c < depth → 0 < block → g ≡ min (c + block) depth
    → depth ≤ most_rows → HasRows other depth → FirstFit other depth → SpanFits (record { from = c; to = g }) other
old_inside other c g depth block low least e few within fit =
    record {
      some = omega arith;
      few = omega arith;
      within = rows_less other g depth (omega arith) within;
      fit = λ i h. fit i (omega arith);
    }

pub loop-i-init : goal.loop-i-init
unfolding meet_blocks_by
loop-i-init c =
    let ready = c.requires.ready.0 in
    let many : length c.args.keys.now ≡ c.args.s.held = keyed_length _ _ c.requires.ready.2 ∙ ready.count in
    record {
      few = omega (arith, ready.room);
      stands = record { held = many; joined = refl; keyed = c.requires.ready.2 };
    }

pub meet_parts-joined-requires-clause-held_le_room : goal.meet_parts-joined-requires-clause-held_le_room
meet_parts-joined-requires-clause-held_le_room c =
    let a = c.args in
    let own = cond a.field (lent_table a.s a.f.now) (lent_table a.s a.t.now) in
    let other = cond a.field (lent_table a.s a.t.now) (lent_table a.s a.f.now) in
    let few = blocks_joined a.field a.s (span_block own a.new) other a.depth c.loop-i.i in (
      c.loop-i.invariant.few,
      omega (arith, c.requires.ready.0.query.k.1),
      omega (arith, c.requires.ready.1, c.loop-i.invariant.stands.joined),
    )

pub meet_parts-joined-requires-clause-query_fits : goal.meet_parts-joined-requires-clause-query_fits
meet_parts-joined-requires-clause-query_fits c =
    let a = c.args in
    let ready = c.requires.ready.0 in
    let fields = lent_table a.s a.f.now in
    let trims = lent_table a.s a.t.now in
    let r = c.requires.depth_le_most_rows in
    let block = a.s.query.block in
    let low = block_begins a.n block a.depth c.loop-i.i r.2 (omega arith) in
    let old : Span = record { from = c.loop-i.i * block; to = c.min.result } in
    let inside =
    old_inside (cond a.field trims fields) old.from old.to a.depth block low ready.query.block.0 c.min.ensures r.0 r.1
    c.requires.span_fits.1 in (
      ready.query,
      ready.card,
      rw c.pick-x.ensures (inside_field fields trims a.new old a.field c.requires.span_fits.0 inside),
      rw c.pick-y.ensures (inside_trim fields trims a.new old a.field c.requires.span_fits.0 inside),
    )

pub loop-i-preserved : goal.loop-i-preserved
loop-i-preserved c =
    let a = c.args in
    let i = c.loop-i.i in
    let fields = lent_table a.s a.f.now in
    let trims = lent_table a.s a.t.now in
    let other = cond a.field trims fields in
    let block = a.s.query.block in
    let old : Span = record { from = i * block; to = min (i * block + block) a.depth } in
    let new = span_block (cond a.field fields trims) a.new in
    let r = meet_blocks a.field a.s new other a.depth i in
    let kept = blocks_keep a.field a.s new other a.depth i in
    let left : r.query.k - r.out ≡ a.s.query.k - a.s.out =
    ap₂ (λ (q : Query) (out : ℕ). q.k - out) kept.query kept.out in
    let ready = blocks_ready a.field a.s new other a.depth i c.requires.ready.0 in
    let met = c.meet_parts-joined.ensures.meets r ready kept.query left c.loop-i.invariant.stands in
    let as_rule : meet r (span_block fields c.pick-x.result) (span_block trims c.pick-y.result)
    ≡ meet_blocks a.field a.s new other a.depth (i + 1) =
    simp (c.pick-x.ensures, c.pick-y.ensures, c.min.ensures) (parts_meet fields trims a.new old a.field r
    ∙ blocks_next a.field a.s new other a.depth i) in
    record { few = c.meet_parts-joined.ensures.few; stands = rw (sym as_rule) met }
