-- Some rows of a table, all of which passed 6 and 7, are rows that the block join takes. Assumes nothing.
use Rattle.std.specs.Prelude.{◌≡◌, List, ◌+◌, ◌*◌, ◌-◌, ◌<◌, ℤ}
use Rattle.std.proofs.Common.{sym, ap, subst, ◌∙◌, arith}
use Rattle.rules.specs.Tables.{Table, width, HasRows, table, part}
use Rattle.rules.specs.Widths.{part_length_lem, part_count}
use Rattle.session_laws.specs.Tables.{row_part, range_part}
use Rattle.session_laws.specs.ReadOut.{scores_fall}
use Rattle.block.specs.Block.{RowsPassed}
use Rattle.block_pair.specs.declared.Span.{Span}
use Rattle.block_pair.specs.Spans.{SpanFits}

-- whole rows that passed 6 and 7, within a table's 65,535
part_rows : (t : Table) (x : Span) → SpanFits x t → RowsPassed x.from (part t x.from (x.to - x.from))
part_rows t x fits =
    let a = x.from in
    let n = x.to - a in
    let end : a + n ≡ x.to = omega (arith, fits.some) in
    let there : HasRows t (a + n) = subst (HasRows t) (sym end) fits.within in
    let count = part_count t a n there in
    record {
      whole = ap (◌*◌ (width t.coordinates)) count ∙ sym (part_length_lem t a n there);
      few = omega (arith, count, fits.few);
      range =
          λ i h.
          let k : i < n = omega (arith, count, h) in
          range_part t a n i k ∙ (fits.fit (a + i) (omega (arith, k))).range;
      falls =
          λ i j h k.
          let l : j < n = omega (arith, count, k) in
          rw (row_part t a n j l, row_part t a n i (omega (arith, h, l)))
          (scores_fall t x.to fits.fit (a + i) (a + j) (omega (arith, h)) (omega (arith, l)));
    }

-- the same of a slice that is this part
pub lent_rows : (t : Table) (x : Span) (l : List ℤ) → l ≡ (part t x.from (x.to - x.from)).numbers → SpanFits x t
    → RowsPassed x.from (table t.coordinates l)
lent_rows t x l e fits = subst (λ m. RowsPassed x.from (table t.coordinates m)) (sym e) (part_rows t x fits)
