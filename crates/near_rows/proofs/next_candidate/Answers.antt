-- `next_candidate` meets its contract: no row that was passed lies near. Assumes nothing.
use mathlib.Core.Path.{sym, ap, ◌∙◌}
use native.Mathlib.Omega.{arith}
use Rattle.rules.specs.Tables.{table, row, terms}
use Rattle.rules.specs.Widths.{row_below}
use Rattle.near_rows.specs.Near.{none_more}
use Rattle.near_rows.specs.Candidate.{stand_near, stand_far, stand_near_lem}
use Rattle.near_rows.proofs.next_candidate.Goals as goal

pub returns-then-near_by : goal.returns-then-near_by
returns-then-near_by c =
    let v = c.loop-k in
    let s = c in
    let x = table s.args.n s.args.x.now in
    let y = table s.args.n s.args.y.now in
    record {
      from = v.invariant.0;
      upto = omega (arith, c.loop-k-test.true);
      none_before = v.invariant.2;
      found = λ e h.
          stand_near_lem s.args.q x y s.requires.small_pairs s.args.i v.k (row_below x s.args.i s.requires.has_row.0) e
          s.requires.has_row.1 (s.requires.has_row.2.live v.k h)
          (ap (λ r. stand_near r (row x s.args.i) (row y v.k)) (sym c.wide-wide.ensures.0) ∙ sym c.near_by.ensures
          ∙ c.if-near_by.true);
    }

pub loop-k-preserved : goal.loop-k-preserved
loop-k-preserved c =
    let v = c.loop-k in
    let s = c in
    let x = table s.args.n s.args.x.now in
    let y = table s.args.n s.args.y.now in (
      omega (arith, v.invariant.0),
      omega (arith, c.loop-k-test.true),
      none_more (terms s.args.q) x s.args.i y s.args.j v.k v.invariant.2
          (stand_far s.args.q x y s.requires.small_pairs s.args.i v.k (row_below x s.args.i s.requires.has_row.0)
          (ap (λ r. stand_near r (row x s.args.i) (row y v.k)) (sym c.wide-wide.ensures.0) ∙ sym c.near_by.ensures
          ∙ c.if-near_by.false)),
    )
