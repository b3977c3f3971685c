-- `effect_parts` meets its contract: the parts are the blocks. Assumes nothing.
use mathlib.Core.Path.{subst₂}
use mathlib.Core.List.{List}
use lib.IntN.{ℤ}
use native.Mathlib.Omega.{arith}
use Rattle.rules.specs.Tables.{table}
use Rattle.rules.specs.Widths.{has_row}
use Rattle.block.specs.Small.{rows_small}
use Rattle.block_pair.specs.SpanRows.{lent_rows}
use Rattle.skipping.specs.Effect.{Effect}
use Rattle.block_pair.proofs.effect_parts.Goals as goal

pub effect-requires : goal.effect-requires
effect-requires c =
    let s = c in
    let a = s.args in
    let n = a.n in
    let fields = table n c.rows-fields.result.now in
    let trims = table n c.rows-trims.result.now in
    let first = lent_rows (table n a.f.now) a.x _ c.rows-fields.ensures.result_value.0 s.requires.query_fits.2 in
    let second = lent_rows (table n a.t.now) a.y _ c.rows-trims.ensures.result_value.0 s.requires.query_fits.3
    in record {
      has_row = (
        has_row fields 0 (omega (arith, c.rows-fields.ensures.result_value.1, s.requires.query_fits.2.some)),
        has_row trims 0 (omega (arith, c.rows-trims.ensures.result_value.1, s.requires.query_fits.3.some)),
      );
      small_pairs = rows_small a.q a.x.from a.y.from fields trims s.requires.query_fits.1 s.requires.query_fits.0 first
          second;
      sides_value = rw (c.rows-fields.ensures.result_value.0, c.rows-trims.ensures.result_value.0)
          s.requires.sides_value;
    }

pub returns : goal.returns
returns c =
    let s = c.args in
    subst₂ (λ (x y : List ℤ). Effect s.full s.low s.q (table s.n x) (table s.n y) c.effect.result)
    c.rows-fields.ensures.result_value.0 c.rows-trims.ensures.result_value.0 c.effect.ensures
