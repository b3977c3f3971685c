-- `join_parts` meets its contract: the parts are the blocks. Assumes nothing.
use mathlib.Core.Path.{sym}
use Rattle.rules.specs.Tables.{table}
use Rattle.block_pair.specs.SpanRows.{lent_rows}
use Rattle.block_pair.proofs.join_parts.Goals as goal

pub join-requires : goal.join-requires
join-requires c =
    let s = c in
    let a = s.args in
    let fits = s.requires.query_fits in
    let fields = c.rows-fields.ensures.result_value.0 in
    let trims = c.rows-trims.ensures.result_value.0 in record {
      held_le_room = s.requires.held_le_room;
      query_fits = (
        fits.0,
        fits.1,
        lent_rows (table a.n a.f.now) a.x _ fields fits.2,
        lent_rows (table a.n a.t.now) a.y _ trims fits.3,
      );
    }

pub returns : goal.returns
returns c =
    rw (sym c.rows-fields.ensures.result_value.0, sym c.rows-trims.ensures.result_value.0)
    c.join.ensures
