-- `rows_of` meets its contract. Assumes nothing.
use mathlib.Core.Path.{ap, sym, subst, ◌∙◌}
use Rattle.rules.specs.Tables.{table, HasRows, first_rows}
use Rattle.program.proofs.rows_of.Goals as goal

pub first_rows-requires : goal.first_rows-requires
first_rows-requires c =
    let s = c in
    subst (λ n. HasRows (table n s.args.t.now) s.args.m) (sym c.kind_coordinates.ensures) s.requires

pub returns : goal.returns
returns c =
    let s = c.args in
    c.first_rows.ensures
    ∙ ap (λ n. (first_rows s.m (table n s.t.now)).numbers) c.kind_coordinates.ensures
