-- `check` meets its contract: the header's checks, then the rows'. Assumes nothing.
use Rattle.std.proofs.Common.{refl, ◌∙◌}
use mir.Facts.{to_z-of_z}
use Rattle.file_check.proofs.Order.{head_refuses, head_passes, rows_there}
use Rattle.file_check.proofs.check.Goals as goal
use Rattle.file_check.proofs.check.Goals.{After-kind_coordinates}

pub check_rows-requires : goal.check_rows-requires
check_rows-requires c =
    let told = to_z-of_z c.ranges.kind in
    rows_there c.args.bytes.now c.args.kind c.kind_coordinates.result c.in-Ok.count
    (simp told at c.in-Ok.ensures.number) (simp told at c.kind_coordinates.ensures)
    (c.in-Ok.ensures.row_count c.in-Ok.count refl)

pub returns-in-Ok : goal.returns-in-Ok
returns-in-Ok c =
    let told = to_z-of_z c.ranges.kind in
    c.check_rows.ensures
    ∙ head_passes c.args.bytes.now c.args.kind c.kind_coordinates.result c.in-Ok.count
    (simp told at c.in-Ok.ensures.number) (simp told at c.kind_coordinates.ensures)
    (c.in-Ok.ensures.row_count c.in-Ok.count refl)

pub returns-in-Err : goal.returns-in-Err
returns-in-Err c =
    let told = to_z-of_z c.ranges.kind in
    head_refuses c.args.bytes.now c.args.kind c.in-Err.refusal (simp told at c.in-Err.ensures.number)
