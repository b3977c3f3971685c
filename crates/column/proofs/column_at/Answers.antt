-- `column_at` meets its contract: a column scanned to its end holds what the rules say. Assumes nothing.
use mathlib.Core.Path.{sym, ap, ◌∙◌}
use Prim.Native.Nat.{◌+◌}
use Rattle.column.specs.Column.{column_held}
use Rattle.column.specs.Held.{held_of}
use Rattle.column_scan.specs.Scan.{up_to}
use Rattle.column_scan.proofs.Bytes.{columns_whole, short}
use Rattle.column.proofs.Scans.{scan_holds}
use Rattle.column.proofs.column_at.Goals as goal

pub returns : goal.returns
returns c =
    let s = c.args in
    let l = s.bytes.now in
    c.held.ensures
    ∙ ap held_of c.scan_from.ensures.value
    ∙ scan_holds s.signed (up_to l s.at (s.at + s.width))
    (short l s.at s.width c.requires)
    ∙ sym (ap (column_held s.signed) (columns_whole l s.at s.width))
