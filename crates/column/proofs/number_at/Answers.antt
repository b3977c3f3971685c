-- `number_at` meets its contract. Assumes nothing.
use mathlib.Core.Path.{◌≡◌, sym, ap, ◌∙◌}
use mathlib.Core.Bool.{true}
use Prim.Native.Nat.{◌+◌}
use mir.Syntax.{w32}
use mir.Facts.{to_z-of_z}
use Rattle.rules.specs.File.{columns, column_fits, column_number}
use Rattle.column_scan.specs.Scan.{up_to}
use Rattle.column.specs.Held.{signed_worth}
use Rattle.column_scan.proofs.Bytes.{columns_whole, short}
use Rattle.column.proofs.Scans.{scan_number}
use borrow.Author.Rules.{sfits_of}
use Rattle.column.proofs.number_at.Goals as goal

pub returns : goal.returns
returns c =
    let at = c in
    let s = at.args in
    let l = s.bytes.now in
    let same : columns l s.at s.width ≡ up_to l s.at (s.at + s.width) = columns_whole l s.at s.width in
    let fits : column_fits s.signed (up_to l s.at (s.at + s.width)) ≡ true =
    sym (ap (column_fits s.signed) same) ∙ at.requires.width_value in
    to_z-of_z {w = w32} {z = c.signed_worth.result} (sfits_of c.signed_worth.type_inv)
    ∙ c.signed_worth.ensures
    ∙ ap signed_worth c.scan_from.ensures.value
    ∙ scan_number s.signed (up_to l s.at (s.at + s.width)) (short l s.at s.width at.requires.width_bound) fits
    ∙ sym (ap (column_number s.signed) same)
