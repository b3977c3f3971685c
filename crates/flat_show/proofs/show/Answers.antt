-- `show` meets its contract. Assumes nothing.
use mathlib.Core.Path.{ap, ◌∙◌}
use mir.Syntax.{w32}
use mir.Facts.{to_z-of_z}
use Rattle.rules.specs.declared.Session.{Session}
use Rattle.rules.specs.Session.{lent_table}
use Rattle.record_layout.specs.Flat.{pair_size, flat_size, laid_at}
use Rattle.flat_calls.specs.Calls.{shown_numbers, show_said, show_number, show_writes}
use Rattle.flat_calls.specs.Lengths.{left_long, right_long}
use borrow.Author.Rules.{sfits_of}
use Rattle.flat_show.proofs.show.Goals as goal

pub returns-then-lent-place : goal.returns-then-lent-place
unfolding show_number show_writes show_said
returns-then-lent-place c =
    let short = c.if-lent-place.true in
    record {
      value = simp short (to_z-of_z {w = w32} {z = c.short.result} (sfits_of c.short.type_inv) ∙ c.short.ensures);
      place_after = simp short;
    }

pub unpack-s-requires : goal.unpack-s-requires
unpack-s-requires c =
    let s = c.args in
    left_long flat_size pair_size s.lent.now s.place.now c.if-lent-place.false

pub put_shown-requires : goal.put_shown-requires
put_shown-requires c =
    let at = c in
    let s = at.args in
    right_long flat_size pair_size s.lent.now s.place.now at.if-lent-place.false

pub returns : goal.returns
unfolding show_number show_writes show_said
returns c =
    let at = c in
    let s = at.args in
    let f = s.f.now in
    let t = s.t.now in
    let long = at.if-lent-place.false in record {
      value = simp long;
      place_after = simp long
          (c.put_shown.ensures
          ∙ ap (λ (r : Session). laid_at 0 (shown_numbers (lent_table r f) (lent_table r t) r) s.place.now)
          c.unpack-s.ensures);
    }
