-- `read_block` meets its contract. Assumes nothing.
use Rattle.std.proofs.Common.{ap, ◌∙◌, Bool}
use Rattle.rules.specs.Session.{lent_table}
use Rattle.rules.specs.Read.{read_table}
use Rattle.rules.proofs.Places.{pairs_long}
use Rattle.session_laws.specs.Calls.{new_block_out}
use Rattle.choosing.specs.Due.{due}
use Rattle.next_block.specs.Side.{passed}
use Rattle.next_block.proofs.read_block.Goals as goal

pub read_on-requires : goal.read_on-requires
read_on-requires c =
    let a = c.args in
    let f = lent_table a.s a.f.now in
    let t = lent_table a.s a.t.now in
    let next = c.field_next-field in
    let long = pairs_long a.s _ c.well_formed.1.1.0 in (
      due f t a.s c.requires.0.lent long c.requires.1 next.result next.ensures,
      passed next.result f t a.s c.requires.0 (rw next.ensures (new_block_out f t a.s c.requires.2)),
      c.requires.3,
    )

pub returns : goal.returns
returns c =
    let a = c.args in
    let f = lent_table a.s a.f.now in
    let t = lent_table a.s a.t.now in
    let e = c.read_on.ensures in (
      e.0 ∙ ap (λ (b : Bool). read_table b f t a.s) c.field_next-field.ensures,
      e.1,
    )
