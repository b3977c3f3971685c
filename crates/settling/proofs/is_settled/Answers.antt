-- Of ranked pairs the last decides.
use Rattle.std.proofs.Common.{◌∙◌, arith, ◌<◌, ◌≤◌, length}
use Rattle.rules.specs.Session.{lent_table, settled_by}
use Rattle.rules.proofs.Places.{pairs_long}
use Rattle.ceiling.specs.Bare.{secured_bare}
use Rattle.securing.specs.Last.{held_then_read, held_secured}
use Rattle.settling.proofs.is_settled.Goals as goal

pub is_secured-requires : goal.is_secured-requires
is_secured-requires c =
    let a = c.args in
    held_then_read (lent_table a.s a.f.now) (lent_table a.s a.t.now) a.s c.requires.0
    (omega (arith, pairs_long a.s _ c.well_formed.1.1.0))
    (omega (arith, c.if-s-2.false, c.if-s.false))

pub returns : goal.returns
unfolding settled_by
returns c =
    let a = c.args in
    let l = c.requires.0.lent.fits in
    let some : 0 < a.s.held = omega (arith, c.if-s-2.false, c.if-s.false) in
    let fit : a.s.held ≤ length a.s.pairs = omega (arith, pairs_long a.s _ c.well_formed.1.1.0, l.room, l.query.k.1) in
    let bare = secured_bare (lent_table a.s a.f.now) (lent_table a.s a.t.now) a.s a.last in
    let last = held_secured (lent_table a.s a.f.now) (lent_table a.s a.t.now) a.s l fit some in
    let secured = c.is_secured.ensures ∙ bare in
    let held = c.requires.1 some in
    grind (arith, secured, last, held)
