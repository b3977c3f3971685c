-- `gives_pair` meets its contract: a held pair shows that rows of both tables were read. Assumes nothing.
use mathlib.Core.Path.{refl, ◌∙◌}
use Prim.Native.Nat.{◌<◌}
use native.Mathlib.Omega.{arith}
use borrow.Author.Tests.{lt-ltb}
use Rattle.rules.specs.Session.{lent_table}
use Rattle.rules.specs.Take.{first_held, gives_pair_by}
use Rattle.rules.proofs.Places.{pairs_long}
use Rattle.ceiling.specs.Bare.{secured_bare}
use Rattle.securing.specs.Last.{held_then_read}
use Rattle.take_answers.proofs.gives_pair.Goals as goal

pub returns-then-s-eq0 : goal.returns-then-s-eq0
unfolding gives_pair_by
returns-then-s-eq0 c = simp c.if-s-eq0.true refl

pub is_secured-requires : goal.is_secured-requires
is_secured-requires c =
    let a = c.args in
    held_then_read (lent_table a.s a.f.now) (lent_table a.s a.t.now) a.s c.requires
    (omega (arith, pairs_long a.s _ c.well_formed.1.1.0))
    (omega (arith, c.if-s-eq0.false))

pub returns : goal.returns
unfolding gives_pair_by
returns c =
    let a = c.args in
    let s = a.s in
    let one : 0 < s.held = omega (arith, c.if-s-eq0.false) in
    let bare = secured_bare (lent_table s a.f.now) (lent_table s a.t.now) s (first_held s) in
    simp (lt-ltb 0 s.held one) (c.is_secured.ensures ∙ bare)
