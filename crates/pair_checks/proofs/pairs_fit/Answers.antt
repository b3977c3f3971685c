-- Place after place.
use Rattle.std.proofs.Common.{sym, ◌∙◌, arith}
use Rattle.pair_checks.proofs.Keys.{key_none, key_found}
use Rattle.pair_checks.proofs.Looking.{look_on, look_stops, look_ends}
use Rattle.pair_checks.proofs.pairs_fit.Goals as goal

pub returns-in_default : goal.returns-in_default
returns-in_default c =
    look_stops _ _ _ _ _ c.loop-i.invariant (omega arith)
    (key_none _ _ _ _ _ _ c.requires (λ h. c.loop-i.invariant.behind (omega (arith, h)))
    (sym c.place_key.ensures ∙ c.in_default.is))

pub loop-i-preserved : goal.loop-i-preserved
loop-i-preserved c =
    let found = key_found _ _ _ _ _ _ c.requires (λ h. c.loop-i.invariant.behind (omega (arith, h))) _
    (sym c.place_key.ensures ∙ c.in-Some.is) in
    look_on _ _ _ _ _ c.loop-i.invariant _ (omega arith) found.0 found.1

pub returns : goal.returns
returns c = look_ends _ _ _ _ _ c.loop-i.invariant (omega arith)
