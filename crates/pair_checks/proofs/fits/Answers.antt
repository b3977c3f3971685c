-- The numbers, then place after place.
use Rattle.std.proofs.Common.{◌≡◌, sym, ap, ◌∙◌, Bool, true, false, ◌&&◌}
use Rattle.rules.specs.declared.Session.{Session}
use Rattle.rules.specs.Calls.{record_fits}
use Rattle.number_checks.specs.Grounds.{numbers_fit}
use Rattle.pair_checks.specs.Grounds.{pairs_fit}
use Rattle.pair_checks.proofs.Answer.{numbers_shallow, answer}
use Rattle.pair_checks.proofs.fits.Goals as goal

answered : (s : Session) (b : Bool) → b ≡ numbers_fit s.query s.rows s.depth s.last s.out s.held s.joined
    → record_fits s ≡ b && pairs_fit s.pairs s.held s.depth
answered s b e = answer s ∙ ap (λ (x : Bool). x && pairs_fit s.pairs s.held s.depth) (sym e)

pub pairs_fit-requires : goal.pairs_fit-requires
pairs_fit-requires c = numbers_shallow c.args.s.now (sym c.numbers_fit.ensures ∙ c.if-numbers_fit.true)

pub returns-then-numbers_fit : goal.returns-then-numbers_fit
returns-then-numbers_fit c =
    c.pairs_fit.ensures ∙ sym (answered c.args.s.now true (sym c.if-numbers_fit.true ∙ c.numbers_fit.ensures))

pub returns-else-numbers_fit : goal.returns-else-numbers_fit
returns-else-numbers_fit c =
    c.if-numbers_fit.false ∙ sym (answered c.args.s.now false (sym c.if-numbers_fit.false ∙ c.numbers_fit.ensures))
