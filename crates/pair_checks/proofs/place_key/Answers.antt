-- By the ways out.
use Rattle.std.proofs.Common.{refl, sym, ◌∙◌, arith}
use borrow.Author.Tests.{le-leb, lt-leb, lt-ltb, le-ltb}
use Rattle.pair_checks.specs.Grounds.{place_key}
use Rattle.pair_checks.proofs.Keys.{within_narrow}
use Rattle.pair_checks.proofs.place_key.Goals as goal

pub returns-then-eq : goal.returns-then-eq
unfolding place_key
returns-then-eq c = simp (le-leb _ _ c.if-n-i.true, ← c.eq.ensures, c.if-eq.true) refl

pub returns-else-eq : goal.returns-else-eq
unfolding place_key
returns-else-eq c = simp (le-leb _ _ c.if-n-i.true, ← c.eq.ensures, c.if-eq.false) refl

pub returns-then-not-pair_fits : goal.returns-then-not-pair_fits
unfolding place_key
returns-then-not-pair_fits c =
    simp (lt-leb _ _ c.if-n-i.false, ← c.pair_fits.ensures, c.if-not-pair_fits.true) refl

pub key-key-requires : goal.key-key-requires
key-key-requires c = (within_narrow _ _ c.requires (sym c.pair_fits.ensures ∙ c.if-not-pair_fits.false)).0

pub returns-then-key-before : goal.returns-then-key-before
unfolding place_key
returns-then-key-before c =
    simp (
      lt-leb _ _ c.if-n-i.false,
      ← c.pair_fits.ensures,
      c.if-not-pair_fits.false,
      ← c.key-key.ensures,
      le-ltb c.args.before c.key-key.result (omega (arith, c.if-key-before.true)),
    )
    refl

pub returns : goal.returns
unfolding place_key
returns c =
    simp (
      lt-leb _ _ c.if-n-i.false,
      ← c.pair_fits.ensures,
      c.if-not-pair_fits.false,
      ← c.key-key.ensures,
      lt-ltb c.args.before c.key-key.result (omega (arith, c.if-key-before.false)),
    )
    refl
