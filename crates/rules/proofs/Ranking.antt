-- The rank of pairs is a strict total order: higher sum, then lower field row, then lower trim row. Assumes nothing.
use Rattle.std.specs.Prelude.{◌≡◌, refl, Bool, true, false, ◌⊎◌, ℕ, ◌<◌, T, eqb, ltb}
use Rattle.std.proofs.Common.{sym, subst, ◌∙◌, ⊎_elim, inl, inr, arith, eqb-true, ltb-true, lt-ltb, eq-eqb}
use Rattle.lists.specs.Bools.{and_out, or_out, or_in_right}
use Rattle.lists.specs.Words.{Strict}
use Rattle.rules.specs.declared.Pair.{Pair}
use Rattle.rules.specs.Tables.{ahead}

-- what the test says
unfoldable pub Before : Pair → Pair → Type 0
Before p q =
    (q.sum < p.sum)
    ⊎ ((p.sum ≡ q.sum) × ((p.field < q.field) ⊎ ((p.field ≡ q.field) × (p.trim < q.trim))))

pub ahead_before : (p q : Pair) → ahead p q ≡ true → Before p q
unfolding ahead Before
ahead_before p q h =
    ⊎_elim (λ a. inl (ltb-true _ _ a))
    (λ b.
    let s = and_out (eqb p.sum q.sum) _ b in
    inr (
      eqb-true _ _ s.0,
      ⊎_elim (λ a. inl (ltb-true _ _ a))
          (λ e. let g = and_out (eqb p.field q.field) _ e in inr (eqb-true _ _ g.0, ltb-true _ _ g.1))
          (or_out (ltb p.field q.field) _ s.1),
    ))
    (or_out (ltb q.sum p.sum) _ h)

pub before_ahead : (p q : Pair) → Before p q → ahead p q ≡ true
unfolding ahead Before
before_ahead p q w =
    ⊎_elim (λ a. rw (lt-ltb q.sum p.sum a))
    (λ s.
    or_in_right (ltb q.sum p.sum) _
    (rw (eq-eqb p.sum q.sum s.0)
    (⊎_elim (λ a. rw (lt-ltb p.field q.field a))
    (λ g. or_in_right (ltb p.field q.field) _
    (rw (eq-eqb p.field q.field g.0) (lt-ltb p.trim q.trim g.1)))
    s.1)))
    w

not_both : (p q : Pair) → Before p q → Before q p → ⊥
unfolding Before
not_both p q v w =
    ⊎_elim (λ a. ⊎_elim (λ b. omega arith) (λ b. omega arith) w)
    (λ a.
    ⊎_elim (λ b. omega arith)
    (λ b.
    ⊎_elim (λ x. ⊎_elim (λ y. omega arith) (λ y. omega arith) b.1)
    (λ x. ⊎_elim (λ y. omega arith) (λ y. omega arith) b.1) a.1)
    w)
    v

pub ahead_asym : (p q : Pair) → ahead p q ≡ true → ahead q p ≡ false
ahead_asym p q h = go (ahead q p) refl
  where
    go : (t : Bool) → ahead q p ≡ t → ahead q p ≡ false
    go true e = absurd (not_both p q (ahead_before p q h) (ahead_before q p e))
    go false e = e

before_trans : (p q r : Pair) → Before p q → Before q r → Before p r
unfolding Before
before_trans p q r v w =
    ⊎_elim (λ a. ⊎_elim (λ b. inl (omega arith)) (λ b. inl (omega arith)) w)
    (λ a.
    ⊎_elim (λ b. inl (omega arith))
    (λ b.
    inr (
      omega arith,
      ⊎_elim (λ x. ⊎_elim (λ y. inl (omega arith)) (λ y. inl (omega arith)) b.1)
          (λ x. ⊎_elim (λ y. inl (omega arith)) (λ y. inr (omega arith, omega arith)) b.1)
          a.1,
    ))
    w)
    v

pub ahead_trans : (p q r : Pair) → ahead p q ≡ true → ahead q r ≡ true → ahead p r ≡ true
ahead_trans p q r h k = before_ahead p r (before_trans p q r (ahead_before p q h) (ahead_before q r k))

neither : (a b : ℕ) → (a < b → ⊥) → (b < a → ⊥) → a ≡ b
neither a b h k = omega arith

refuted : (p q : Pair) → ahead p q ≡ false → Before p q → ⊥
refuted p q h w = absurd (subst T (sym (before_ahead p q w) ∙ h) tt)

pub ahead_tri : (p q : Pair) → ahead p q ≡ false → ahead q p ≡ false → p ≡ q
unfolding Before
ahead_tri p q h k =
    let s : p.sum ≡ q.sum = neither p.sum q.sum (λ l. refuted q p k (inl l)) (λ l. refuted p q h (inl l)) in
    let g : p.field ≡ q.field =
    neither p.field q.field (λ l. refuted p q h (inr (s, inl l))) (λ l. refuted q p k (inr (sym s, inl l))) in
    let t : p.trim ≡ q.trim =
    neither p.trim q.trim (λ l. refuted p q h (inr (s, inr (g, l))))
    (λ l. refuted q p k (inr (sym s, inr (sym g, l)))) in
    λ i. record { sum = s i; field = g i; trim = t i }

pub ahead_strict : Strict ahead
ahead_strict = record { trans = ahead_trans; asym = ahead_asym; tri = ahead_tri }
