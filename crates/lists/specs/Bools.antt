-- Laws of Booleans: tests that pass, fail, and stand together. A law that ends in -out says what follows from a test
-- made of others, one that ends in -in what makes it pass. Assumes nothing.
use Rattle.std.specs.Prelude.{◌≡◌, refl, Bool, true, false, cond, ◌&&◌, ◌||◌, List, [], ◌∷◌, ◌⊎◌, ℕ, zero, suc, T}
use Rattle.std.specs.Prelude.{get_or}
use Rattle.std.proofs.Common.{sym, subst, ◌∙◌, true≢false, inl, inr}
use Rattle.lists.specs.Lists.{all}

-- a test does not both pass and fail
pub clash {ℓ} : {C : Type ℓ} {b : Bool} → b ≡ true → b ≡ false → C
clash e f = absurd (true≢false (sym e ∙ f))

-- it fails if it cannot pass
pub fails : (b : Bool) → (b ≡ true → ⊥) → b ≡ false
fails true h = absurd (h refl)
fails false h = refl

pub of_true : {b : Bool} → b ≡ true → T b
of_true e = subst T (sym e) tt

-- a choice between equals
pub cond_same : {A : Type 0} (b : Bool) (x : A) → cond b x x ≡ x
cond_same true x = refl
cond_same false x = refl

-- ---- And

pub and_out : (a b : Bool) → a && b ≡ true → (a ≡ true) × (b ≡ true)
and_out true b e = (refl, e)
and_out false b e = clash e refl

pub and_left : (a b : Bool) → a && b ≡ true → a ≡ true
and_left a b e = (and_out a b e).0

pub and_right : (a b : Bool) → a && b ≡ true → b ≡ true
and_right a b e = (and_out a b e).1

pub and_in : (a b : Bool) → a ≡ true → b ≡ true → a && b ≡ true
and_in a b h k = rw (h, k)

pub and_none_out : (a b : Bool) → a && b ≡ false → (a ≡ false) ⊎ (b ≡ false)
and_none_out true b h = inr h
and_none_out false b h = inl refl

pub and_true : (a : Bool) → a && true ≡ a
and_true true = refl
and_true false = refl

pub and_false : (a : Bool) → a && false ≡ false
and_false true = refl
and_false false = refl

-- ---- Or

pub or_out : (a b : Bool) → a || b ≡ true → (a ≡ true) ⊎ (b ≡ true)
or_out true b e = inl refl
or_out false b e = inr e

pub or_in_left : (a b : Bool) → a ≡ true → a || b ≡ true
or_in_left true b h = refl
or_in_left false b h = clash h refl

pub or_in_right : (a b : Bool) → b ≡ true → a || b ≡ true
or_in_right true b h = refl
or_in_right false b h = h

pub or_none_out : (a b : Bool) → a || b ≡ false → (a ≡ false) × (b ≡ false)
or_none_out true b e = clash refl e
or_none_out false b e = (refl, e)

pub or_true : (a : Bool) → a || true ≡ true
or_true true = refl
or_true false = refl

pub or_false : (a : Bool) → a || false ≡ a
or_false true = refl
or_false false = refl

-- ---- All tests of a list

-- test i of those that all pass
pub all_out : (l : List Bool) → all l ≡ true → (i : ℕ) → get_or l i true ≡ true
all_out [] e i = refl
all_out (a ∷ []) e zero = e
all_out (a ∷ []) e (suc i) = refl
all_out (a ∷ b ∷ l) e zero = and_left a (all (b ∷ l)) e
all_out (a ∷ b ∷ l) e (suc i) = all_out (b ∷ l) (and_right a (all (b ∷ l)) e) i
