-- keep, each, every and range of lists put together. Assumes nothing.
use Rattle.std.specs.Prelude.{◌≡◌, Bool, ◌&&◌, ℕ, zero, suc, ◌+◌}
use Rattle.std.proofs.Math.Path.{refl, sym, ap}
use Rattle.std.proofs.Common.{◌∙◌, arith}
use Rattle.std.proofs.Math.Bool.{true, false, and_assoc, and-true}
use mathlib.Core.List.{List, [], ◌∷◌, ◌++◌, append_assoc}
use Rattle.lists.specs.Lists.{cons_if, keep, every, each, range}

module _ {A : Type 0} where
  cons_if_append : (b : Bool) (x : A) (l m : List A) → cons_if b x l ++ m ≡ cons_if b x (l ++ m)
  unfolding cons_if
  cons_if_append true x l m = refl
  cons_if_append false x l m = refl

  pub keep_append : (test : A → Bool) (l m : List A) → keep test (l ++ m) ≡ keep test l ++ keep test m
  unfolding keep
  keep_append test [] m = refl
  keep_append test (x ∷ l) m =
      ap (cons_if (test x) x) (keep_append test l m) ∙ sym (cons_if_append (test x) x (keep test l) (keep test m))

  pub each_append : {B : Type 0} (f : A → List B) (l m : List A) → each f (l ++ m) ≡ each f l ++ each f m
  unfolding each
  each_append f [] m = refl
  each_append f (x ∷ l) m = ap (λ r. f x ++ r) (each_append f l m) ∙ sym (append_assoc (f x) (each f l) (each f m))

  pub every_append : (test : A → Bool) (l m : List A) → every test (l ++ m) ≡ every test l && every test m
  unfolding every
  every_append test [] m = refl
  every_append test (x ∷ l) m =
      ap (λ b. test x && b) (every_append test l m) ∙ sym (and_assoc (test x) (every test l) (every test m))

-- the last number of a range
pub range_end : (a n : ℕ) → range a (suc n) ≡ range a n ++ (a + n) ∷ []
unfolding range
range_end a zero = let e : a ≡ a + 0 = omega arith in ap (λ (b : ℕ). b ∷ []) e
range_end a (suc n) =
    let e : suc a + n ≡ a + suc n = omega arith in
    ap (λ (r : List ℕ). a ∷ r) (range_end (suc a) n ∙ ap (λ (b : ℕ). range (suc a) n ++ b ∷ []) e)

-- one number more
pub every_more : (test : ℕ → Bool) (n : ℕ) → every test (range 0 (suc n)) ≡ every test (range 0 n) && test n
unfolding every
every_more test n =
    let e : 0 + n ≡ n = omega arith in
    ap (every test) (range_end 0 n ∙ ap (λ (m : ℕ). range 0 n ++ m ∷ []) e)
    ∙ every_append test (range 0 n) (n ∷ [])
    ∙ ap (λ b. every test (range 0 n) && b) (and-true (test n))
