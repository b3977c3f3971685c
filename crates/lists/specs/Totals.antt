-- Laws of totals: what they split into, when they agree, when part of a list gives them whole. Assumes nothing.
use Rattle.std.specs.Prelude.{◌≡◌, length, take, get_or}
use Rattle.std.proofs.Math.Path.{refl, ap}
use Rattle.std.proofs.Common.{sym, ◌∙◌}
use mathlib.Core.List.{List, [], ◌∷◌, ◌++◌}
use Prim.Native.Nat.{ℕ, zero, suc, ◌+◌, ◌≤◌, ◌<◌}
use native.Mathlib.Omega.{arith}
use Rattle.lists.specs.Words.{total}

module _ {A : Type 0} where
  pub total_append : (f : A → ℕ) (l m : List A) → total f (l ++ m) ≡ total f l + total f m
  unfolding total
  total_append f [] m = omega arith
  total_append f (x ∷ l) m = let h = total_append f l m in omega arith

  -- the two totals added
  pub total_add : (f g : A → ℕ) (l : List A) → total (λ x. f x + g x) l ≡ total f l + total g l
  unfolding total
  total_add f g [] = refl
  total_add f g (x ∷ l) = let h = total_add f g l in omega arith

  pub total_none : (l : List A) → total (λ x. 0) l ≡ 0
  unfolding total
  total_none [] = refl
  total_none (x ∷ l) = let h = total_none l in omega arith

  -- term by term
  pub total_le : (f g : A → ℕ) (l : List A) → ((x : A) → f x ≤ g x) → total f l ≤ total g l
  unfolding total
  total_le f g [] h = omega arith
  total_le f g (x ∷ l) h =
      let a = total_le f g l h in
      let b = h x in
      omega arith

  -- where the terms from place p on are 0, the first p give the total
  pub total_take : (d : A) (f : A → ℕ) (p : ℕ) (l : List A) → ((i : ℕ) → p ≤ i → i < length l → f (get_or l i d) ≡ 0)
      → total f l ≡ total f (take p l)
  unfolding total
  total_take d f zero [] h = refl
  total_take d f (suc p) [] h = refl
  total_take d f zero (x ∷ l) h =
      let a : total f l ≡ 0 = total_take d f zero l (λ i j k. h (suc i) (omega arith) (omega arith)) in
      let b : f x ≡ 0 = h 0 (omega arith) (omega arith) in
      omega arith
  total_take d f (suc p) (x ∷ l) h =
      ap (λ n. f x + n) (total_take d f p l (λ i j k. h (suc i) (omega arith) (omega arith)))

  -- more terms, no smaller total
  pub total_grows : (f : A → ℕ) (p q : ℕ) (l : List A) → p ≤ q → total f (take p l) ≤ total f (take q l)
  unfolding total
  total_grows f zero q l h = omega arith
  total_grows f (suc p) (suc q) [] h = omega arith
  total_grows f (suc p) (suc q) (x ∷ l) h = let a = total_grows f p q l (omega arith) in omega arith
  total_grows f (suc p) zero l h = absurd (omega arith)

  pub total_part : (f : A → ℕ) (p : ℕ) (l : List A) → total f (take p l) ≤ total f l
  unfolding total
  total_part f zero l = omega arith
  total_part f (suc p) [] = omega arith
  total_part f (suc p) (x ∷ l) = let a = total_part f p l in omega arith

-- rows first or columns first
pub total_swap : {A B : Type 0} (f : A → B → ℕ) (l : List A) (m : List B)
    → total (λ x. total (f x) m) l ≡ total (λ y. total (λ x. f x y) l) m
unfolding total
total_swap f [] m = sym (total_none m)
total_swap f (x ∷ l) m =
    ap (λ n. total (f x) m + n) (total_swap f l m) ∙ sym (total_add (f x) (λ y. total (λ x. f x y) l) m)
