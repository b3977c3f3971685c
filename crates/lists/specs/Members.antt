-- Which elements a ranked list has, which its front leaves out, and how many distinct ones there can be. Assumes a
-- strict order where it says so.
use Rattle.std.specs.Prelude.{◌≡◌, Bool, cond, ◌⊎◌, ◌↔◌, ℕ, zero, suc, ◌≤◌, length, take}
use Rattle.std.proofs.Math.Path.{refl}
use Rattle.std.proofs.Common.{sym, ap, ◌∙◌, inl, inr, arith}
use Rattle.std.proofs.Math.Bool.{true, false}
use mathlib.Core.List.{List, [], ◌∷◌, Memᴰ}
use Rattle.std.proofs.Math.Logic.{⊎_elim}
use Rattle.lists.specs.Lists.{ins, sort, ranked}
use Rattle.lists.specs.Bools.{clash, and_out}
use Rattle.lists.specs.Words.{All, Strict, Ordered, Distinct}
use Rattle.lists.specs.Sorts.{all_at, all_map, sort_ordered, take_ordered, ranked_ordered}

module _ {A : Type 0} (ahead : A → A → Bool) where
  mem_ins : (x z : A) (l : List A) → Memᴰ z (ins ahead x l) → Memᴰ z (x ∷ l)
  unfolding ins
  mem_ins x z [] h = h
  mem_ins x z (y ∷ l) h = go (ahead y x) (mem_ins x z l) h
    where
      later : (z ≡ x) ⊎ Memᴰ z l → Memᴰ z (x ∷ y ∷ l)
      later (inl e) = mathlib.Core.List.Memᴰ.head e
      later (inr m) = mathlib.Core.List.Memᴰ.tail (mathlib.Core.List.Memᴰ.tail m)

      go : (t : Bool) → (Memᴰ z (ins ahead x l) → Memᴰ z (x ∷ l))
          → Memᴰ z (cond t (y ∷ ins ahead x l) (x ∷ y ∷ l)) → Memᴰ z (x ∷ y ∷ l)
      go true f h =
          ⊎_elim (λ e. mathlib.Core.List.Memᴰ.tail (mathlib.Core.List.Memᴰ.head e))
          (λ m. later (mathlib.Core.List.Memᴰ.cases_cons (f m)))
          (mathlib.Core.List.Memᴰ.cases_cons h)
      go false f h = h

  mem_put : (x z : A) (l : List A) → Memᴰ z (x ∷ l) → Memᴰ z (ins ahead x l)
  unfolding ins
  mem_put x z [] h = h
  mem_put x z (y ∷ l) h = go (ahead y x) (mem_put x z l)
    where
      go : (t : Bool) → (Memᴰ z (x ∷ l) → Memᴰ z (ins ahead x l))
          → Memᴰ z (cond t (y ∷ ins ahead x l) (x ∷ y ∷ l))
      go true f =
          ⊎_elim (λ e. mathlib.Core.List.Memᴰ.tail (f (mathlib.Core.List.Memᴰ.head e)))
          (λ m. ⊎_elim (λ e. mathlib.Core.List.Memᴰ.head e)
          (λ k. mathlib.Core.List.Memᴰ.tail (f (mathlib.Core.List.Memᴰ.tail k)))
          (mathlib.Core.List.Memᴰ.cases_cons m))
          (mathlib.Core.List.Memᴰ.cases_cons h)
      go false f = h

  -- ranking moves elements, and none comes or goes
  pub mem_sort : (x : A) (l : List A) → Memᴰ x (sort ahead l) ↔ Memᴰ x l
  unfolding sort
  mem_sort x [] = (λ h. h, λ h. h)
  mem_sort x (y ∷ l) = go (mem_sort x l)
    where
      go : Memᴰ x (sort ahead l) ↔ Memᴰ x l → Memᴰ x (ins ahead y (sort ahead l)) ↔ Memᴰ x (y ∷ l)
      go f = (
        λ h.
            ⊎_elim (λ e. mathlib.Core.List.Memᴰ.head e) (λ m. mathlib.Core.List.Memᴰ.tail (f.0 m))
            (mathlib.Core.List.Memᴰ.cases_cons (mem_ins y x (sort ahead l) h)),
        λ h.
            mem_put y x (sort ahead l)
            (⊎_elim (λ e. mathlib.Core.List.Memᴰ.head e) (λ m. mathlib.Core.List.Memᴰ.tail (f.1 m))
            (mathlib.Core.List.Memᴰ.cases_cons h)),
      )

  -- Distinct lists

  ins_distinct : (x : A) (l : List A) → (Memᴰ x l → ⊥) → Distinct l → Distinct (ins ahead x l)
  unfolding ins
  ins_distinct x [] n d = (mathlib.Core.List.Memᴰ.not-nil, tt)
  ins_distinct x (y ∷ l) n d = go (ahead y x) (ins_distinct x l (λ m. n (mathlib.Core.List.Memᴰ.tail m)) d.1)
    where
      go : (t : Bool) → Distinct (ins ahead x l) → Distinct (cond t (y ∷ ins ahead x l) (x ∷ y ∷ l))
      go true r = (
        λ m. ⊎_elim (λ e. n (mathlib.Core.List.Memᴰ.head (sym e))) d.0
            (mathlib.Core.List.Memᴰ.cases_cons (mem_ins x y l m)),
        r,
      )
      go false r = (n, d)

  pub sort_distinct : (l : List A) → Distinct l → Distinct (sort ahead l)
  unfolding sort
  sort_distinct [] d = tt
  sort_distinct (x ∷ l) d = ins_distinct x (sort ahead l) (λ m. d.0 ((mem_sort x l).0 m)) (sort_distinct l d.1)

module _ {A : Type 0} (ahead : A → A → Bool) (order : Strict ahead) where
  -- whether x stands in a list
  pub member : (x : A) (l : List A) → Memᴰ x l ⊎ (Memᴰ x l → ⊥)
  member x [] = inr mathlib.Core.List.Memᴰ.not-nil
  member x (y ∷ l) = go (ahead x y) (ahead y x) refl refl (member x l)
    where
      other : (x ≡ y → ⊥) → Memᴰ x l ⊎ (Memᴰ x l → ⊥) → Memᴰ x (y ∷ l) ⊎ (Memᴰ x (y ∷ l) → ⊥)
      other n (inl m) = inl (mathlib.Core.List.Memᴰ.tail m)
      other n (inr m) = inr (λ k. ⊎_elim n m (mathlib.Core.List.Memᴰ.cases_cons k))

      not_self : (z : A) → ahead z z ≡ true → ⊥
      not_self z e = clash e (order.asym z z e)

      go : (a b : Bool) → ahead x y ≡ a → ahead y x ≡ b → Memᴰ x l ⊎ (Memᴰ x l → ⊥)
          → Memᴰ x (y ∷ l) ⊎ (Memᴰ x (y ∷ l) → ⊥)
      go true b e f r = other (λ g. not_self y (ap (λ z. ahead z y) (sym g) ∙ e)) r
      go false true e f r = other (λ g. not_self x (ap (λ z. ahead z x) g ∙ f)) r
      go false false e f r = inl (mathlib.Core.List.Memᴰ.head (order.tri x y e f))

  -- two that differ and of which the second is not ahead
  apart : (x y : A) → ahead y x ≡ false → (x ≡ y → ⊥) → ahead x y ≡ true
  apart x y e n = go (ahead x y) refl
    where
      go : (t : Bool) → ahead x y ≡ t → ahead x y ≡ true
      go true f = f
      go false f = absurd (n (order.tri x y f e))

  ordered_ranked : (l : List A) → Ordered ahead l → Distinct l → ranked ahead l ≡ true
  unfolding ranked
  ordered_ranked [] o d = refl
  ordered_ranked (x ∷ []) o d = refl
  ordered_ranked (x ∷ y ∷ l) o d =
      rw (apart x y o.0.0 (λ e. d.0 (mathlib.Core.List.Memᴰ.head e))) (ordered_ranked (y ∷ l) o.1 d.1)

  -- a list without repeats gets ranked
  pub sort_ranked : (l : List A) → Distinct l → ranked ahead (sort ahead l) ≡ true
  sort_ranked l d = ordered_ranked (sort ahead l) (sort_ordered ahead order l) (sort_distinct ahead l d)

  -- the first of a ranked list stands ahead of all others
  pub ranked_first : (x : A) (l : List A) → ranked ahead (x ∷ l) ≡ true → All (λ y. ahead x y ≡ true) l
  unfolding ranked
  ranked_first x [] h = tt
  ranked_first x (y ∷ l) h =
      let b = and_out (ahead x y) (ranked ahead (y ∷ l)) h in (
        b.0,
        all_map (λ z. ahead y z ≡ true) (λ z. ahead x z ≡ true) (λ z k. order.trans x y z b.0 k) l
            (ranked_first y l b.1),
      )

  pub ranked_rest : (x : A) (l : List A) → ranked ahead (x ∷ l) ≡ true → ranked ahead l ≡ true
  unfolding ranked
  ranked_rest x [] h = refl
  ranked_rest x (y ∷ l) h = (and_out (ahead x y) (ranked ahead (y ∷ l)) h).1

  pub ranked_distinct : (l : List A) → ranked ahead l ≡ true → Distinct l
  ranked_distinct [] h = tt
  ranked_distinct (x ∷ l) h =
      let self : Memᴰ x l → ahead x x ≡ true = all_at (λ y. ahead x y ≡ true) x (ranked_first x l h) in
      let not_later : Memᴰ x l → ⊥ = λ m. clash (self m) (order.asym x x (self m)) in
      (not_later, ranked_distinct l (ranked_rest x l h))

-- Fronts

module _ {A : Type 0} where
  pub mem_take : (n : ℕ) (x : A) (l : List A) → Memᴰ x (take n l) → Memᴰ x l
  mem_take zero x l m = absurd (mathlib.Core.List.Memᴰ.not-nil m)
  mem_take (suc n) x [] m = m
  mem_take (suc n) x (y ∷ l) m =
      ⊎_elim (λ e. mathlib.Core.List.Memᴰ.head e) (λ k. mathlib.Core.List.Memᴰ.tail (mem_take n x l k))
      (mathlib.Core.List.Memᴰ.cases_cons m)

  pub take_distinct : (n : ℕ) (l : List A) → Distinct l → Distinct (take n l)
  take_distinct zero l d = tt
  take_distinct (suc n) [] d = tt
  take_distinct (suc n) (x ∷ l) d = (λ m. d.0 (mem_take n x l m), take_distinct n l d.1)

module _ {A : Type 0} (ahead : A → A → Bool) (order : Strict ahead) where
  -- the front of a ranked list is ranked
  pub ranked_take : (n : ℕ) (l : List A) → ranked ahead l ≡ true → ranked ahead (take n l) ≡ true
  ranked_take n l h =
      ordered_ranked ahead order (take n l) (take_ordered ahead n l (ranked_ordered ahead order l h))
      (take_distinct n l (ranked_distinct ahead order l h))

-- How many

module _ {A : Type 0} where
  -- m without one x has one element fewer, and all others
  without : (x : A) {m : List A} → Memᴰ x m
      → (m' : List A) × (length m ≡ suc (length m')) × ((y : A) → Memᴰ y m → (y ≡ x) ⊎ Memᴰ y m')
  without x (mathlib.Core.List.Memᴰ.head {xs = l} e) =
      (l, refl, λ y k. ⊎_elim (λ f. inl (f ∙ sym e)) inr (mathlib.Core.List.Memᴰ.cases_cons k))
  without x (mathlib.Core.List.Memᴰ.tail {x = z} k) =
      let r = without x k in (
        z ∷ r.0,
        ap suc r.1,
        λ y j.
            ⊎_elim (λ e. inr (mathlib.Core.List.Memᴰ.head e))
            (λ i. ⊎_elim inl (λ h. inr (mathlib.Core.List.Memᴰ.tail h)) (r.2 y i))
            (mathlib.Core.List.Memᴰ.cases_cons j),
      )

  -- distinct elements of m are at most as many as m has
  pub pigeonhole : (l m : List A) → Distinct l → ((x : A) → Memᴰ x l → Memᴰ x m) → length l ≤ length m
  pigeonhole [] m d h = omega arith
  pigeonhole (x ∷ l) m d h =
      let r = without x (h x (mathlib.Core.List.Memᴰ.head refl)) in
      let later : (y : A) → Memᴰ y l → Memᴰ y r.0 =
      λ y k. ⊎_elim (λ e. absurd (d.0 (mathlib.Core.List.Memᴰ.cast (sym e) k))) (λ j. j)
      (r.2 y (h y (mathlib.Core.List.Memᴰ.tail k))) in
      omega (arith, r.1, pigeonhole l r.0 d.1 later)
