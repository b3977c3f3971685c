-- A list brought out best first that is complete has the highest sums. Assumes a rank.
use Rattle.std.specs.Prelude.{◌≡◌, Bool, false, ◌⊎◌, ◌↔◌, ℕ, suc, ◌≤◌, min, length, take}
use Rattle.std.proofs.Math.Path.{sym, ap}
use Rattle.std.proofs.Common.{subst, ◌∙◌, inl, inr, ⊎_elim, arith, take_all, le-leb, le-ltb}
use mathlib.Core.List.{List, [], ◌∷◌, ◌++◌, map, append_assoc, Memᴰ}
use Rattle.std.proofs.Math.Decide.{dec_le}
use Rattle.std.proofs.Math.Dec.{ltb}
use Rattle.std.proofs.Math.ListN.{length-map}
use Rattle.lists.specs.Lists.{at_least, best}
use Rattle.lists.specs.Words.{one, Ordered, Distinct}
use Rattle.lists.specs.Sorts.{ordered_sort, all_of}
use Rattle.lists.specs.Parts.{append_apart}
use Rattle.lists.specs.Members.{member}
use Rattle.lists.specs.Counts.{count_cons, best_ext}
use Rattle.join.specs.Held.{Rank}
use Rattle.join.specs.HeldLaws.{count_inside, count_among}
use Rattle.join.specs.BestFirst.{BestFirst}

module _ {P : Type 0} {ahead : P → P → Bool} {sum : P → ℕ} (rank : Rank ahead sum) (Fits : P → Type 0) where
  -- l has all that fit and pass c
  abbrev HasPassed : ℕ → List P → Type 0
  HasPassed c l = (x : P) → Fits x → c ≤ sum x → Memᴰ x l

  -- of a list brought out best first, all pass c, or all that pass c are in it or were out
  passed_or_all : (c : ℕ) (out l : List P) → BestFirst sum Fits out l
      → HasPassed c (out ++ l) ⊎ (length l ≤ at_least c (map sum l))
  passed_or_all c out [] b = inr (omega arith)
  passed_or_all c out (p ∷ l) b = go (dec_le c (sum p)) (passed_or_all c (out ++ p ∷ []) l b.1)
    where
      go : Dec (c ≤ sum p) → HasPassed c ((out ++ p ∷ []) ++ l) ⊎ (length l ≤ at_least c (map sum l))
          → HasPassed c (out ++ p ∷ l) ⊎ (suc (length l) ≤ at_least c (sum p ∷ map sum l))
      go (yes h) (inl w) = inl (λ x k i. subst (Memᴰ x) (append_assoc out (p ∷ []) l) (w x k i))
      go (yes h) (inr w) = inr (omega (arith, count_cons c (sum p) (map sum l), ap one (le-leb c (sum p) h)))
      go (no h) w =
          inl
          (λ x k i. ⊎_elim (mathlib.Core.List.Memᴰ.append_left (p ∷ l)) (λ new. absurd (omega (arith, b.0 x k new)))
          (member ahead rank.order x out))

  -- its sums fall
  first_falls : (out l : List P) → Distinct (out ++ l) → ((x : P) → Memᴰ x l → Fits x) → BestFirst sum Fits out l
      → Ordered (λ x y. ltb y x) (map sum l)
  first_falls out [] d h b = tt
  first_falls out (p ∷ l) d h b = (
    all_of (λ y. ltb (sum p) y ≡ false) (map sum l) later,
    first_falls (out ++ p ∷ []) l rest (λ x m. h x (mathlib.Core.List.Memᴰ.tail m)) b.1,
  )
    where
      rest : Distinct ((out ++ p ∷ []) ++ l)
      rest = subst Distinct (sym (append_assoc out (p ∷ []) l)) d

      later : (y : ℕ) → Memᴰ y (map sum l) → ltb (sum p) y ≡ false
      later y m =
          let r = mathlib.Core.List.Memᴰ.of_map sum l m in
          let k : Memᴰ r.0 (p ∷ l) = mathlib.Core.List.Memᴰ.tail r.1 in
          le-ltb (sum p) y (omega (arith, r.2, b.0 r.0 (h r.0 k) (λ o. append_apart out (p ∷ l) d r.0 o k)))

  -- complete: k are in it, or all there are
  module _ (k : ℕ) (all l : List P) (d : Distinct all) (e : (x : P) → Fits x ↔ Memᴰ x all) (once : Distinct l)
      (fit : (x : P) → Memᴰ x l → Fits x) (b : BestFirst sum Fits [] l) (room : length l ≤ k)
      (complete : (length l ≡ k) ⊎ ((x : P) → Fits x → Memᴰ x l)) where
    first_counts : (c : ℕ) → min k (at_least c (map sum l)) ≡ min k (at_least c (map sum all))
    first_counts c = ⊎_elim has_passed (λ w. ⊎_elim (λ z. omega (arith, few)) has_all complete) (passed_or_all c [] l b)
      where
        few : at_least c (map sum l) ≤ at_least c (map sum all)
        few = count_inside rank c l all once (λ x m. (e x).0 (fit x m))

        has_passed : HasPassed c l → min k (at_least c (map sum l)) ≡ min k (at_least c (map sum all))
        has_passed w = omega (arith, few, count_among rank c all l d (λ x m i. w x ((e x).1 m) i))

        has_all : ((x : P) → Fits x → Memᴰ x l) → min k (at_least c (map sum l)) ≡ min k (at_least c (map sum all))
        has_all z = omega (arith, few, count_inside rank c all l d (λ x m. z x ((e x).1 m)))

    -- its sums are the k highest of all
    pub best_first_sums : map sum l ≡ best k (map sum all)
    unfolding best
    best_first_sums =
        sym (take_all k (map sum l) (omega (arith, length-map l sum)))
        ∙ ap (take k) (sym (ordered_sort (λ x y. ltb y x) (map sum l) (first_falls [] l once fit b)))
        ∙ best_ext k (map sum l) (map sum all) first_counts
