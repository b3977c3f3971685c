-- A place that fits, by its key. Assumes nothing.
use mathlib.Core.Path.{◌≡◌, sym, ap, ◌∙◌}
use mathlib.Core.Bool.{Bool, true, false, cond, ◌&&◌, ◌||◌}
use mathlib.Core.Logic.{◌⊎◌, ⊎_elim}
use Prim.Native.Nat.{ℕ, ◌≤◌, ◌<◌}
use native.Mathlib.Omega.{arith}
use lib.Dec.{eqb, leb, ltb}
use borrow.Author.Tests.{leb-true, leb-false, le-leb, lt-leb, lt-ltb, eq-eqb, ne_eqb}
use Rattle.rules.specs.declared.Counts.{Counts}
use Rattle.rules.specs.declared.Pair.{Pair}
use Rattle.rules.specs.Tables.{ahead}
use Rattle.rules.specs.Calls.{between, most_sum, is_zeros}
use Rattle.lists.specs.Bools.{and_left, and_right}
use Rattle.std.specs.Prelude.{Some, None, refl}
use Rattle.keys.specs.Held.{key_of, Narrow}
use Rattle.keys.specs.Keys.{key_order}
use Rattle.pair_checks.specs.Grounds.{pair_within, place_fits, Shallow, place_key}

-- `before` is the key before place i, where b stands: 0 before the first
abbrev pub Behind : ℕ → ℕ → Pair → Type 0
Behind i before b = ((i ≡ 0) × (before ≡ 0)) ⊎ ((0 < i) × (before ≡ key_of b) × Narrow b)

module _ (depth : Counts) (p : Pair) where
  -- a pair that fits has a key, and it is not 0
  pub within_narrow : Shallow depth → pair_within depth p ≡ true → Narrow p × (p.sum ≤ most_sum)
  unfolding pair_within
  within_narrow d w =
      let x = between 1 depth.field.0 p.field in
      let y = between 1 depth.trim.0 p.trim in
      let rest = and_right x _ w in
      let f = leb-true p.field depth.field.0 (and_right (leb 1 p.field) _ (and_left x _ w)) in
      let t = leb-true p.trim depth.trim.0 (and_right (leb 1 p.trim) _ (and_left y _ rest)) in
      let s = leb-true p.sum most_sum (and_right y _ rest) in
      (record { sum = omega arith; field = omega (arith, d.field); trim = omega (arith, d.trim) }, s)

  key_some : p.sum ≤ most_sum → 0 < key_of p
  unfolding key_of
  key_some h = omega arith

  module _ (i n : ℕ) (b : Pair) where
    -- a place beyond those held fits where it has none
    pub free_place : n ≤ i → place_fits i n depth b p ≡ is_zeros p
    unfolding place_fits
    free_place h =
        ap (λ (t : Bool). cond t (is_zeros p) (pair_within depth p && (eqb i 0 || ahead b p))) (le-leb n i h)

    held_place : i < n → (w : Bool) → pair_within depth p ≡ w
        → place_fits i n depth b p ≡ w && (eqb i 0 || ahead b p)
    unfolding place_fits
    held_place h w e =
        ap (λ (t : Bool). cond t (is_zeros p) (pair_within depth p && (eqb i 0 || ahead b p))) (lt-leb n i h)
        ∙ ap (λ (t : Bool). t && (eqb i 0 || ahead b p)) e

    pub place_unfit : i < n → pair_within depth p ≡ false → place_fits i n depth b p ≡ false
    place_unfit h w = held_place h false w

    -- a pair that fits has a place behind the one before it, if its key is the higher one
    pub place_ranked : (before : ℕ) → i < n → Shallow depth → pair_within depth p ≡ true → Behind i before b
        → place_fits i n depth b p ≡ ltb before (key_of p)
    place_ranked before h d w behind =
        let k = within_narrow d w in
        held_place h true w
        ∙ sym
        (⊎_elim
        (λ e. lt-ltb before (key_of p) (omega (arith, e.1, key_some k.1)) ∙ sym
        (ap (λ (t : Bool). t || ahead b p) (eq-eqb i 0 e.0)))
        (λ e.
        ap (λ (k : ℕ). ltb k (key_of p)) e.1
        ∙ key_order b p e.2 k.0
        ∙ sym (ap (λ (t : Bool). t || ahead b p) (ne_eqb i 0 (omega (arith, e.0)))))
        behind)

    module _ (before : ℕ) (d : Shallow depth) (behind : i < n → Behind i before b) where
      -- a place that has no key does not fit
      pub key_none : place_key i n depth before p ≡ None → place_fits i n depth b p ≡ false
      unfolding place_key
      key_none e = go (leb n i) refl (is_zeros p) refl (pair_within depth p) refl (ltb before (key_of p)) refl e
        where
          go : (t : Bool) → leb n i ≡ t → (z : Bool) → is_zeros p ≡ z → (w : Bool) → pair_within depth p ≡ w
              → (c : Bool) → ltb before (key_of p) ≡ c
              → cond t (cond z (Some 1) None) (cond w (cond c (Some (key_of p)) None) None) ≡ None
              → place_fits i n depth b p ≡ false
          go true t true z w x c y e = cc
          go true t false z w x c y e = free_place (leb-true n i t) ∙ z
          go false t z r false x c y e = place_unfit (leb-false n i t) x
          go false t z r true x false y e =
              let h = leb-false n i t in
              place_ranked before h d x (behind h) ∙ y
          go false t z r true x true y e = cc

      -- one that has a key fits, and the key is the pair's, if it is held
      pub key_found : (k : ℕ) → place_key i n depth before p ≡ Some k
          → (place_fits i n depth b p ≡ true) × (i < n → (k ≡ key_of p) × Narrow p)
      unfolding place_key
      key_found k e = go (leb n i) refl (is_zeros p) refl (pair_within depth p) refl (ltb before (key_of p)) refl e
        where
          go : (t : Bool) → leb n i ≡ t → (z : Bool) → is_zeros p ≡ z → (w : Bool) → pair_within depth p ≡ w
              → (c : Bool) → ltb before (key_of p) ≡ c
              → cond t (cond z (Some 1) None) (cond w (cond c (Some (key_of p)) None) None) ≡ Some k
              → (place_fits i n depth b p ≡ true) × (i < n → (k ≡ key_of p) × Narrow p)
          go true t true z w x c y e = (free_place (leb-true n i t) ∙ z, λ h. absurd (omega (arith, leb-true n i t, h)))
          go true t false z w x c y e = cc
          go false t z r false x c y e = cc
          go false t z r true x false y e = cc
          go false t z r true x true y e =
              let h = leb-false n i t in
              (place_ranked before h d x (behind h) ∙ y, λ m. (cc, (within_narrow d x).0))
