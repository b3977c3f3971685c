-- The row limit: a table that the reading rule takes is read less far than every sure reading goes, fact 5. Assumes the
-- laws of the two tables.
use Rattle.std.specs.Prelude.{◌≡◌, refl, Bool, true, false, ◌&&◌, List, ℕ, ◌≤◌, ◌<◌, max, leb, take}
use Rattle.std.proofs.Common.{sym, ap, ◌∙◌, inl, inr, ⊎_elim, arith, take-take, leb-true, leb-false}
use Rattle.std.proofs.Math.Bool.{and_comm}
use Rattle.lists.specs.Lists.{at_least}
use Rattle.lists.specs.Counts.{count_falls}
use Rattle.lists.specs.Bools.{clash}
use Rattle.join.specs.Join.{Side, Laws, Preferred, Chosen, ceiling, sums_of, region, Sure, flip}
use Rattle.join.specs.Regions.{LowPair, region_grows, count_cut, count_swap}
use Rattle.join.specs.Ceiling.{swap_laws, field_half, trim_half, ceiling_half, ceiling_le, ceiling_swap}
use Rattle.join.specs.Ceiling.{ceiling_falls, half_falls, beyond_low}
use Rattle.join.specs.Sure.{begins_take, Covered, sure_cases, sure_is, sure_swap}

module _ {A B : Type 0} (S : Side A) (U : Side B) (qual : A → B → Bool) (laws : Laws S U qual) (F : List A) (T : List B)
    (f : S.Legal F) (t : U.Legal T) where
  -- how many sums of the first p and q rows are at or above the ceiling at depths d and e
  abbrev at_ceiling : ℕ → ℕ → ℕ → ℕ → ℕ
  at_ceiling d e p q = region S U qual (ceiling S U F d T e) F p T q

  -- at depths d and e the field half is the higher one
  abbrev FieldHigher : ℕ → ℕ → Type 0
  FieldHigher d e = U.ended T e ≡ false → trim_half S U F T e < field_half S U F d T

  -- then trim rows from e on add nothing at or above the ceiling
  trim_adds_none : (d e q : ℕ) → 1 ≤ d → 1 ≤ e → e ≤ q → S.ended F d ≡ false → FieldHigher d e
      → at_ceiling d e d q ≡ at_ceiling d e d e
  trim_adds_none d e q hd he h g low =
      sym (count_swap S U qual c (take d F) (take q T))
      ∙ count_cut U S (flip qual) c e (take q T) (take d F) under
      ∙ count_swap S U qual c (take d F) (take e (take q T))
      ∙ ap (λ m. at_least c (sums_of S U qual (take d F) m)) (take-take e q T h)
    where
      c : ℕ
      c = ceiling S U F d T e

      under : (j i : ℕ) → e ≤ j → LowPair U S (flip qual) c (take q T) (take d F) j i
      under j i a hj hi y =
          let trim_begins = begins_take U S (flip qual) laws.trims e q T t h in
          let field_begins = begins_take S U qual laws.fields d d F f (omega arith) in
          let b = beyond_low U S (flip qual) (swap_laws laws) T (take q T) F (take d F) e d j i t he hd trim_begins
          field_begins a hj hi y in
          omega (arith, b.1, low b.0, ceiling_half S U F d T e g)

  -- a field table taken though deeper has the higher half
  chosen_low : (d e : ℕ) → e < d → Preferred S U F d T e → FieldHigher d e
  chosen_low d e h (inl g) o = clash g o
  chosen_low d e h (inr (inl g)) o = omega arith
  chosen_low d e h (inr (inr g)) o = absurd (omega (arith, g.1))

  -- a reading of p and q rows that is covered, p within the field depth
  module _ (k p q d e : ℕ) (c : Covered S U qual k F p T q) (p≤d : p ≤ d) (he : 1 ≤ e) where
    -- where the ceiling fell to the one at the depths, the region has k sums at it
    falls_enough : ceiling S U F d T e ≤ ceiling S U F p T q → k ≤ at_ceiling d e p q
    falls_enough h =
        let more = count_falls (ceiling S U F d T e) (ceiling S U F p T q) (sums_of S U qual (take p F) (take q T)) h in
        omega (arith, c.2, more)

    -- inside the depths
    inside : q ≤ e → k ≤ at_ceiling d e d e
    inside q≤e =
        let enough = falls_enough (ceiling_falls S U qual laws F T p d q e f t c.0 p≤d c.1 q≤e) in
        omega (arith, enough, region_grows S U qual (ceiling S U F d T e) p d q e F T p≤d q≤e)

    -- or beside them, the field half of the ceiling being the higher one
    beside : e ≤ q → S.ended F d ≡ false → FieldHigher d e → k ≤ at_ceiling d e d e
    beside e≤q g low =
        let a : ceiling S U F d T e ≤ field_half S U F d T =
        ceiling_le S U F d T e (field_half S U F d T) (λ z. omega arith) (λ z. omega (arith, low z)) in
        let enough = falls_enough (omega (arith, a, half_falls S U qual laws F T p d q f c.0 p≤d g)) in
        let more = region_grows S U qual (ceiling S U F d T e) p d q q F T p≤d (omega arith) in
        omega (arith, enough, more, trim_adds_none d e q (omega (arith, c.0)) he e≤q g low)

  -- at depths d and e neither table is known to be empty, not both are ended, and fewer than k sums are at the ceiling
  module _ (k p q d e : ℕ) (n : 1 ≤ k) (live : S.empty F d ≡ false) (live' : U.empty T e ≡ false)
      (more : (S.ended F d && U.ended T e) ≡ false) (short : 1 ≤ d → 1 ≤ e → at_ceiling d e d e < k) where
    -- a sure reading within d rows
    not_within : Chosen S U F d T e → max p q ≤ d → Sure S U qual k F p T q → ⊥
    not_within o m s =
        ⊎_elim no_field (⊎_elim (no_trim o) (⊎_elim (both o) (covered o)))
        (sure_cases S U qual k F p T q ((sure_is S U qual laws k F T f t n p q).0 s))
      where
        no_field : S.empty F p ≡ true → ⊥
        no_field h = clash (laws.fields.empty_more F p d (omega arith) h) live

        no_trim : Chosen S U F d T e → U.empty T q ≡ true → ⊥
        no_trim (inl z) h = clash (laws.trims.empty_more T q e (omega arith) h) live'
        no_trim (inr z) h = clash (laws.trims.empty_first T q e z.0 h) live'

        both : Chosen S U F d T e → (S.ended F p ≡ true) × (U.ended T q ≡ true) → ⊥
        both (inl z) h =
            let field = laws.fields.ended_more F p d (omega arith) h.0 in
            clash (rw field (laws.trims.ended_more T q e (omega arith) h.1)) more
        both (inr z) h = clash (laws.fields.ended_more F p d (omega arith) h.0) z.1

        covered : Chosen S U F d T e → Covered S U qual k F p T q → ⊥
        covered (inl z) h = omega (arith, h.0)
        covered (inr z) h = go (leb q e) refl
          where
            few : at_ceiling d e d e < k
            few = short (omega (arith, h.0)) z.0

            go : (b : Bool) → leb q e ≡ b → ⊥
            go true g = omega (arith, few, inside k p q d e h (omega arith) z.0 (leb-true q e g))
            go false g =
                let e<q : e < q = leb-false q e g in
                let higher = chosen_low d e (omega arith) z.2 in
                omega (arith, few, beside k p q d e h (omega arith) z.0 (omega arith) z.1 higher)

    -- fact 5: the field table, read next at depth d
    pub row_limit_lem : Chosen S U F d T e → Sure S U qual k F p T q → d < max p q
    row_limit_lem o s = let h : max p q ≤ d → ⊥ = λ m. not_within o m s in omega arith

module _ {A B : Type 0} (S : Side A) (U : Side B) (qual : A → B → Bool) (laws : Laws S U qual) (F : List A) (T : List B)
    (f : S.Legal F) (t : U.Legal T) where
  -- fact 5 for the trim table, read next at depth e
  pub row_limit_trim : (k p q d e : ℕ) → 1 ≤ k → S.empty F d ≡ false → U.empty T e ≡ false
      → (S.ended F d && U.ended T e) ≡ false
      → (1 ≤ d → 1 ≤ e → region S U qual (ceiling S U F d T e) F d T e < k) → Chosen U S T e F d
      → Sure S U qual k F p T q → e < max p q
  row_limit_trim k p q d e n live live' more short o s =
      omega (
        arith,
        row_limit_lem U S (flip qual) (swap_laws laws) T F t f k q p e d n live' live
            (and_comm (U.ended T e) (S.ended F d) ∙ more) few o (sure_swap S U qual k F p T q s),
      )
    where
      few : 1 ≤ e → 1 ≤ d → region U S (flip qual) (ceiling U S T e F d) T e F d < k
      few he hd =
          rw (ceiling_swap S U F d T e, count_swap S U qual (ceiling S U F d T e) (take d F) (take e T)) (short hd he)
