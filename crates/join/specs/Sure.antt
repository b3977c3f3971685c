-- What a sure reading is: fact 3. Assumes the laws of the two tables.
use Rattle.std.specs.Prelude.{◌≡◌, refl, Bool, true, false, ◌&&◌, ◌||◌, ◌⊎◌, ◌↔◌, ltb, take}
use Rattle.std.proofs.Common.{sym, ap₂, ◌∙◌, arith, take-take, take_all}
use Rattle.std.proofs.Math.Path.{ap}
use mathlib.Core.List.{List, [], ◌∷◌, ◌++◌}
use Rattle.std.proofs.Math.Logic.{inl, inr, ⊎_elim}
use Prim.Native.Nat.{ℕ, zero, suc, ◌+◌, ◌≤◌, ◌<◌, min}
use Rattle.std.proofs.Math.Dec.{leb}
use Rattle.std.proofs.Math.ListN.{length, length-take}
use Rattle.std.proofs.Math.Seq.{get_or-take}
use Rattle.std.proofs.lemmas.List.{take-append-le}
use borrow.Author.Tests.{leb-true, leb-false, ltb-true, ltb-false, le-leb}
use Rattle.lists.specs.Lists.{each, at_least, best}
use Rattle.lists.specs.Counts.{count_none, count_falls, count_best, best_ext}
use Rattle.lists.specs.Bools.{clash, fails, and_out, or_out}
use Rattle.join.specs.Join.{Side, SideLaws, Laws, Partner, Begins, row_at, weight_at, first_weight, last, ceiling}
use Rattle.join.specs.Join.{sums_of, region, Sure, sure_test, flip}
use Rattle.join.specs.Regions.{LowPair, region_part, count_cut, count_more, count_swap, count_region}
use Rattle.join.specs.Ceiling.{swap_laws, ended_not, field_half, trim_half, ceiling_cases, outside_low}

-- The test

module _ {A B : Type 0} (S : Side A) (U : Side B) (qual : A → B → Bool) (k : ℕ) (F : List A) (p : ℕ) (T : List B)
    (q : ℕ) where
  -- its last ground: rows of both tables are read, and k sums of theirs are at least the ceiling
  abbrev pub Covered : Type 0
  Covered = (1 ≤ p) × (1 ≤ q) × (k ≤ region S U qual (ceiling S U F p T q) F p T q)

  -- its four grounds
  pub sure_cases : sure_test S U qual k F p T q ≡ true
      → (S.empty F p ≡ true)
      ⊎ ((U.empty T q ≡ true) ⊎ (((S.ended F p ≡ true) × (U.ended T q ≡ true)) ⊎ Covered))
  unfolding sure_test
  sure_cases e =
      ⊎_elim inl
      (λ e. inr (⊎_elim inl
      (λ e. inr (⊎_elim (λ e. inl (and_out _ _ e)) (λ e. inr (covered (and_out _ _ e))) (or_out _ _ e)))
      (or_out _ _ e)))
      (or_out _ _ e)
    where
      r : ℕ
      r = region S U qual (ceiling S U F p T q) F p T q

      covered : (leb 1 p ≡ true) × ((leb 1 q && leb k r) ≡ true) → Covered
      covered e =
          let h = and_out (leb 1 q) (leb k r) e.1 in
          (leb-true 1 p e.0, leb-true 1 q h.0, leb-true k r h.1)

-- From the test to the meaning

module _ {A B : Type 0} (S : Side A) (U : Side B) (qual : A → B → Bool) (k : ℕ) (F : List A) (p : ℕ) (T : List B)
    (q : ℕ) where
  -- sure, if the counts of all tables that begin so are known
  sure_known : (v : ℕ → ℕ)
      → ((c : ℕ) (F' : List A) (T' : List B) → Begins S p F F' → Begins U q T T'
      → min k (at_least c (sums_of S U qual F' T')) ≡ v c)
      → Sure S U qual k F p T q
  sure_known v h = record {
    same =
        λ F₁ F₂ T₁ T₂ f₁ f₂ t₁ t₂. best_ext k (sums_of S U qual F₁ T₁) (sums_of S U qual F₂ T₂)
        (λ c. h c F₁ T₁ f₁ t₁ ∙ sym (h c F₂ T₂ f₂ t₂));
  }

  pub sure_swap : Sure S U qual k F p T q → Sure U S (flip qual) k T q F p
  sure_swap s =
      record { same = λ T₁ T₂ F₁ F₂ t₁ t₂ f₁ f₂. turn F₁ T₁ ∙ s.same F₁ F₂ T₁ T₂ f₁ f₂ t₁ t₂ ∙ sym (turn F₂ T₂) }
    where
      turn : (F' : List A) (T' : List B) → best k (sums_of U S (flip qual) T' F') ≡ best k (sums_of S U qual F' T')
      turn F' T' =
          best_ext k (sums_of U S (flip qual) T' F') (sums_of S U qual F' T')
          (λ c. ap (min k) (count_swap S U qual c F' T'))

  -- the region of tables that begin so is the region read
  region_begins : (c : ℕ) (F' : List A) (T' : List B) → Begins S p F F' → Begins U q T T'
      → region S U qual c F' p T' q ≡ region S U qual c F p T q
  region_begins c F' T' f t = ap₂ (λ l m. at_least c (sums_of S U qual l m)) (sym f.rows) (sym t.rows)

  -- where pairs outside the reading are below c, tables that begin so count as the region read
  begins_count : (c : ℕ) (F' : List A) (T' : List B) → Begins S p F F' → Begins U q T T'
      → ((i j : ℕ) → (p ≤ i) ⊎ (q ≤ j) → LowPair S U qual c F' T' i j)
      → at_least c (sums_of S U qual F' T') ≡ region S U qual c F p T q
  begins_count c F' T' b d low = count_region S U qual c p q F' T' low ∙ region_begins c F' T' b d

  module _ (laws : Laws S U qual) (f : S.Legal F) where
    sure_empty : S.empty F p ≡ true → Sure S U qual k F p T q
    unfolding sums_of each
    sure_empty e =
        sure_known (λ c. min k (at_least c []))
        (λ c F' T' b d. ap (min k) (count_cut S U qual c 0 F' T' (none c F' T' b)))
      where
        none : (c : ℕ) (F' : List A) (T' : List B) → Begins S p F F' → (i j : ℕ) → 0 ≤ i → LowPair S U qual c F' T' i j
        none c F' T' b i j z hi hj g = clash g (laws.fields.empty_dead F F' p f b e i hi (row_at U T' j))

    module _ (t : U.Legal T) where
      sure_ended : S.ended F p ≡ true → U.ended T q ≡ true → Sure S U qual k F p T q
      sure_ended e g =
          sure_known (λ c. min k (region S U qual c F p T q))
          (λ c F' T' b d. ap (min k) (begins_count c F' T' b d (none c F' T' b d)))
        where
          none : (c : ℕ) (F' : List A) (T' : List B) → Begins S p F F' → Begins U q T T' → (i j : ℕ)
              → (p ≤ i) ⊎ (q ≤ j) → LowPair S U qual c F' T' i j
          none c F' T' b d i j (inl h) hi hj y = clash y (laws.fields.ended_dead F F' p f b e i h hi (row_at U T' j))
          none c F' T' b d i j (inr h) hi hj y = clash y (laws.trims.ended_dead T T' q t d g j h hj (row_at S F' i))

      sure_covered : Covered S U qual k F p T q → Sure S U qual k F p T q
      sure_covered n =
          sure_known (λ c. min k (region S U qual c F p T q)) (λ c F' T' b d. go c F' T' b d (ltb top c) refl)
        where
          top : ℕ
          top = ceiling S U F p T q

          low : (c : ℕ) (F' : List A) (T' : List B) → Begins S p F F' → Begins U q T T' → top < c → (i j : ℕ)
              → (p ≤ i) ⊎ (q ≤ j) → LowPair S U qual c F' T' i j
          low c F' T' b d h i j o hi hj y =
              omega (arith, outside_low S U qual laws F F' T T' p q i j f t n.0 n.1 b d o hi hj y)

          go : (c : ℕ) (F' : List A) (T' : List B) → Begins S p F F' → Begins U q T T' → (s : Bool) → ltb top c ≡ s
              → min k (at_least c (sums_of S U qual F' T')) ≡ min k (region S U qual c F p T q)
          go c F' T' b d true e = ap (min k) (begins_count c F' T' b d (low c F' T' b d (ltb-true top c e)))
          go c F' T' b d false e =
              omega (
                arith,
                n.2,
                region_part S U qual c p q F' T',
                region_begins c F' T' b d,
                count_falls c top (sums_of S U qual (take p F) (take q T)) (ltb-false top c e),
              )

-- From the meaning to the test: two tables tell

module _ {A B : Type 0} (S : Side A) (U : Side B) (qual : A → B → Bool) (laws : SideLaws S U qual) where
  -- the rows read, alone or with the next ones, are a table that begins so
  pub begins_take : (n m : ℕ) (l : List A) → S.Legal l → n ≤ m → Begins S n l (take m l)
  begins_take n m l g h =
      record {
        legal = laws.legal_take m l g;
        rows = sym (take-take n m l h);
        ends = λ k. take_all m l (omega arith);
      }

  -- and while the table is not ended, the rows read and one more
  begins_more : (n : ℕ) (l : List A) (x : A) → S.ended l n ≡ false → S.Legal (take n l ++ x ∷ [])
      → Begins S n l (take n l ++ x ∷ [])
  begins_more n l x e g =
      let h : n < length l = ended_not S U qual laws l n e in
      let k : n ≤ length (take n l) = rw length-take (omega arith) in
      record {
        legal = g;
        rows = sym (take-take n n l (omega arith)) ∙ sym (take-append-le n (take n l) (x ∷ []) k);
        ends = λ z. absurd (omega arith);
      }

  -- a table that does not count as empty has a row
  pub has_rows : (l : List A) (n : ℕ) → S.empty l n ≡ false → 1 ≤ length l
  has_rows l n e =
      let shown : length l ≤ 0 → S.empty l 0 ≡ true = λ h. laws.ended_zero l (laws.ended_all l 0 h) in
      let none : length l ≤ 0 → ⊥ = λ h. clash (laws.empty_more l 0 n (omega arith) (shown h)) e in
      omega arith

  -- and is not ended before it is read
  unread : (l : List A) → S.empty l 0 ≡ false → S.ended l 0 ≡ false
  unread l e = fails (S.ended l 0) (λ h. clash (laws.ended_zero l h) e)

  -- a row x that may follow the p rows read of F, and with a table T' that begins as T makes a pair more at c while
  -- fewer than k are there
  row_tells : (k c : ℕ) (F : List A) (p : ℕ) (T T' : List B) (q : ℕ) (x : A) → S.Legal F → Begins U q T T'
      → S.ended F p ≡ false → S.Legal (take p F ++ x ∷ []) → 1 ≤ length T' → qual x (row_at U T' 0) ≡ true
      → c ≤ S.weight x + first_weight U T' → at_least c (sums_of S U qual (take p F) T') < k → Sure S U qual k F p T q
      → ⊥
  row_tells k c F p T T' q x f d e g r y h n s =
      let alone = begins_take p p F f (omega arith) in
      let more = begins_more p F x e g in
      let same = ap (at_least c) (s.same (take p F) (take p F ++ x ∷ []) T' T' alone more d d) in
      omega (
        arith,
        same,
        count_best c k (sums_of S U qual (take p F) T'),
        count_best c k (sums_of S U qual (take p F ++ x ∷ []) T'),
        count_more S U qual c (take p F) T' x r y h,
      )

module _ {A B : Type 0} (S : Side A) (U : Side B) (qual : A → B → Bool) (laws : Laws S U qual) (k : ℕ) (F : List A)
    (T : List B) (f : S.Legal F) where
  -- with nothing read of either table two rows that qualify tell
  seed_tells : S.ended F 0 ≡ false → U.ended T 0 ≡ false → 1 ≤ k → Sure S U qual k F 0 T 0 → ⊥
  unfolding sums_of each
  seed_tells e g n s =
      let y = laws.seed.right in
      let begun = begins_more U S (flip qual) laws.trims 0 T y g laws.seed.right_legal in
      row_tells S U qual laws.fields k 0 F 0 T (y ∷ []) 0 laws.seed.left f begun e laws.seed.left_legal
      (omega arith) laws.seed.fits (omega arith) (omega (arith, count_none 0)) s

  -- the partner of the other table's first row is such a row
  module _ (q : ℕ) (t : U.Legal T) (hq : 1 ≤ q) (g : U.empty T q ≡ false) where
    partner_tells : (c p : ℕ) → S.ended F p ≡ false
        → ((x : A) → (1 ≤ p → S.weight x ≡ last S F p) → c ≤ S.weight x + first_weight U T)
        → region S U qual c F p T q < k → Sure S U qual k F p T q → ⊥
    unfolding weight_at
    partner_tells c p e h n s =
        let x : Partner S U qual F p T = laws.fields.partner F p T q f t e hq g in
        let r : row_at U (take q T) 0 ≡ row_at U T 0 = get_or-take q T 0 U.blank hq in
        let w : first_weight U (take q T) ≡ first_weight U T = ap U.weight r in
        let m : 1 ≤ length (take q T) = rw length-take (omega (arith, has_rows U S (flip qual) laws.trims T q g)) in
        let begun = begins_take U S (flip qual) laws.trims q q T t (omega arith) in
        row_tells S U qual laws.fields k c F p T (take q T) q x.row f begun e x.stands m (rw r x.fits)
        (omega (arith, h x.row x.level)) n s

    -- with nothing read of the field table it alone tells
    alone_tells : S.ended F 0 ≡ false → 1 ≤ k → Sure S U qual k F 0 T q → ⊥
    unfolding sums_of each
    alone_tells e n s = partner_tells 0 0 e (λ x h. omega arith) (omega (arith, count_none 0)) s

module _ {A B : Type 0} (S : Side A) (U : Side B) (qual : A → B → Bool) (laws : Laws S U qual) (k : ℕ) (F : List A)
    (T : List B) (f : S.Legal F) (t : U.Legal T) (n : 1 ≤ k) where
  -- a reading that fails the test is not sure
  not_sure : (p q : ℕ) → S.empty F p ≡ false → U.empty T q ≡ false → (S.ended F p && U.ended T q) ≡ false
      → (1 ≤ p → 1 ≤ q → region S U qual (ceiling S U F p T q) F p T q < k) → Sure S U qual k F p T q → ⊥
  not_sure zero zero e g b m s =
      seed_tells S U qual laws k F T f (unread S U qual laws.fields F e) (unread U S (flip qual) laws.trims T g)
      n s
  not_sure zero (suc q) e g b m s =
      alone_tells S U qual laws k F T f (suc q) t (omega arith) g (unread S U qual laws.fields F e) n s
  not_sure (suc p) zero e g b m s =
      alone_tells U S (flip qual) (swap_laws laws) k T F t (suc p) f (omega arith) e
      (unread U S (flip qual) laws.trims T g) n (sure_swap S U qual k F (suc p) T 0 s)
  not_sure (suc p) (suc q) e g b m s = ⊎_elim field trim (ceiling_cases S U F (suc p) T (suc q) b)
    where
      c : ℕ
      c = ceiling S U F (suc p) T (suc q)

      few : region S U qual c F (suc p) T (suc q) < k
      few = m (omega arith) (omega arith)

      field : (S.ended F (suc p) ≡ false) × (c ≡ field_half S U F (suc p) T) → ⊥
      field h =
          partner_tells S U qual laws k F T f (suc q) t (omega arith) g c (suc p) h.0
          (λ x l. omega (arith, h.1, l (omega arith))) few s

      trim : (U.ended T (suc q) ≡ false) × (c ≡ trim_half S U F T (suc q)) → ⊥
      trim h =
          partner_tells U S (flip qual) (swap_laws laws) k T F t (suc p) f (omega arith) e c (suc q) h.0
          (λ y l. omega (arith, h.1, l (omega arith)))
          (rw (count_swap S U qual c (take (suc p) F) (take (suc q) T)) few)
          (sure_swap S U qual k F (suc p) T (suc q) s)

  -- fact 3: the test is what a sure reading is
  pub sure_is : (p q : ℕ) → Sure S U qual k F p T q ↔ (sure_test S U qual k F p T q ≡ true)
  unfolding sure_test
  sure_is p q = (
    λ s. go (S.empty F p) (U.empty T q) (S.ended F p && U.ended T q) (leb 1 p && (leb 1 q && leb k r))
        (λ e g b d. not_sure p q e g b (λ hp hq. leb-false k r (rw (le-leb 1 p hp, le-leb 1 q hq) at d)) s),
    λ e. ⊎_elim field_empty (⊎_elim trim_empty (⊎_elim ended covered)) (sure_cases S U qual k F p T q e),
  )
    where
      r : ℕ
      r = region S U qual (ceiling S U F p T q) F p T q

      go : (a b c d : Bool) → (a ≡ false → b ≡ false → c ≡ false → d ≡ false → ⊥) → (a || (b || (c || d))) ≡ true
      go true b c d h = refl
      go false true c d h = refl
      go false false true d h = refl
      go false false false true h = refl
      go false false false false h = absurd (h refl refl refl refl)

      field_empty : S.empty F p ≡ true → Sure S U qual k F p T q
      field_empty = sure_empty S U qual k F p T q laws f

      trim_empty : U.empty T q ≡ true → Sure S U qual k F p T q
      trim_empty h =
          sure_swap U S (flip qual) k T q F p (sure_empty U S (flip qual) k T q F p (swap_laws laws) t h)

      ended : (S.ended F p ≡ true) × (U.ended T q ≡ true) → Sure S U qual k F p T q
      ended h = sure_ended S U qual k F p T q laws f t h.0 h.1

      covered : Covered S U qual k F p T q → Sure S U qual k F p T q
      covered = sure_covered S U qual k F p T q laws f t

-- What follows from a sure reading

-- what begins with more rows begins with fewer
begins_less : {A : Type 0} (S : Side A) (n m : ℕ) (l l' : List A) → n ≤ m → Begins S m l l' → Begins S n l l'
begins_less S n m l l' h b =
    record {
      legal = b.legal;
      rows = sym (take-take n m l h) ∙ ap (take n) b.rows ∙ take-take n m l' h;
      ends = λ k. b.ends (omega arith);
    }

module _ {A B : Type 0} (S : Side A) (U : Side B) (qual : A → B → Bool) (k : ℕ) (F : List A) (p : ℕ) (T : List B)
    (q : ℕ) (s : Sure S U qual k F p T q) where
  -- a reading that contains a sure one is sure
  pub sure_grows : (p' q' : ℕ) → p ≤ p' → q ≤ q' → Sure S U qual k F p' T q'
  sure_grows p' q' h h' = record {
    same =
        λ F₁ F₂ T₁ T₂ f₁ f₂ t₁ t₂. s.same F₁ F₂ T₁ T₂ (begins_less S p p' F F₁ h f₁) (begins_less S p p' F F₂ h f₂)
        (begins_less U q q' T T₁ h' t₁) (begins_less U q q' T T₂ h' t₂);
  }

  -- the k highest sums of the tables are those of the region read
  pub sure_best : Laws S U qual → S.Legal F → U.Legal T
      → best k (sums_of S U qual F T) ≡ best k (sums_of S U qual (take p F) (take q T))
  sure_best laws f t =
      s.same F (take p F) T (take q T) (record { legal = f; rows = refl; ends = λ h. refl })
      (begins_take S U qual laws.fields p p F f (omega arith)) (record { legal = t; rows = refl; ends = λ h. refl })
      (begins_take U S (flip qual) laws.trims q q T t (omega arith))
