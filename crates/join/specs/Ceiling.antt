-- What lies outside a reading is no higher than the ceiling, and the ceiling never rises. Assumes the laws of the two
-- tables.
use Rattle.std.specs.Prelude.{◌≡◌, Bool, cond, ◌&&◌, List, ◌⊎◌, length}
use Rattle.std.proofs.Math.Path.{refl, ap}
use Rattle.std.proofs.Common.{sym, ◌∙◌, get_or-take}
use Rattle.std.proofs.Math.Bool.{true, false}
use Rattle.std.proofs.Math.Logic.{inl, inr}
use Prim.Native.Nat.{ℕ, ◌+◌, ◌-◌, ◌≤◌, ◌<◌, max}
use native.Mathlib.Omega.{arith}
use Rattle.std.proofs.Math.Decide.{le_ind}
use Rattle.std.proofs.Math.Dec.{leb}
use borrow.Author.Tests.{leb-true, leb-false}
use Rattle.lists.specs.Bools.{clash, fails}
use Rattle.join.specs.Join.{Side, SideLaws, Laws, Begins, row_at, weight_at, first_weight, last, ceiling, flip}

-- the same laws, the tables in the other order
pub swap_laws : {A B : Type 0} {S : Side A} {U : Side B} {qual : A → B → Bool} → Laws S U qual → Laws U S (flip qual)
swap_laws laws = record {
  fields = laws.trims;
  trims = laws.fields;
  seed =
      record {
        left = laws.seed.right;
        right = laws.seed.left;
        left_legal = laws.seed.right_legal;
        right_legal = laws.seed.left_legal;
        fits = laws.seed.fits;
      };
}

module _ {A : Type 0} (S : Side A) (n i : ℕ) (l l' : List A) (b : Begins S n l l') (h : i < n) where
  -- a table that begins with the rows read has those rows
  pub begins_at : row_at S l' i ≡ row_at S l i
  begins_at =
      sym (get_or-take n l' i S.blank h) ∙ ap (λ m. row_at S m i) (sym b.rows) ∙ get_or-take n l i S.blank h

  pub begins_weight : weight_at S l' i ≡ weight_at S l i
  unfolding weight_at
  begins_weight = ap S.weight begins_at

-- one table
module _ {A B : Type 0} (S : Side A) (U : Side B) (qual : A → B → Bool) (laws : SideLaws S U qual) where
  -- weights fall down the table
  pub weight_falls : (l : List A) (i j : ℕ) → S.Legal l → i ≤ j → j < length l → weight_at S l j ≤ weight_at S l i
  weight_falls l i j g h =
      le_ind (λ j. j < length l → weight_at S l j ≤ weight_at S l i) (λ k. omega arith)
      (λ j m ih k. omega (arith, ih (omega arith), laws.falls l j g k)) j h

  -- while a table is not ended it has more rows
  pub ended_not : (l : List A) (n : ℕ) → S.ended l n ≡ false → n < length l
  ended_not l n e =
      let more : length l ≤ n → ⊥ = λ h. clash (laws.ended_all l n h) e in
      omega arith

  pub ended_less : (l : List A) (n m : ℕ) → n ≤ m → S.ended l m ≡ false → S.ended l n ≡ false
  ended_less l n m h e = fails (S.ended l n) (λ f. clash (laws.ended_more l n m h f) e)

-- The ceiling and its halves

module _ {A B : Type 0} (S : Side A) (U : Side B) where
  -- LF + HT
  abbrev pub field_half : List A → ℕ → List B → ℕ
  field_half F p T = last S F p + first_weight U T

  -- HF + LT
  abbrev pub trim_half : List A → List B → ℕ → ℕ
  trim_half F T q = first_weight S F + last U T q

module _ {A B : Type 0} (S : Side A) (U : Side B) (F : List A) (p : ℕ) (T : List B) (q : ℕ) where
  pub ceiling_swap : ceiling U S T q F p ≡ ceiling S U F p T q
  unfolding ceiling
  ceiling_swap = go (S.ended F p) (U.ended T q) (last S F p) (first_weight U T) (first_weight S F) (last U T q)
    where
      go : (s t : Bool) (a b c d : ℕ)
          → max (cond s 0 (b + a)) (cond t 0 (d + c)) ≡ max (cond t 0 (c + d)) (cond s 0 (a + b))
      go true true a b c d = omega arith
      go true false a b c d = omega arith
      go false true a b c d = omega arith
      go false false a b c d = omega arith

  -- while the field table is not ended the ceiling has its half
  pub ceiling_half : S.ended F p ≡ false → field_half S U F p T ≤ ceiling S U F p T q
  unfolding ceiling
  ceiling_half e = rw e (omega arith)

  -- and it is no higher than both halves
  pub ceiling_le : (m : ℕ) → (S.ended F p ≡ false → field_half S U F p T ≤ m)
      → (U.ended T q ≡ false → trim_half S U F T q ≤ m) → ceiling S U F p T q ≤ m
  unfolding ceiling
  ceiling_le m h k = go (S.ended F p) (U.ended T q) (field_half S U F p T) (trim_half S U F T q) h k
    where
      go : (s t : Bool) (a b : ℕ) → (s ≡ false → a ≤ m) → (t ≡ false → b ≤ m) → max (cond t 0 b) (cond s 0 a) ≤ m
      go true true a b h k = omega arith
      go true false a b h k = omega (arith, k refl)
      go false true a b h k = omega (arith, h refl)
      go false false a b h k = omega (arith, h refl, k refl)

  -- a half that is there gives the ceiling, unless the other one does
  pub ceiling_cases : (S.ended F p && U.ended T q) ≡ false
      → ((S.ended F p ≡ false) × (ceiling S U F p T q ≡ field_half S U F p T))
      ⊎ ((U.ended T q ≡ false) × (ceiling S U F p T q ≡ trim_half S U F T q))
  unfolding ceiling
  ceiling_cases n = go (S.ended F p) (U.ended T q) (field_half S U F p T) (trim_half S U F T q) n
    where
      two : (a b : ℕ) (t : Bool) → leb b a ≡ t → ((false ≡ false) × (max b a ≡ a)) ⊎ ((false ≡ false) × (max b a ≡ b))
      two a b true e = inl (refl, omega (arith, leb-true b a e))
      two a b false e = inr (refl, omega (arith, leb-false b a e))

      go : (s t : Bool) (a b : ℕ) → (s && t) ≡ false
          → ((s ≡ false) × (max (cond t 0 b) (cond s 0 a) ≡ a)) ⊎ ((t ≡ false) × (max (cond t 0 b) (cond s 0 a) ≡ b))
      go true true a b n = clash refl n
      go true false a b n = inr (refl, omega arith)
      go false true a b n = inl (refl, omega arith)
      go false false a b n = two a b (leb b a) refl

-- Beyond a reading of p field rows and q trim rows

module _ {A B : Type 0} (S : Side A) (U : Side B) (qual : A → B → Bool) (laws : Laws S U qual) where
  -- in tables that begin with the rows read, a qualifying pair with a field row beyond the reading: the field table is
  -- not ended, and the sum no higher than its half
  module _ (F F' : List A) (T T' : List B) (p q i j : ℕ) (g : S.Legal F) (hp : 1 ≤ p) (hq : 1 ≤ q)
      (b : Begins S p F F') (c : Begins U q T T') (h : p ≤ i) (hi : i < length F') (hj : j < length T')
      (e : qual (row_at S F' i) (row_at U T' j) ≡ true) where
    pub beyond_low : (S.ended F p ≡ false) × (weight_at S F' i + weight_at U T' j ≤ field_half S U F p T)
    beyond_low = go (S.ended F p) refl
      where
        go : (t : Bool) → S.ended F p ≡ t
            → (S.ended F p ≡ false) × (weight_at S F' i + weight_at U T' j ≤ field_half S U F p T)
        go true f = clash e (laws.fields.ended_dead F F' p g b f i h hi (row_at U T' j))
        go false f =
            let x : weight_at S F' i ≤ last S F' p =
            weight_falls S U qual laws.fields F' (p - 1) i b.legal (omega arith) hi in
            let y : weight_at U T' j ≤ first_weight U T' =
            weight_falls U S (flip qual) laws.trims T' 0 j c.legal (omega arith) hj in
            (f, omega (arith, begins_weight S p (p - 1) F F' b (omega arith), begins_weight U q 0 T T' c (omega arith)))

    beyond_under : weight_at S F' i + weight_at U T' j ≤ ceiling S U F p T q
    beyond_under = let a = beyond_low in omega (arith, a.1, ceiling_half S U F p T q a.0)

  pub half_falls : (F : List A) (T : List B) (p p' q : ℕ) → S.Legal F → 1 ≤ p → p ≤ p' → S.ended F p' ≡ false
      → field_half S U F p' T ≤ ceiling S U F p T q
  half_falls F T p p' q g hp h e =
      let a : p' < length F = ended_not S U qual laws.fields F p' e in
      let b : last S F p' ≤ last S F p =
      weight_falls S U qual laws.fields F (p - 1) (p' - 1) g (omega arith) (omega arith) in
      omega (arith, ceiling_half S U F p T q (ended_less S U qual laws.fields F p p' h e))

module _ {A B : Type 0} (S : Side A) (U : Side B) (qual : A → B → Bool) (laws : Laws S U qual) where
  -- fact 2: a qualifying pair with a row beyond the reading is no higher than the ceiling, in any legal tables that
  -- begin with the rows read
  pub outside_low : (F F' : List A) (T T' : List B) (p q i j : ℕ) → S.Legal F → U.Legal T → 1 ≤ p → 1 ≤ q
      → Begins S p F F' → Begins U q T T' → (p ≤ i) ⊎ (q ≤ j) → i < length F' → j < length T'
      → qual (row_at S F' i) (row_at U T' j) ≡ true → weight_at S F' i + weight_at U T' j ≤ ceiling S U F p T q
  outside_low F F' T T' p q i j f t hp hq b c (inl h) hi hj e =
      beyond_under S U qual laws F F' T T' p q i j f hp hq b c h hi hj e
  outside_low F F' T T' p q i j f t hp hq b c (inr h) hi hj e =
      let low = beyond_under U S (flip qual) (swap_laws laws) T T' F F' q p j i t hq hp c b h hj hi e in
      omega (arith, low, ceiling_swap S U F p T q)

  -- the ceiling never rises
  pub ceiling_falls : (F : List A) (T : List B) (p p' q q' : ℕ) → S.Legal F → U.Legal T → 1 ≤ p → p ≤ p' → 1 ≤ q
      → q ≤ q' → ceiling S U F p' T q' ≤ ceiling S U F p T q
  ceiling_falls F T p p' q q' f t hp h hq k =
      ceiling_le S U F p' T q' (ceiling S U F p T q) (half_falls S U qual laws F T p p' q f hp h)
      (λ e. omega (arith, half_falls U S (flip qual) (swap_laws laws) T F q q' p t hq k e, ceiling_swap S U F p T q))
