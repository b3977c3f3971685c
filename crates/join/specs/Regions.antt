-- Counting the sums of two tables: what a region lacks, and what a row adds. Assumes nothing.
use Rattle.std.specs.Prelude.{◌≡◌, Bool, ◌&&◌, ◌⊎◌, take}
use Rattle.std.proofs.Math.Path.{refl, sym, ap}
use Rattle.std.proofs.Common.{◌∙◌, inl, inr, add_comm, arith}
use Rattle.std.proofs.Math.Bool.{true, false}
use mathlib.Core.List.{List, [], ◌∷◌, ◌++◌, map}
use Prim.Native.Nat.{ℕ, ◌+◌, ◌≤◌, ◌<◌, min}
use Rattle.std.proofs.Math.Dec.{leb}
use Rattle.std.proofs.Math.ListN.{length, length-take}
use Rattle.std.proofs.Math.Seq.{get_or-take}
use borrow.Author.Tests.{le-leb, lt-leb}
use Rattle.lists.specs.Lists.{keep, at_least}
use Rattle.lists.specs.Words.{one, total}
use Rattle.lists.specs.Counts.{count_each, count_map_keep}
use Rattle.lists.specs.Totals.{total_append, total_le, total_take, total_grows, total_part, total_swap}
use Rattle.join.specs.Join.{Side, sums_of, row_at, weight_at, first_weight, region, flip}

module _ {A B : Type 0} (S : Side A) (U : Side B) (qual : A → B → Bool) where
  -- if rows i and j qualify their sum is below c
  abbrev pub LowPair : ℕ → List A → List B → ℕ → ℕ → Type 0
  LowPair c F T i j =
      i < length F → j < length T → qual (row_at S F i) (row_at U T j) ≡ true → weight_at S F i + weight_at U T j < c

  module _ (c : ℕ) where
    -- 1 for a pair that qualifies with a sum of at least c
    hit : A → B → ℕ
    hit x y = one (qual x y && leb c (S.weight x + U.weight y))

    -- and how many such pairs there are, row by row
    abbrev hits : List A → List B → ℕ
    hits F T = total (λ x. total (hit x) T) F

    count_hits : (F : List A) (T : List B) → at_least c (sums_of S U qual F T) ≡ hits F T
    unfolding sums_of hit
    count_hits F T =
        count_each c (λ x. map (λ y. S.weight x + U.weight y) (keep (qual x) T)) F
        ∙ ap (λ f. total f F) (λ i x. count_map_keep c (λ y. S.weight x + U.weight y) (qual x) T i)

    -- more rows, no fewer sums
    pub region_grows : (p p' q q' : ℕ) (F : List A) (T : List B) → p ≤ p' → q ≤ q'
        → region S U qual c F p T q ≤ region S U qual c F p' T q'
    region_grows p p' q q' F T h k =
        let a : hits (take p F) (take q T) ≤ hits (take p' F) (take q T) =
        total_grows (λ x. total (hit x) (take q T)) p p' F h in
        let b : hits (take p' F) (take q T) ≤ hits (take p' F) (take q' T) =
        total_le (λ x. total (hit x) (take q T)) (λ x. total (hit x) (take q' T)) (take p' F)
        (λ x. total_grows (hit x) q q' T k) in
        omega (arith, count_hits (take p F) (take q T), count_hits (take p' F) (take q' T))

    -- a region has no more sums than its tables
    pub region_part : (p q : ℕ) (F : List A) (T : List B)
        → region S U qual c F p T q ≤ at_least c (sums_of S U qual F T)
    region_part p q F T =
        let a : hits (take p F) (take q T) ≤ hits F (take q T) = total_part (λ x. total (hit x) (take q T)) p F in
        let b : hits F (take q T) ≤ hits F T =
        total_le (λ x. total (hit x) (take q T)) (λ x. total (hit x) T) F (λ x. total_part (hit x) q T) in
        omega (arith, count_hits (take p F) (take q T), count_hits F T)

    hit_low : (x : A) (y : B) → (qual x y ≡ true → S.weight x + U.weight y < c) → hit x y ≡ 0
    unfolding hit
    hit_low x y h = go (qual x y) refl
      where
        go : (t : Bool) → qual x y ≡ t → one (t && leb c (S.weight x + U.weight y)) ≡ 0
        go true e = ap one (lt-leb c (S.weight x + U.weight y) (h e))
        go false e = refl

    -- where no pair with a field row from p on is at or above c, the first p rows have all that are
    pub count_cut : (p : ℕ) (F : List A) (T : List B) → ((i j : ℕ) → p ≤ i → LowPair c F T i j)
        → at_least c (sums_of S U qual F T) ≡ at_least c (sums_of S U qual (take p F) T)
    unfolding weight_at total
    count_cut p F T h =
        count_hits F T ∙ total_take S.blank (λ x. total (hit x) T) p F none ∙ sym (count_hits (take p F) T)
      where
        none : (i : ℕ) → p ≤ i → i < length F → total (hit (row_at S F i)) T ≡ 0
        none i a b =
            total_take U.blank (hit (row_at S F i)) 0 T (λ j z k. hit_low (row_at S F i) (row_at U T j) (h i j a b k))

    hit_high : (x : A) (y : B) → qual x y ≡ true → c ≤ S.weight x + U.weight y → hit x y ≡ 1
    unfolding hit
    hit_high x y e h = rw (e, le-leb c (S.weight x + U.weight y) h)

    hit_first : (T : List B) (x : A) → 1 ≤ length T → qual x (row_at U T 0) ≡ true → c ≤ S.weight x + first_weight U T
        → 1 ≤ total (hit x) T
    unfolding weight_at total
    hit_first [] x k e h = absurd (omega arith)
    hit_first (y ∷ T) x k e h = omega (arith, hit_high x y e h)

    -- a row that qualifies with the first row of the other table, at or above c, is one pair more
    pub count_more : (F : List A) (T : List B) (x : A) → 1 ≤ length T → qual x (row_at U T 0) ≡ true
        → c ≤ S.weight x + first_weight U T
        → at_least c (sums_of S U qual F T) < at_least c (sums_of S U qual (F ++ x ∷ []) T)
    count_more F T x k e h =
        let a : hits (F ++ x ∷ []) T ≡ hits F T + (total (hit x) T + 0) =
        unfold total in total_append (λ x. total (hit x) T) F (x ∷ []) in
        omega (arith, count_hits F T, count_hits (F ++ x ∷ []) T, hit_first T x k e h)

module _ {A B : Type 0} (S : Side A) (U : Side B) (qual : A → B → Bool) (c : ℕ) where
  -- the order of the tables does not count
  pub count_swap : (F : List A) (T : List B) → at_least c (sums_of U S (flip qual) T F)
      ≡ at_least c (sums_of S U qual F T)
  unfolding hit
  count_swap F T =
      count_hits U S (flip qual) c T F
      ∙ total_swap (hit U S (flip qual) c) T F
      ∙ ap (λ f. total (λ x. total (f x) T) F) turned
      ∙ sym (count_hits S U qual c F T)
    where
      turned : (λ x y. hit U S (flip qual) c y x) ≡ hit S U qual c
      turned = λ i x y. one (qual x y && leb c (add_comm (U.weight y) (S.weight x) i))

  -- where no pair with a field row from p on or a trim row from q on is at or above c, the region has all that are
  pub count_region : (p q : ℕ) (F : List A) (T : List B)
      → ((i j : ℕ) → (p ≤ i) ⊎ (q ≤ j) → LowPair S U qual c F T i j)
      → at_least c (sums_of S U qual F T) ≡ region S U qual c F p T q
  unfolding weight_at
  count_region p q F T h =
      count_cut S U qual c p F T (λ i j a b k e. h i j (inl a) b k e)
      ∙ sym (count_swap (take p F) T)
      ∙ count_cut U S (flip qual) c q T (take p F) columns
      ∙ count_swap (take p F) (take q T)
    where
      columns : (j i : ℕ) → q ≤ j → LowPair U S (flip qual) c T (take p F) j i
      columns j i a b k e =
          let m : i < min p (length F) = rw length-take at k in
          let r : row_at S (take p F) i ≡ row_at S F i = get_or-take p F i S.blank (omega arith) in
          omega (arith, h i j (inr a) (omega arith) b (rw r at e), ap S.weight r)
