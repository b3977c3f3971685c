-- Two tables read from the top, a test on their rows, and what a reading of p and q rows says of the highest sums.
-- Definitions only. Assumes nothing.
use Rattle.std.specs.Prelude.{ℕ, suc, ◌+◌, ◌-◌, ◌≤◌, ◌<◌, max, ◌≡◌, Bool, true, false, cond, ◌&&◌, ◌||◌, List, [], ◌∷◌}
use Rattle.std.specs.Prelude.{◌++◌, map, ◌⊎◌, leb, length, take, get_or}
use Rattle.lists.specs.Lists.{keep, each, at_least, best}

-- what the join knows of one of its tables, whose rows are of type A
pub record Side (A : Type 0) : Type 1 where
  -- what stands past the last row
  pub blank : A
  -- what a row adds to the sum of a pair; today its score
  pub weight : A → ℕ
  pub Legal : List A → Type 0
  -- whether a reading of n rows has ended the table; today: it has no more rows
  pub ended : List A → ℕ → Bool
  -- whether a reading of n rows shows that the table counts as empty; today: it has no rows
  pub empty : List A → ℕ → Bool

-- row i, the first of them row 0
abbrev pub row_at : {A : Type 0} → Side A → List A → ℕ → A
row_at S l i = get_or l i S.blank

unfoldable pub weight_at : {A : Type 0} → Side A → List A → ℕ → ℕ
weight_at S l i = S.weight (row_at S l i)

-- the rules' HF and HT: the weight of the first row
abbrev pub first_weight : {A : Type 0} → Side A → List A → ℕ
first_weight S l = weight_at S l 0

-- the rules' LF and LT: the weight of the last of n rows read
abbrev pub last : {A : Type 0} → Side A → List A → ℕ → ℕ
last S l n = weight_at S l (n - 1)

-- the rules' drop: HF - LF, or HT - LT
abbrev pub drop_at : {A : Type 0} → Side A → List A → ℕ → ℕ
drop_at S l n = first_weight S l - last S l n

-- l' is a legal table that begins with the first n rows of l; where the last row of l is within these, l' is known to
-- end there
pub record Begins {A : Type 0} (S : Side A) (n : ℕ) (l l' : List A) : Type 0 where
  pub legal : S.Legal l'
  pub rows : take n l ≡ take n l'
  pub ends : length l ≤ n → l' ≡ l

module _ {A B : Type 0} (S : Side A) (U : Side B) where
  -- the rules' ceiling at depths p and q: the higher of HF + LT, if trim is not ended, and LF + HT, if field is not
  unfoldable pub ceiling : List A → ℕ → List B → ℕ → ℕ
  ceiling F p T q =
      max (cond (U.ended T q) 0 (first_weight S F + last U T q)) (cond (S.ended F p) 0 (last S F p + first_weight U T))

  -- of two tables that were read, the field table not to its end, it goes first: the other is ended, or its own drop is
  -- smaller, or the drops are equal and it has not more rows read
  abbrev pub Preferred : List A → ℕ → List B → ℕ → Type 0
  Preferred F d T e =
      (U.ended T e ≡ true) ⊎ ((drop_at S F d < drop_at U T e) ⊎ ((drop_at S F d ≤ drop_at U T e) × (d ≤ e)))

  -- the reading rule takes the field table at depths d and e
  abbrev pub Chosen : List A → ℕ → List B → ℕ → Type 0
  Chosen F d T e = (d ≡ 0) ⊎ ((1 ≤ e) × (S.ended F d ≡ false) × Preferred F d T e)

module _ {A B : Type 0} (S : Side A) (U : Side B) (qual : A → B → Bool) where
  -- the sums of all pairs that qualify
  unfoldable pub sums_of : List A → List B → List ℕ
  sums_of F T = each (λ x. map (λ y. S.weight x + U.weight y) (keep (qual x) T)) F

  -- how many sums of the region are at least c; the region: the pairs of the first p field rows and the first q trim
  -- rows
  abbrev pub region : ℕ → List A → ℕ → List B → ℕ → ℕ
  region c F p T q = at_least c (sums_of (take p F) (take q T))

  -- the rules' sure reading: all legal tables that begin with these rows have the same k highest sums
  pub record Sure (k : ℕ) (F : List A) (p : ℕ) (T : List B) (q : ℕ) : Type 0 where
    pub same : (F₁ F₂ : List A) (T₁ T₂ : List B) → Begins S p F F₁ → Begins S p F F₂ → Begins U q T T₁
        → Begins U q T T₂ → best k (sums_of F₁ T₁) ≡ best k (sums_of F₂ T₂)

  -- whether a reading is sure of k, found from the rows read
  unfoldable pub sure_test : ℕ → List A → ℕ → List B → ℕ → Bool
  sure_test k F p T q =
      S.empty F p
      || (U.empty T q
      || ((S.ended F p && U.ended T q)
      || (leb 1 p && (leb 1 q && leb k (region (ceiling S U F p T q) F p T q)))))

  -- a row that may stand after the first n rows of l, as high as the last of them, and qualifies with the first row of
  -- m
  pub record Partner (l : List A) (n : ℕ) (m : List B) : Type 0 where
    pub row : A
    pub level : 1 ≤ n → S.weight row ≡ last S l n
    pub fits : qual row (row_at U m 0) ≡ true
    pub stands : S.Legal (take n l ++ row ∷ [])

  -- what the argument asks of one table against the other
  pub record SideLaws : Type 0 where
    pub legal_take : (n : ℕ) (l : List A) → S.Legal l → S.Legal (take n l)
    pub falls : (l : List A) (i : ℕ) → S.Legal l → suc i < length l → weight_at S l (suc i) ≤ weight_at S l i
    pub ended_all : (l : List A) (n : ℕ) → length l ≤ n → S.ended l n ≡ true
    pub ended_more : (l : List A) (n m : ℕ) → n ≤ m → S.ended l n ≡ true → S.ended l m ≡ true
    -- no row past the end qualifies with anything
    pub ended_dead : (l l' : List A) (n : ℕ) → S.Legal l → Begins S n l l' → S.ended l n ≡ true → (i : ℕ)
        → n ≤ i → i < length l' → (y : B) → qual (row_at S l' i) y ≡ false
    -- no row of a table that counts as empty does
    pub empty_dead : (l l' : List A) (n : ℕ) → S.Legal l → Begins S n l l' → S.empty l n ≡ true → (i : ℕ)
        → i < length l' → (y : B) → qual (row_at S l' i) y ≡ false
    pub empty_ended : (l : List A) (n : ℕ) → S.empty l n ≡ true → S.ended l n ≡ true
    pub ended_zero : (l : List A) → S.ended l 0 ≡ true → S.empty l 0 ≡ true
    pub empty_more : (l : List A) (n m : ℕ) → n ≤ m → S.empty l n ≡ true → S.empty l m ≡ true
    -- one row shows it
    pub empty_first : (l : List A) (n m : ℕ) → 1 ≤ m → S.empty l n ≡ true → S.empty l m ≡ true
    pub partner : (l : List A) (n : ℕ) (m : List B) (j : ℕ) → S.Legal l → U.Legal m → S.ended l n ≡ false → 1 ≤ j
        → U.empty m j ≡ false → Partner l n m

  -- two rows that qualify, each a legal table
  pub record Seed : Type 0 where
    pub left : A
    pub right : B
    pub left_legal : S.Legal (left ∷ [])
    pub right_legal : U.Legal (right ∷ [])
    pub fits : qual left right ≡ true

-- the test, its tables in the other order
abbrev pub flip : {A B : Type 0} → (A → B → Bool) → B → A → Bool
flip qual = λ y x. qual x y

-- what the argument asks of both tables
pub record Laws {A B : Type 0} (S : Side A) (U : Side B) (qual : A → B → Bool) : Type 0 where
  pub fields : SideLaws S U qual
  pub trims : SideLaws U S (flip qual)
  pub seed : Seed S U qual
