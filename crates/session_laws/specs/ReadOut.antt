-- When a table is read out, and when it is empty, in words; and that of checked rows the last one read tells. Assumes
-- nothing.
use Rattle.std.specs.Prelude.{◌≡◌, Bool, false, ◌&&◌, ◌||◌, not, ◌⊎◌, eqb, ltb}
use Rattle.std.proofs.Math.Path.{refl}
use Rattle.std.proofs.Common.{sym, ap, subst₂, ◌∙◌}
use Rattle.std.proofs.Math.Bool.{true}
use Rattle.std.proofs.Math.Logic.{inl, inr, ⊎_elim}
use Prim.Native.Nat.{ℕ, zero, suc, ◌-◌, ◌≤◌, ◌<◌}
use native.Mathlib.Omega.{arith}
use Rattle.std.proofs.Math.Decide.{le_ind, dec_le}
use Rattle.std.specs.Int.Signed.{le_z}
use borrow.Author.Tests.{eqb-true, eqb-false, eq-eqb, ne_eqb, ltb-true, lt-ltb, leb-true, not-true}
use Rattle.lists.specs.Bools.{clash, and_out, and_in, or_out, or_in_left, or_in_right, or_none_out}
use Rattle.rules.specs.declared.Meaning.TheVariants.{Possibly, Surely}
use Rattle.rules.specs.declared.Query.{Query}
use Rattle.rules.specs.Tables.{Table, row_count, legal, Row, row, qualifies, withdrawn, rows_qualify}
use Rattle.rules.proofs.ToleranceLaws.{asking, surely_possibly}
use Rattle.rules.specs.Session.{withdrawn_within, read_out, is_empty}
use Rattle.session_laws.specs.Tables.{order_next, RowFits, score_kept, legal_out}

-- ---- Rows that qualify are not withdrawn

pub rows_qualify_out : (q : Query) (x y : Row) → rows_qualify q x y ≡ true
    → (withdrawn x ≡ false) × (withdrawn y ≡ false) × (qualifies q x.shade y.shade ≡ true)
unfolding rows_qualify
rows_qualify_out q x y h =
    let last = qualifies q x.shade y.shade in
    let a = and_out (not (withdrawn x)) (not (withdrawn y) && last) h in
    let b = and_out (not (withdrawn y)) last a.1 in
    (not-true (withdrawn x) a.0, not-true (withdrawn y) b.0, b.1)

pub rows_qualify_in : (q : Query) (x y : Row) → withdrawn x ≡ false → withdrawn y ≡ false
    → rows_qualify q x y ≡ qualifies q x.shade y.shade
unfolding rows_qualify
rows_qualify_in q x y a b = rw (a, b)

-- "Every surely qualifying pair also possibly qualifies."
pub rows_surely_possibly : (q : Query) (x y : Row) → rows_qualify (asking Surely q) x y ≡ true
    → rows_qualify (asking Possibly q) x y ≡ true
rows_surely_possibly q x y h =
    let live = rows_qualify_out (asking Surely q) x y h in
    rows_qualify_in (asking Possibly q) x y live.0 live.1
    ∙ surely_possibly q x.shade y.shade live.2

-- ---- A withdrawn row among the first

module _ (t : Table) where
  pub within_in : (n k : ℕ) → k < n → withdrawn (row t k) ≡ true → withdrawn_within t n ≡ true
  unfolding withdrawn_within
  within_in zero k h e = absurd (omega arith)
  within_in (suc n) k h e = go (dec_le n k) (λ m. within_in n k m e)
    where
      go : Dec (n ≤ k) → (k < n → withdrawn_within t n ≡ true) → withdrawn_within t n || withdrawn (row t n) ≡ true
      go (yes m) before =
          let same : n ≡ k = omega arith in
          or_in_right (withdrawn_within t n) (withdrawn (row t n)) (ap (λ i. withdrawn (row t i)) same ∙ e)
      go (no m) before = or_in_left (withdrawn_within t n) (withdrawn (row t n)) (before (omega arith))

  pub within_out : (n : ℕ) → withdrawn_within t n ≡ true → (k : ℕ) × (k < n) × (withdrawn (row t k) ≡ true)
  unfolding withdrawn_within
  within_out zero h = clash h refl
  within_out (suc n) h =
      ⊎_elim (λ e. let k = within_out n e in (k.0, omega (arith, k.1), k.2)) (λ e. (n, omega arith, e))
      (or_out (withdrawn_within t n) (withdrawn (row t n)) h)

  -- ---- Read out

  module _ (rows depth : ℕ) where
    pub read_out_out : read_out t rows depth ≡ true → (depth ≡ rows) ⊎ (withdrawn_within t depth ≡ true)
    unfolding read_out
    read_out_out h =
        ⊎_elim (λ e. inl (eqb-true depth rows e)) inr (or_out (eqb depth rows) (withdrawn_within t depth) h)

    pub unread_out : read_out t rows depth ≡ false → (depth ≡ rows → ⊥) × (withdrawn_within t depth ≡ false)
    unfolding read_out
    unread_out h =
        let both = or_none_out (eqb depth rows) (withdrawn_within t depth) h in
        (eqb-false depth rows both.0, both.1)

    -- a table with rows of which none is read is not read out
    pub unread_first : (rows ≡ 0 → ⊥) → eqb depth 0 ≡ true → read_out t rows depth ≡ false
    unfolding read_out withdrawn_within
    unread_first h k =
        let none : depth ≡ 0 = eqb-true depth 0 k in
        rw (none, ne_eqb 0 rows (λ e. h (sym e)))

    -- ---- Empty

    abbrev first_withdrawn : Bool
    first_withdrawn = ltb 0 depth && withdrawn (row t 0)

    pub empty_out : is_empty t rows depth ≡ true → (rows ≡ 0) ⊎ ((0 < depth) × (withdrawn (row t 0) ≡ true))
    unfolding is_empty
    empty_out h =
        ⊎_elim (λ e. inl (eqb-true rows 0 e))
        (λ e. let both = and_out (ltb 0 depth) (withdrawn (row t 0)) e in inr (ltb-true 0 depth both.0, both.1))
        (or_out (eqb rows 0) first_withdrawn h)

    pub live_out : is_empty t rows depth ≡ false → (rows ≡ 0 → ⊥) × (0 < depth → withdrawn (row t 0) ≡ true → ⊥)
    unfolding is_empty
    live_out h =
        let both = or_none_out (eqb rows 0) first_withdrawn h in (
          eqb-false rows 0 both.0,
          λ k e. clash (and_in (ltb 0 depth) (withdrawn (row t 0)) (lt-ltb 0 depth k) e) both.1,
        )

    -- a table that has rows and is read out was read
    pub read_out_some : (rows ≡ 0 → ⊥) → read_out t rows depth ≡ true → 0 < depth
    read_out_some live h =
        ⊎_elim (λ e. omega (arith, live)) (λ e. omega (arith, (within_out depth e).1)) (read_out_out h)

-- ---- Of rows that passed 6 and 7, scores fall, so the last one tells

module _ (t : Table) (n : ℕ) (fits : (i : ℕ) → i < n → RowFits t i) where
  score_falls : (i : ℕ) → suc i < n → (row t (suc i)).score ≤ (row t i).score
  score_falls i h =
      leb-true (row t (suc i)).score (row t i).score
      (subst₂ (λ x y. le_z x y ≡ true) (sym (score_kept t (suc i) (fits (suc i) h).range))
      (sym (score_kept t i (fits i (omega arith)).range)) (sym (order_next t i) ∙ (fits (suc i) h).order))

  pub scores_fall : (i j : ℕ) → i ≤ j → j < n → (row t j).score ≤ (row t i).score
  scores_fall i j h =
      le_ind (λ j. j < n → (row t j).score ≤ (row t i).score) (λ k. omega arith)
      (λ j m ih k. omega (arith, ih (omega arith), score_falls j k)) j h

  -- below a withdrawn row all are
  pub withdrawn_below : (i j : ℕ) → i ≤ j → j < n → withdrawn (row t i) ≡ true → withdrawn (row t j) ≡ true
  unfolding withdrawn
  withdrawn_below i j h k e =
      eq-eqb (row t j).score 0 (omega (arith, scores_fall i j h k, eqb-true (row t i).score 0 e))

  pub within_last : 0 < n → withdrawn_within t n ≡ withdrawn (row t (n - 1))
  within_last some = go (withdrawn (row t (n - 1))) refl (withdrawn_within t n) refl
    where
      go : (a : Bool) → withdrawn (row t (n - 1)) ≡ a → (b : Bool) → withdrawn_within t n ≡ b → withdrawn_within t n ≡ a
      go true x b y = within_in t n (n - 1) (omega arith) x
      go false x true y =
          let k = within_out t n y in
          clash (withdrawn_below k.0 (n - 1) (omega (arith, k.1)) (omega arith) k.2) x
      go false x false y = y

-- ---- A row of a legal table that is not withdrawn, numbered from 1

module _ (t : Table) (g : legal t ≡ true) (rows depth i : ℕ) (count : rows ≡ row_count t)
    (row_of : (1 ≤ i) × (i ≤ row_count t)) (live : withdrawn (row t (i - 1)) ≡ false) where
  below : (k : ℕ) → k ≤ i - 1 → withdrawn (row t k) ≡ true → ⊥
  below k h e =
      clash
      (withdrawn_below t (row_count t) (λ j m. (legal_out t g).rows j m) k (i - 1) h (omega (arith, row_of)) e) live

  -- stands above the depth of a table that is read out
  pub live_above : read_out t rows depth ≡ true → i ≤ depth
  live_above h =
      ⊎_elim (λ e. omega (arith, row_of)) (λ e. go (within_out t depth e) (dec_le i depth))
      (read_out_out t rows depth h)
    where
      go : (k : ℕ) × (k < depth) × (withdrawn (row t k) ≡ true) → Dec (i ≤ depth) → i ≤ depth
      go k (yes m) = m
      go k (no m) = absurd (below k.0 (omega (arith, k.1)) k.2)

  -- and in none that is empty
  pub live_never : is_empty t rows depth ≡ true → ⊥
  live_never h =
      ⊎_elim (λ e. omega (arith, row_of)) (λ e. below 0 (omega arith) e.1) (empty_out t rows depth h)
