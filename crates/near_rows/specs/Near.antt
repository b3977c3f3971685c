-- Rows of which none lies near, and the next that does. Assumes nothing.
use Rattle.std.specs.Prelude.{◌≡◌, refl, Bool, true, false, ℕ, ◌+◌, ◌≤◌, ◌<◌, eqb, ltb}
use Rattle.std.proofs.Common.{sym, subst, arith, eqb-true, ltb-true, ltb-false}
use Rattle.std.proofs.lemmas.Bool.{eqb-false}
use Rattle.rules.specs.Tables.{Table, Terms, row, row_count}

-- none of y's rows from row j to before row r lies near row i of x, rows counted from 0
abbrev pub NoneNear : Terms → Table → ℕ → Table → ℕ → ℕ → Type 0
NoneNear w x i y j r = (k : ℕ) → j ≤ k → k < r → w.near (row x i) (row y k) ≡ false

-- no row of x lies near a row of y
abbrev pub NoPair : Terms → Table → Table → Type 0
NoPair w x y = (i j : ℕ) → i < row_count x → j < row_count y → w.near (row x i) (row y j) ≡ false

-- none of the first i rows of x lies near one of the first m of y
abbrev pub NoneOf : Terms → Table → ℕ → Table → ℕ → Type 0
NoneOf w x i y m = (a : ℕ) → a < i → NoneNear w x a y 0 m

-- r is the first of y's first n rows from row j on that lies near row i of x, or n
pub record NextNear (w : Terms) (x : Table) (i : ℕ) (y : Table) (n j r : ℕ) : Type 0 where
  pub from : j ≤ r
  pub upto : r ≤ n
  pub none_before : NoneNear w x i y j r
  pub found : r < n → w.near (row x i) (row y r) ≡ true

-- what holds of rows j to before r, and of row r
pub row_more : (P : ℕ → Type 0) (j r : ℕ) → ((k : ℕ) → j ≤ k → k < r → P k) → P r
    → (k : ℕ) → j ≤ k → k < r + 1 → P k
row_more P j r all here k h l = go (eqb k r) refl
  where
    go : (t : Bool) → eqb k r ≡ t → P k
    go true e = subst P (sym (eqb-true k r e)) here
    go false e = let n = eqb-false k r e in all k h (omega (arith, l, n))

module _ (w : Terms) (x : Table) (i : ℕ) (y : Table) (j r : ℕ) (none : NoneNear w x i y j r) where
  -- one row more that does not lie near
  pub none_more : w.near (row x i) (row y r) ≡ false → NoneNear w x i y j (r + 1)
  none_more = row_more (λ k. w.near (row x i) (row y k) ≡ false) j r none

  -- more rows of which none does
  pub none_on : (s : ℕ) → NoneNear w x i y r s → NoneNear w x i y j s
  none_on s more k h l = go (ltb k r) refl
    where
      go : (t : Bool) → ltb k r ≡ t → w.near (row x i) (row y k) ≡ false
      go true e = none k h (ltb-true k r e)
      go false e = more k (ltb-false k r e) l

-- one row of x more
pub none_of_more : (w : Terms) (x : Table) (i : ℕ) (y : Table) (m : ℕ) → NoneOf w x i y m → NoneNear w x i y 0 m
    → NoneOf w x (i + 1) y m
none_of_more w x i y m none here a h = go (eqb a i) refl
  where
    go : (t : Bool) → eqb a i ≡ t → NoneNear w x a y 0 m
    go true e = subst (λ b. NoneNear w x b y 0 m) (sym (eqb-true a i e)) here
    go false e = let n = eqb-false a i e in none a (omega (arith, h, n))
