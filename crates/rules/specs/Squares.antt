-- Laws of squares, whatever is squared and however many places there are. Assumes nothing.
use Rattle.std.specs.Prelude.{◌≡◌, length, get_or, take}
use Rattle.std.proofs.Math.Path.{refl, ap}
use Rattle.std.proofs.Common.{ap₂, take_all}
use mathlib.Core.List.{List, [], ◌∷◌}
use Prim.Native.Nat.{ℕ, zero, suc, ◌+◌, ◌*◌, ◌≤◌, ◌<◌}
use Rattle.std.proofs.Math.Nat.{suc-mul, mul-le-mul}
use native.Mathlib.Omega.{arith}
use Rattle.rules.specs.Tables.{squares}

-- what two lists differ by at place i, from 0 on, squared; d stands past an end
unfoldable pub square_at : {A : Type 0} → (A → A → ℕ) → A → List A → List A → ℕ → ℕ
square_at f d k l i = f (get_or k i d) (get_or l i d) * f (get_or k i d) (get_or l i d)

module _ {A : Type 0} (f : A → A → ℕ) where
  -- a list differs from itself by nothing
  pub squares_same : ((x : A) → f x x ≡ 0) → (l : List A) → squares f l l ≡ 0
  unfolding squares
  squares_same h [] = refl
  squares_same h (x ∷ l) = rw (h x, squares_same h l)

  -- one place more
  pub squares_more : (d : A) (k l : List A) (i : ℕ) → i < length k → i < length l
      → squares f (take (suc i) k) (take (suc i) l) ≡ squares f (take i k) (take i l) + square_at f d k l i
  unfolding squares square_at
  squares_more d [] l i h j = absurd (omega arith)
  squares_more d (x ∷ k) [] i h j = absurd (omega arith)
  squares_more d (x ∷ k) (y ∷ l) zero h j = omega arith
  squares_more d (x ∷ k) (y ∷ l) (suc i) h j =
      let e = squares_more d k l i (omega arith) (omega arith) in
      omega arith

  -- the first places differ by no more than all
  pub squares_first : (k l : List A) (i : ℕ) → squares f (take i k) (take i l) ≤ squares f k l
  unfolding squares
  squares_first k l zero = omega arith
  squares_first [] l (suc i) = omega arith
  squares_first (x ∷ k) [] (suc i) = omega arith
  squares_first (x ∷ k) (y ∷ l) (suc i) = let e = squares_first k l i in omega arith

  -- one place alone, too
  pub squares_place : (d : A) (k l : List A) (i : ℕ) → i < length k → i < length l
      → square_at f d k l i ≤ squares f k l
  unfolding squares square_at
  squares_place d [] l i h j = absurd (omega arith)
  squares_place d (x ∷ k) [] i h j = absurd (omega arith)
  squares_place d (x ∷ k) (y ∷ l) zero h j = omega arith
  squares_place d (x ∷ k) (y ∷ l) (suc i) h j =
      let e = squares_place d k l i (omega arith) (omega arith) in
      omega arith

  -- so many squares, none above m
  pub squares_most : (d : A) (m : ℕ) (k l : List A) → ((i : ℕ) → i < length k → square_at f d k l i ≤ m)
      → squares f k l ≤ length k * m
  unfolding squares square_at
  squares_most d m [] l h = omega arith
  squares_most d m (x ∷ k) [] h = omega arith
  squares_most d m (x ∷ k) (y ∷ l) h =
      let first = h 0 (omega arith) in
      let rest = squares_most d m k l (λ i j. h (suc i) (omega arith)) in
      omega (arith, suc-mul (length k) m)

  pub squares_all : (k l : List A) (i : ℕ) → length k ≤ i → length l ≤ i
      → squares f (take i k) (take i l) ≡ squares f k l
  squares_all k l i h j = ap₂ (squares f) (take_all i k h) (take_all i l j)

  -- the lists the other way round
  pub squares_turned : (k l : List A) → squares f k l ≡ squares (λ x y. f y x) l k
  unfolding squares
  squares_turned [] [] = refl
  squares_turned [] (y ∷ l) = refl
  squares_turned (x ∷ k) [] = refl
  squares_turned (x ∷ k) (y ∷ l) = ap (λ n. f x y * f x y + n) (squares_turned k l)

-- functions that differ by nothing give the same squares
pub squares_each : {A : Type 0} (f g : A → A → ℕ) → ((x y : A) → f x y ≡ g x y) → (k l : List A)
    → squares f k l ≡ squares g k l
squares_each f g e k l = ap (λ h. squares h k l) (λ i x y. e x y i)

-- a law of each place is a law of the lists
module _ {A B : Type 0} (f : A → A → ℕ) (g : B → B → ℕ) (d : A) (e : B) where
  pub square_le : (k l : List A) (m n : List B) (i : ℕ)
      → f (get_or k i d) (get_or l i d) ≤ g (get_or m i e) (get_or n i e) → square_at f d k l i ≤ square_at g e m n i
  unfolding square_at
  square_le k l m n i h = mul-le-mul h h

  pub squares_le : (k l : List A) (m n : List B) → length k ≤ length m → length l ≤ length n
      → ((i : ℕ) → i < length k → i < length l → square_at f d k l i ≤ square_at g e m n i)
      → squares f k l ≤ squares g m n
  unfolding squares square_at
  squares_le [] l m n a b h = omega arith
  squares_le (x ∷ k) [] m n a b h = omega arith
  squares_le (x ∷ k) (y ∷ l) [] n a b h = absurd (omega arith)
  squares_le (x ∷ k) (y ∷ l) (z ∷ m) [] a b h = absurd (omega arith)
  squares_le (x ∷ k) (y ∷ l) (z ∷ m) (w ∷ n) a b h =
      let first = h 0 (omega arith) (omega arith) in
      let rest = squares_le k l m n (omega arith) (omega arith) (λ i p q. h (suc i) (omega arith) (omega arith)) in
      omega arith
