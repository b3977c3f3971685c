-- The squared gaps of a rectangle in lent numbers and that of a block's first rows, added up side by side. Assumes
-- nothing.
use mathlib.Core.Path.{◌≡◌, sym, ap₂, ◌∙◌}
use mathlib.Core.Bool.{true, false}
use mathlib.Core.List.{List}
use Prim.Native.Nat.{ℕ, ◌+◌, ◌*◌, ◌-◌, ◌≤◌, ◌<◌}
use native.Mathlib.Omega.{arith}
use native.Mathlib.Numerals.{add-one}
use lib.Dec.{ltb}
use lib.IntN.{ℤ}
use lib.ListN.{get_or, take}
use borrow.Author.Tests.{lt-ltb, le-ltb, ltb-false}
use Rattle.rules.specs.declared.Query.{Query}
use Rattle.rules.specs.declared.Side.{Side}
use Rattle.rules.specs.Tables.{Table, row_count, first_rows, squares, side, rectangle}
use Rattle.rules.specs.Tables.{tolerance, lowered_gap, far_apart}
use Rattle.rules.specs.Widths.{has_rows}
use Rattle.rules.specs.Squares.{square_at, squares_more, squares_first, squares_all}
use Rattle.rules.proofs.Rectangles.{no_side, apart_square, far_first}
use Rattle.sides.specs.Sides.{side_in, sides_in, first_sides}
use Rattle.sides.specs.SideLaws.{in_length, in_at, first_length, first_at, first_rectangle, all_first}

-- gaps are lowered by so much
module _ (less : ℕ) (l : List ℤ) (t : Table) (m : ℕ) where
  abbrev x : List Side
  x = sides_in t.coordinates l

  abbrev y : List Side
  y = first_sides t m

  -- by the first k sides, and by all
  abbrev pub seen : ℕ → ℕ
  seen k = squares (lowered_gap less) (take k x) (take k y)

  abbrev pub all_squares : ℕ
  all_squares = squares (lowered_gap less) x y

  pub next : (k g : ℕ) → k < t.coordinates → g ≡ lowered_gap less (side_in l k) (side t k (m - 1))
      → seen (k + 1) ≡ seen k + g * g
  unfolding square_at
  next k g h e =
      let here : g ≡ lowered_gap less (get_or x k no_side) (get_or y k no_side) =
      e ∙ sym (ap₂ (lowered_gap less) (in_at t.coordinates l k h) (first_at t m k h)) in
      rw (add-one, here)
      (squares_more (lowered_gap less) no_side x y k (omega (arith, in_length t.coordinates l))
      (omega (arith, first_length t m)))

  -- too far by some sides is too far
  pub too_far : (k radius : ℕ) → radius * radius < seen k → true ≡ ltb (radius * radius) all_squares
  too_far k radius h = sym
      (lt-ltb (radius * radius) all_squares (omega (arith, squares_first (lowered_gap less) x y k)))

  pub near_enough : (k radius : ℕ) → t.coordinates ≤ k → seen k ≤ radius * radius
      → false ≡ ltb (radius * radius) all_squares
  near_enough k radius h j =
      let whole = squares_all (lowered_gap less) x y k (omega (arith, in_length t.coordinates l))
      (omega (arith, first_length t m)) in
      sym (le-ltb (radius * radius) all_squares (omega arith))

-- of a table whose rectangle stands in the numbers
module _ (q : Query) (u : Table) (l : List ℤ) (t : Table) (stands : rectangle u ≡ sides_in t.coordinates l) where
  abbrev r : ℕ
  r = q.radius * q.radius

  abbrev lowered : Side → Side → ℕ
  lowered = lowered_gap (tolerance q)

  pub by_all : ltb r (all_squares (tolerance q) l t (row_count t)) ≡ far_apart q u t
  unfolding far_apart
  by_all = ap₂ (λ x y. ltb r (squares lowered x y)) (sym stands) (sym (all_first t))

  -- where the first rows are not too far, the block is not
  pub by_first : (m : ℕ) → 0 < m → m ≤ row_count t → ltb r (all_squares (tolerance q) l t m) ≡ false
      → false ≡ far_apart q u t
  unfolding far_apart
  by_first m some h e =
      let same : apart_square (tolerance q) u (first_rows m t) ≡ all_squares (tolerance q) l t m =
      ap₂ (squares lowered) stands (first_rectangle t m some (has_rows t m h)) in
      let near : all_squares (tolerance q) l t m ≤ r = ltb-false r (all_squares (tolerance q) l t m) e in
      let less = far_first (tolerance q) u t m some h in
      sym (le-ltb r (apart_square (tolerance q) u t) (omega arith))
