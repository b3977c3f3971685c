-- The rectangle of a block's rows, how far two of them lie apart, and that no pair of blocks skipped for shade has a
-- qualifying pair: for any number of coordinates, any tables, any tolerances and any radius. Assumes nothing.
use Rattle.std.specs.Prelude.{◌≡◌, refl, Bool, true, false, cond, [], ◌⊎◌, ◌↔◌, ltb, ℤ, pos, length, get_or}
use Rattle.std.proofs.Common.{sym, ap₂, subst, subst₂, ◌∙◌, inl, inr}
use Rattle.std.proofs.Math.Path.{ap}
use Prim.Native.Nat.{ℕ, zero, suc, ◌+◌, ◌*◌, ◌-◌, ◌≤◌, ◌<◌}
use native.Mathlib.Omega.{arith}
use Rattle.std.proofs.Math.Decide.{le_ind}
use Rattle.std.specs.Int.Signed.{le_z, lt_z}
use borrow.Author.Tests.{lt-ltb, ltb-true, lt-leb}
use Rattle.lists.specs.Parts.{length_map_range, map_range_at}
use Rattle.rules.specs.declared.Meaning.{Meaning}
use Rattle.rules.specs.declared.Meaning.TheVariants.{Possibly, Surely}
use Rattle.rules.specs.declared.Query.{Query}
use Rattle.rules.specs.declared.Side.{Side}
use Rattle.rules.specs.Tables.{Table, num, row_count, HasRows, shade_at, row, first_rows, gap, squares}
use Rattle.rules.specs.Tables.{tolerance, meant, qualifies, side, rectangle, side_gap, lowered_gap, far_apart}
use Rattle.rules.specs.Tables.{rows_qualify, terms, Block, qualifying}
use Rattle.rules.specs.Widths.{has_row, has_rows, shade_length, shade_num, first_count, first_num}
use Rattle.rules.specs.Qualifying.{places_far, none_qualifying}
use Rattle.rules.specs.Squares.{square_le, squares_le, squares_turned}
use Rattle.rules.specs.Whole.{AtMost, Below, apart, apart_le, gap_sym, gap_same, le_is, not_le_is}
use Rattle.rules.specs.Whole.{lt_is, not_lt_is}

-- ---- The side of some rows: it holds their coordinates, and is the smallest that does

-- low ≤ x ≤ high
abbrev pub Spans : Side → ℤ → Type 0
Spans s x = AtMost s.low x 0 × AtMost x s.high 0

-- the first side holds all that the second does
abbrev pub Covers : Side → Side → Type 0
Covers s o = AtMost s.low o.low 0 × AtMost o.high s.high 0

module _ (t : Table) (k : ℕ) where
  -- coordinate k of row i + 1
  abbrev at : ℕ → ℤ
  at i = num t i (k + 2)

  -- one row more
  side_next : (m : ℕ) → Spans (side t k (suc m)) (at (suc m)) × Covers (side t k (suc m)) (side t k m)
  unfolding side
  side_next m = ((low.0, high.0), (low.1, high.1))
    where
      s : Side
      s = side t k m

      x : ℤ
      x = at (suc m)

      low_by : (b : Bool) → le_z s.low x ≡ b
          → AtMost (cond b s.low x) x 0 × AtMost (cond b s.low x) s.low 0
      low_by true e = (le_is s.low x e, omega arith)
      low_by false e = omega (arith, not_le_is s.low x e)

      low : AtMost (side t k (suc m)).low x 0 × AtMost (side t k (suc m)).low s.low 0
      low = low_by (le_z s.low x) refl

      high_by : (b : Bool) → le_z x s.high ≡ b
          → AtMost x (cond b s.high x) 0 × AtMost s.high (cond b s.high x) 0
      high_by true e = (le_is x s.high e, omega arith)
      high_by false e = omega (arith, not_le_is x s.high e)

      high : AtMost x (side t k (suc m)).high 0 × AtMost s.high (side t k (suc m)).high 0
      high = high_by (le_z x s.high) refl

  -- of more rows, no smaller
  pub side_grows : (m n : ℕ) → m ≤ n → Covers (side t k n) (side t k m)
  side_grows m n h =
      le_ind (λ (n : ℕ). Covers (side t k n) (side t k m)) (omega arith, omega arith)
      (λ n l c. let d = (side_next n).1 in (omega (arith, c), omega (arith, c))) n h

  -- coordinate k of each of the first m + 1 rows
  own : (i : ℕ) → Spans (side t k i) (at i)
  unfolding side
  own zero = (omega arith, omega arith)
  own (suc i) = (side_next i).0

  pub side_holds : (m i : ℕ) → i ≤ m → Spans (side t k m) (at i)
  side_holds m i h =
      let a = side_grows i m h in
      let b = own i in
      (omega arith, omega arith)

  pub side_smallest : (s : Side) (m : ℕ) → ((i : ℕ) → i ≤ m → Spans s (at i)) → Covers s (side t k m)
  unfolding side
  side_smallest s zero h = h 0 (omega arith)
  side_smallest s (suc m) h =
      let less = side_smallest s m (λ i l. h i (omega arith)) in
      (low less (le_z o.low x), high less (le_z x o.high))
    where
      o : Side
      o = side t k m

      x : ℤ
      x = at (suc m)

      low : Covers s o → (b : Bool) → AtMost s.low (cond b o.low x) 0
      low less true = less.0
      low less false = (h (suc m) (omega arith)).0

      high : Covers s o → (b : Bool) → AtMost (cond b o.high x) s.high 0
      high less true = less.1
      high less false = (h (suc m) (omega arith)).1

-- tables with the same coordinate k in the rows looked at
pub side_same : (t u : Table) (k m : ℕ) → ((i : ℕ) → i ≤ m → num t i (k + 2) ≡ num u i (k + 2))
    → side t k m ≡ side u k m
unfolding side
side_same t u k zero h = ap (λ x. record { low = x; high = x }) (h 0 (omega arith))
side_same t u k (suc m) h =
    ap₂
    (λ (s : Side) (x : ℤ). record { low = cond (le_z s.low x) s.low x; high = cond (le_z x s.high) s.high x })
    (side_same t u k m (λ i l. h i (omega arith))) (h (suc m) (omega arith))

-- ---- The gap of two sides

-- n is 0 where the sides overlap, else the gap of their nearer ends
abbrev pub GapOf : Side → Side → ℕ → Type 0
GapOf s o n =
    (Below s.high o.low × (n ≡ gap s.high o.low))
    ⊎ ((Below o.high s.low × (n ≡ gap o.high s.low))
    ⊎ ((AtMost o.low s.high 0 × AtMost s.low o.high 0) × (n ≡ 0)))

pub gap_is : (s o : Side) → GapOf s o (side_gap s o)
unfolding side_gap
gap_is s o = go (lt_z s.high o.low) (lt_z o.high s.low) refl refl
  where
    go : (a b : Bool) → lt_z s.high o.low ≡ a → lt_z o.high s.low ≡ b
        → GapOf s o (cond a (gap s.high o.low) (cond b (gap o.high s.low) 0))
    go true b e f = inl (lt_is s.high o.low e, refl)
    go false true e f = inr (inl (lt_is o.high s.low f, refl))
    go false false e f = inr (inr ((not_lt_is s.high o.low e, not_lt_is o.high s.low f), refl))

-- two numbers lie no nearer than the sides that hold them
pub gap_le : (s o : Side) (x y : ℤ) → Spans s x → Spans o y → side_gap s o ≤ gap x y
gap_le s o x y h k = go (gap_is s o)
  where
    go : GapOf s o (side_gap s o) → side_gap s o ≤ gap x y
    go (inl (b, e)) =
        let d = apart x y in
        let l = apart_le s.high o.low (gap x y) (omega arith) (omega arith) in
        omega arith
    go (inr (inl (b, e))) =
        let d = apart x y in
        let l = apart_le o.high s.low (gap x y) (omega arith) (omega arith) in
        omega arith
    go (inr (inr (b, e))) = omega arith

-- the low end is not above the high one
abbrev pub LowFirst : Side → Type 0
LowFirst s = AtMost s.low s.high 0

-- and some two lie just as near
pub gap_reached : (s o : Side) → LowFirst s → LowFirst o
    → (x : ℤ) × (y : ℤ) × Spans s x × Spans o y × (side_gap s o ≡ gap x y)
gap_reached s o h k = go (gap_is s o)
  where
    meeting : AtMost o.low s.high 0 → AtMost s.low o.high 0 → side_gap s o ≡ 0 → (b : Bool)
        → le_z s.low o.low ≡ b → (x : ℤ) × (y : ℤ) × Spans s x × Spans o y × (side_gap s o ≡ gap x y)
    meeting a c e true l =
        let m = le_is s.low o.low l in
        (o.low, o.low, (omega arith, omega arith), (omega arith, omega arith), e ∙ sym (gap_same o.low))
    meeting a c e false l =
        let m = not_le_is s.low o.low l in
        (s.low, s.low, (omega arith, omega arith), (omega arith, omega arith), e ∙ sym (gap_same s.low))

    go : GapOf s o (side_gap s o) → (x : ℤ) × (y : ℤ) × Spans s x × Spans o y × (side_gap s o ≡ gap x y)
    go (inl (b, e)) = (s.high, o.low, (omega arith, omega arith), (omega arith, omega arith), e)
    go (inr (inl (b, e))) =
        let turned = gap_sym o.high s.low in
        (s.low, o.high, (omega arith, omega arith), (omega arith, omega arith), e ∙ turned)
    go (inr (inr (b, e))) = meeting b.0 b.1 e (le_z s.low o.low) refl

-- sides that hold more lie no farther apart
pub gap_covered : (s o u v : Side) → LowFirst u → LowFirst v → Covers s u → Covers o v → side_gap s o ≤ side_gap u v
gap_covered s o u v h k c d =
    let r = gap_reached u v h k in
    let a = r.2 in
    let b = r.3 in
    omega (arith, r.4, gap_le s o r.0 r.1 (omega arith, omega arith) (omega arith, omega arith))

turned_most : (s o : Side) → LowFirst s → LowFirst o → side_gap s o ≤ side_gap o s
turned_most s o h k =
    let r = gap_reached o s k h in
    omega (arith, r.4, gap_sym r.0 r.1, gap_le s o r.1 r.0 r.3 r.2)

pub gap_turned : (s o : Side) → LowFirst s → LowFirst o → side_gap s o ≡ side_gap o s
gap_turned s o h k = omega (arith, turned_most s o h k, turned_most o s k h)

-- ---- The rectangle of a block's rows

-- stands past the last side
abbrev pub no_side : Side
no_side = record { low = pos 0; high = pos 0 }

-- side k of a rectangle
abbrev pub side_of : Table → ℕ → Side
side_of t k = get_or (rectangle t) k no_side

module _ (t : Table) where
  pub rectangle_length : length (rectangle t) ≡ t.coordinates
  unfolding rectangle
  rectangle_length = length_map_range (λ k. side t k (row_count t - 1)) 0 t.coordinates

  module _ (k : ℕ) (c : k < t.coordinates) where
    pub rectangle_at : side_of t k ≡ side t k (row_count t - 1)
    unfolding rectangle
    rectangle_at =
        let e : 0 + k ≡ k = omega arith in
        map_range_at (λ k. side t k (row_count t - 1)) 0 t.coordinates k no_side c
        ∙ ap (λ j. side t j (row_count t - 1)) e

    -- it holds every row, withdrawn or not
    pub rectangle_holds : (i : ℕ) → i < row_count t → Spans (side_of t k) (get_or (shade_at t i) k (pos 0))
    rectangle_holds i h =
        subst₂ Spans (sym rectangle_at) (sym (shade_num t i k c)) (side_holds t k (row_count t - 1) i (omega arith))

    -- and no smaller one does
    pub rectangle_smallest : (s : Side) → 0 < row_count t
        → ((i : ℕ) → i < row_count t → Spans s (get_or (shade_at t i) k (pos 0))) → Covers s (side_of t k)
    rectangle_smallest s some h =
        subst (Covers s) (sym rectangle_at)
        (side_smallest t k s (row_count t - 1) (λ i l. subst (Spans s) (shade_num t i k c) (h i (omega arith))))

    rectangle_ordered : LowFirst (side_of t k)
    rectangle_ordered =
        let a = side_holds t k (row_count t - 1) 0 (omega arith) in
        subst LowFirst (sym rectangle_at) (omega arith)

-- a side of the first rows' rectangle
pub first_side : (t : Table) (k : ℕ) → k < t.coordinates → (m : ℕ) → 0 < m → HasRows t m
    → side_of (first_rows m t) k ≡ side t k (m - 1)
first_side t k c m some h =
    rectangle_at (first_rows m t) k c
    ∙ ap (λ n. side (first_rows m t) k (n - 1)) (first_count t m h)
    ∙ side_same (first_rows m t) t k (m - 1) (λ i l. first_num t m i (k + 2) (omega arith) (omega arith))

-- fewer rows make no larger one
pub rectangle_covers : (t : Table) (k : ℕ) → k < t.coordinates → (m : ℕ) → 0 < m → m ≤ row_count t
    → Covers (side_of t k) (side_of (first_rows m t) k)
rectangle_covers t k c m some h =
    subst₂ Covers (sym (rectangle_at t k c)) (sym (first_side t k c m some (has_rows t m h)))
    (side_grows t k (m - 1) (row_count t - 1) (omega arith))

-- ---- Two rectangles

-- what holds of two sides and of numbers that they hold, holds of the rectangles and of every two rows
module _ (f : Side → Side → ℕ) (g : ℤ → ℤ → ℕ)
    (law : (s o : Side) (x y : ℤ) → Spans s x → Spans o y → f s o ≤ g x y) where
  pub rectangles_rows : (x y : Table) (i j : ℕ) → i < row_count x → j < row_count y
      → squares f (rectangle x) (rectangle y) ≤ squares g (shade_at x i) (shade_at y j)
  rectangles_rows x y i j h k =
      squares_le f g no_side (pos 0) (rectangle x) (rectangle y) (shade_at x i) (shade_at y j)
      (omega (arith, rectangle_length x, shade_length x i (has_row x i h)))
      (omega (arith, rectangle_length y, shade_length y j (has_row y j k)))
      (λ n a b.
      square_le f g no_side (pos 0) (rectangle x) (rectangle y) (shade_at x i) (shade_at y j) n
      (law (side_of x n) (side_of y n) (get_or (shade_at x i) n (pos 0)) (get_or (shade_at y j) n (pos 0))
      (rectangle_holds x n (omega (arith, rectangle_length x)) i h)
      (rectangle_holds y n (omega (arith, rectangle_length y)) j k)))

-- what holds of sides and of smaller ones, holds of the rectangles and of those of the second block's first rows
module _ (f : Side → Side → ℕ)
    (law : (s o u v : Side) → LowFirst u → LowFirst v → Covers s u → Covers o v → f s o ≤ f u v) where
  pub rectangles_first : (x y : Table) (m : ℕ) → 0 < m → m ≤ row_count y
      → squares f (rectangle x) (rectangle y) ≤ squares f (rectangle x) (rectangle (first_rows m y))
  rectangles_first x y m some h =
      squares_le f f no_side no_side (rectangle x) (rectangle y) (rectangle x) (rectangle first) (omega arith)
      (omega (arith, rectangle_length y, rectangle_length first))
      (λ n a b.
      let c : n < x.coordinates = omega (arith, rectangle_length x) in
      let d : n < y.coordinates = omega (arith, rectangle_length y) in
      square_le f f no_side no_side (rectangle x) (rectangle y) (rectangle x) (rectangle first) n
      (law (side_of x n) (side_of y n) (side_of x n) (side_of first n) (rectangle_ordered x n c)
      (rectangle_ordered first n d) (omega arith, omega arith) (rectangle_covers y n d m some h)))
    where
      first : Table
      first = first_rows m y

-- ---- Blocks skipped for shade

-- a gap that is lowered by the tolerances: no two numbers of the sides count as nearer, by either meaning
lowered_le : (m : Meaning) (t : ℕ) (s o : Side) (x y : ℤ) → Spans s x → Spans o y → lowered_gap t s o ≤ meant m t x y
lowered_le Surely t s o x y h k = omega (arith, gap_le s o x y h k)
lowered_le Possibly t s o x y h k = omega (arith, gap_le s o x y h k)

module _ (t : ℕ) where
  -- the square that blocks are skipped by
  abbrev pub apart_square : Table → Table → ℕ
  apart_square x y = squares (lowered_gap t) (rectangle x) (rectangle y)

  lowered_covered : (s o u v : Side) → LowFirst u → LowFirst v → Covers s u → Covers o v
      → lowered_gap t s o ≤ lowered_gap t u v
  lowered_covered s o u v h k c d = omega (arith, gap_covered s o u v h k c d)

  -- no pair of rows counts as nearer than the rectangles
  pub far_least : (m : Meaning) (x y : Table) (i j : ℕ) → i < row_count x → j < row_count y
      → apart_square x y ≤ squares (meant m t) (shade_at x i) (shade_at y j)
  far_least m = rectangles_rows (lowered_gap t) (meant m t) (lowered_le m t)

  -- the rectangle of a block's first rows lies no nearer than that of all
  pub far_first : (x y : Table) (m : ℕ) → 0 < m → m ≤ row_count y
      → apart_square x y ≤ apart_square x (first_rows m y)
  far_first = rectangles_first (lowered_gap t) lowered_covered

module _ (q : Query) (x y : Table) where
  pub far_is : (far_apart q x y ≡ true) ↔ (q.radius * q.radius < apart_square (tolerance q) x y)
  unfolding far_apart
  far_is =
      let r = q.radius * q.radius in
      (ltb-true r (apart_square (tolerance q) x y), lt-ltb r (apart_square (tolerance q) x y))

  -- no qualifying pair is ever in them
  pub far_none : far_apart q x y ≡ true → (i j : ℕ) → i < row_count x → j < row_count y
      → qualifies q (shade_at x i) (shade_at y j) ≡ false
  unfolding qualifies
  far_none e i j h k =
      lt-leb (squares (meant q.meaning (tolerance q)) (shade_at x i) (shade_at y j)) (q.radius * q.radius)
      (omega (arith, far_is.0 e, far_least (tolerance q) q.meaning x y i j h k))

  pub far_rows : far_apart q x y ≡ true → (i j : ℕ) → i < row_count x → j < row_count y
      → rows_qualify q (row x i) (row y j) ≡ false
  unfolding row
  far_rows e i j h k = places_far q (row x i) (row y j) (far_none e i j h k)

pub far_qualifying : (q : Query) (x y : Block) → (terms q).far x.rows y.rows ≡ true → qualifying (terms q) x y ≡ []
far_qualifying q x y e = none_qualifying (terms q) x y (far_rows q x.rows y.rows e)

-- ---- Field and trim exchanged

turned_le : (t : ℕ) (x y : Table) → apart_square t x y ≤ apart_square t y x
turned_le t x y =
    let turned : Side → Side → ℕ = λ s o. lowered_gap t o s in
    subst (λ n. apart_square t x y ≤ n)
    (sym (squares_turned (lowered_gap t) (rectangle y) (rectangle x)))
    (squares_le (lowered_gap t) turned no_side no_side (rectangle x) (rectangle y) (rectangle x) (rectangle y)
    (omega arith) (omega arith)
    (λ n a b.
    square_le (lowered_gap t) turned no_side no_side (rectangle x) (rectangle y) (rectangle x) (rectangle y) n
    (let l = turned_most (side_of x n) (side_of y n) (rectangle_ordered x n (omega (arith, rectangle_length x)))
    (rectangle_ordered y n (omega (arith, rectangle_length y))) in omega arith)))

pub far_turned : (q : Query) (x y : Table) → far_apart q x y ≡ far_apart q y x
unfolding far_apart
far_turned q x y =
    let t = tolerance q in
    let e : apart_square t x y ≡ apart_square t y x = omega (arith, turned_le t x y, turned_le t y x) in
    ap (ltb (q.radius * q.radius)) e
