-- What others need of the width of a row; each law holds whatever the width. Assumes nothing.
use Rattle.std.specs.Prelude.{◌≡◌, List, [], ◌∷◌, ℕ, zero, suc, ◌+◌, ◌*◌, ◌-◌, ◌/◌, ◌%◌, ◌≤◌, ◌<◌, ℤ, pos, length}
use Rattle.std.specs.Prelude.{get_or, take, drop}
use Rattle.std.proofs.Common.{sym, ap, ◌∙◌, mul-le-mul_left, div-le_self, mul_comm, suc-mul, div-lt_iff_lt-mul}
use Rattle.std.proofs.Common.{le-div_iff_mul-le, arith, length-take, length-drop, get_or-take, get_or-drop, take_all}
use Rattle.std.proofs.Common.{take-take, drop-drop}
use Rattle.std.proofs.Math.Nat.{mul-div-le, div-add-mod, mul-div_cancel_left}
use Rattle.std.proofs.Math.Seq.{take-nil}
use Rattle.rules.specs.Tables.{Table, table, width, num, row_count, HasRow, HasRows, first_rows, after_rows, part}
use Rattle.rules.specs.Tables.{shade_at}

-- one row more than i rows
pub next_row : (w i m : ℕ) → i < m → w * i + w ≤ w * m
next_row w i m h = omega (arith, mul-le-mul_left w h)

pub count_most : (t : Table) → row_count t ≤ length t.numbers
count_most t = div-le_self (length t.numbers) (width t.coordinates)

pub rows_less : (t : Table) (k m : ℕ) → k ≤ m → HasRows t m → HasRows t k
rows_less t k m h l = omega (arith, mul-le-mul_left (width t.coordinates) h)

pub rows_row : (t : Table) (i m : ℕ) → i < m → HasRows t m → HasRow t i
rows_row t i m h k = omega (arith, next_row (width t.coordinates) i m h)

pub has_rows : (t : Table) (m : ℕ) → m ≤ row_count t → HasRows t m
has_rows t m h =
    omega (arith, mul-le-mul_left (width t.coordinates) h, mul-div-le (length t.numbers) (width t.coordinates))

pub has_row : (t : Table) (i : ℕ) → i < row_count t → HasRow t i
has_row t i h = rows_row t i (row_count t) h (has_rows t (row_count t) (omega arith))

-- and it has no other
pub row_below : (t : Table) (i : ℕ) → HasRow t i → i < row_count t
row_below t i h =
    (le-div_iff_mul-le {k = width t.coordinates} {x = suc i} {y = length t.numbers} (omega arith)).1 (omega arith)

-- so many numbers are so many rows, and no number more
pub rows_count : (t : Table) (m : ℕ) → length t.numbers ≡ width t.coordinates * m → row_count t ≡ m
rows_count t m h =
    ap (λ (k : ℕ). k / width t.coordinates) h ∙ mul-div_cancel_left m {n = width t.coordinates} (omega arith)

pub rows_rest : (t : Table) → length t.numbers % width t.coordinates ≡ 0
    → width t.coordinates * row_count t ≡ length t.numbers
rows_rest t h = omega (arith, div-add-mod (length t.numbers) (width t.coordinates))

pub no_rest : (t : Table) → width t.coordinates * row_count t ≡ length t.numbers
    → length t.numbers % width t.coordinates ≡ 0
no_rest t h = omega (arith, div-add-mod (length t.numbers) (width t.coordinates))

-- a row's shade has as many coordinates as its table's card
pub shade_length : (t : Table) (i : ℕ) → HasRow t i → length (shade_at t i) ≡ t.coordinates
shade_length t i h = simp (length-take, length-drop) (omega arith)

-- coordinate k of a row's shade
pub shade_num : (t : Table) (i k : ℕ) → k < t.coordinates → get_or (shade_at t i) k (pos 0) ≡ num t i (k + 2)
shade_num t i k h =
    let o = width t.coordinates * i + 2 in
    let e : o + k ≡ width t.coordinates * i + (k + 2) = omega arith in
    get_or-take t.coordinates (drop o t.numbers) k (pos 0) h
    ∙ get_or-drop o t.numbers k (pos 0)
    ∙ ap (λ (p : ℕ). get_or t.numbers p (pos 0)) e

drop_take : (o k : ℕ) (l : List ℤ) → o ≤ k → drop o (take k l) ≡ take (k - o) (drop o l)
drop_take zero k l h = let e : k ≡ k - 0 = omega arith in ap (λ (m : ℕ). take m l) e
drop_take (suc o) zero l h = absurd (omega arith)
drop_take (suc o) (suc k) [] h = sym (take-nil (suc k - suc o))
drop_take (suc o) (suc k) (x ∷ l) h =
    let e : k - o ≡ suc k - suc o = omega arith in
    drop_take o k l (omega arith) ∙ ap (λ (m : ℕ). take m (drop o l)) e

-- a part of a part, and of a front
cut : (b k a m : ℕ) (l : List ℤ) → b + k ≤ m → take k (drop b (take m (drop a l))) ≡ take k (drop (a + b) l)
cut b k a m l h =
    ap (take k) (drop_take b m (drop a l) (omega arith) ∙ ap (take (m - b)) (drop-drop b a l))
    ∙ take-take k (m - b) (drop (a + b) l) (omega arith)

-- rows a + 1 to a + m
module _ (t : Table) (a m : ℕ) where
  abbrev w : ℕ
  w = width t.coordinates

  pub part_length_lem : HasRows t (a + m) → length (part t a m).numbers ≡ w * m
  part_length_lem h = simp (length-take, length-drop) (omega arith)

  pub part_count : HasRows t (a + m) → row_count (part t a m) ≡ m
  part_count h = rows_count (part t a m) m (part_length_lem h)

  -- and never more
  pub part_most : row_count (part t a m) ≤ m
  part_most =
      let few : length (part t a m).numbers ≤ w * m = simp (length-take, length-drop) (omega arith) in
      let more : length (part t a m).numbers < suc m * w = omega (arith, mul_comm w m, suc-mul m w) in
      let below = (div-lt_iff_lt-mul {k = w} {x = length (part t a m).numbers} {y = suc m} (omega arith)).1 more in
      omega arith

  pub part_num : (i j : ℕ) → i < m → j < w → num (part t a m) i j ≡ num t (a + i) j
  part_num i j h k =
      let e : w * a + (w * i + j) ≡ w * (a + i) + j = omega arith in
      get_or-take (w * m) (after_rows a t).numbers (w * i + j) (pos 0) (omega (arith, next_row w i m h))
      ∙ get_or-drop (w * a) t.numbers (w * i + j) (pos 0)
      ∙ ap (λ (o : ℕ). get_or t.numbers o (pos 0)) e

  pub part_shade : (i : ℕ) → i < m → shade_at (part t a m) i ≡ shade_at t (a + i)
  part_shade i h =
      let e : w * a + (w * i + 2) ≡ w * (a + i) + 2 = omega arith in
      cut (w * i + 2) t.coordinates (w * a) (w * m) t.numbers (omega (arith, next_row w i m h))
      ∙ ap (λ (o : ℕ). take t.coordinates (drop o t.numbers)) e

-- a part from the front, and all rows
pub part_front : (t : Table) (m : ℕ) → part t 0 m ≡ first_rows m t
part_front t m =
    let z : width t.coordinates * 0 ≡ 0 = omega arith in
    ap (λ (k : ℕ). table t.coordinates (take (width t.coordinates * m) (drop k t.numbers))) z

pub part_all : (t : Table) (m : ℕ) → length t.numbers ≤ width t.coordinates * m → part t 0 m ≡ t
part_all t m h =
    part_front t m ∙ ap (table t.coordinates) (take_all (width t.coordinates * m) t.numbers h)

-- no rows, wherever they were looked for
pub part_none : (t : Table) (a : ℕ) → part t a 0 ≡ table t.coordinates []
part_none t a =
    let z : width t.coordinates * 0 ≡ 0 = omega arith in
    ap (λ (k : ℕ). table t.coordinates (take k (drop (width t.coordinates * a) t.numbers))) z

-- the first m rows
module _ (t : Table) (m : ℕ) where
  abbrev v : ℕ
  v = width t.coordinates

  pub first_length : HasRows t m → length (first_rows m t).numbers ≡ v * m
  first_length h = simp length-take (omega arith)

  pub first_count : HasRows t m → row_count (first_rows m t) ≡ m
  first_count h = rows_count (first_rows m t) m (first_length h)

  pub first_num : (i j : ℕ) → i < m → j < v → num (first_rows m t) i j ≡ num t i j
  first_num i j h k = get_or-take (v * m) t.numbers (v * i + j) (pos 0) (omega (arith, next_row v i m h))

  -- the first of the first, and a part of them
  pub first_first : (k : ℕ) → k ≤ m → first_rows k (first_rows m t) ≡ first_rows k t
  first_first k h = ap (table t.coordinates) (take-take (v * k) (v * m) t.numbers (mul-le-mul_left v h))

  pub part_first : (a k : ℕ) → a + k ≤ m → part (first_rows m t) a k ≡ part t a k
  part_first a k h =
      let e : 0 + v * a ≡ v * a = omega arith in
      ap (table t.coordinates)
      (cut (v * a) (v * k) 0 (v * m) t.numbers (omega (arith, mul-le-mul_left v h))
      ∙ ap (λ (o : ℕ). take (v * k) (drop o t.numbers)) e)

  pub first_shade : (i : ℕ) → i < m → shade_at (first_rows m t) i ≡ shade_at t i
  first_shade i h =
      let e : 0 + (v * i + 2) ≡ v * i + 2 = omega arith in
      cut (v * i + 2) t.coordinates 0 (v * m) t.numbers (omega (arith, next_row v i m h))
      ∙ ap (λ (o : ℕ). take t.coordinates (drop o t.numbers)) e
