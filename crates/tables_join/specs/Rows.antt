-- The rules' tables as plain tables of the join, lists of rows: legal tables and their rows correspond one to one,
-- and keep the laws of the join. Assumes nothing.
use Rattle.std.specs.Prelude.{◌≡◌, Bool, ◌&&◌, ◌||◌, not, ltb, ℤ, pos, drop, replicate}
use Rattle.std.proofs.Math.Path.{refl, sym, ap, ap₂}
use Rattle.std.proofs.Common.{subst, subst₂, ◌∙◌, mul-le-mul_left, mul-zero, mod-lt, mul_comm, div-lt_iff_lt-mul, lit≤}
use Rattle.std.proofs.Common.{ext_get_or}
use Rattle.std.proofs.Math.Bool.{true, false}
use mathlib.Core.List.{List, [], ◌∷◌, ◌++◌, map}
use Prim.Native.Nat.{ℕ, zero, suc, ◌+◌, ◌*◌, ◌/◌, ◌%◌, ◌≤◌, ◌<◌}
use native.Mathlib.Omega.{arith}
use Rattle.std.proofs.Math.Decide.{dec_le}
use Rattle.std.proofs.Math.Nat.{mul-suc, div-add-mod}
use Rattle.std.proofs.Math.Dec.{eqb, leb}
use Rattle.std.proofs.Math.ListN.{length, get_or, take, length-append, get_or-append}
use Rattle.std.proofs.lemmas.List.{length-replicate, get_or-replicate}
use Rattle.std.proofs.Math.Seq.{take-nil, drop-nil, take_at, take-append-add, drop-append-add, get_or-append-add}
use Rattle.std.proofs.Math.Seq.{get_or-take, get_or-drop}
use borrow.Author.Tests.{le-leb, eqb-true, eqb-false, eq-eqb, ne_eqb, lt-leb}
use Rattle.lists.specs.Lists.{range}
use Rattle.lists.specs.Bools.{clash, cond_same, and_false}
use Rattle.lists.specs.Parts.{map_range_at, length_map_range, every_of, mem_range}
use Rattle.join.specs.Join.{Side, Laws}
use Rattle.join.specs.Plain.{Rows, PlainLegal}
use Rattle.join.specs.Zero.{zero_among, falling, Mates}
use Rattle.join.specs.ZeroLaws.{falling_laws}
use Rattle.rules.specs.Tables.{Table}
use Rattle.rules.specs.Tables.{most_rows, row_count, in_range, Row, row, num, within, row_in_range, row_in_order}
use Rattle.rules.specs.Tables.{unsatisfiable, withdrawn, rows_qualify, weighted, terms}
use Rattle.rules.specs.Session.{withdrawn_within, is_empty}
use Rattle.rules.specs.Tables.{legal, width, first_rows}
use Rattle.rules.proofs.ToleranceLaws.{like_qualifies}
use Rattle.rules.specs.Widths.{rows_count, has_row, shade_length}
use Rattle.rules.specs.Tables.{nat_of, table, shade_at, coordinate_fits, fits_at, shade_fits}
use Rattle.rules.specs.declared.Query.{Query}
use Rattle.rules.specs.Calls.{query_code}
use Rattle.session_laws.specs.ReadOut.{rows_qualify_in, scores_fall}
use Rattle.session_laws.specs.Record.{query_out}
use Rattle.session_laws.specs.Tables.{range_is, order_first, order_next, pattern_kept, score_kept, range_out}
use Rattle.session_laws.specs.Tables.{range_in, legal_out, legal_in}

-- ---- Definitions

-- the rows of a table
unfoldable pub rows_of : Table → List Row
rows_of t = map (row t) (range 0 (row_count t))

-- what the rules read past the last row of a table
abbrev pub blank_row : Row
blank_row = record { pattern = 0; score = 0; shade = [] }

-- a row's shade has n coordinates, and its numbers keep their ranges
pub record GoodRow (n : ℕ) (x : Row) : Type 0 where
  pub wide : length x.shade ≡ n
  pub range : in_range (pos x.pattern) (pos x.score) x.shade ≡ true

-- a table whose rows weigh so much
abbrev pub rows_by : ℕ → (Row → ℕ) → Rows Row
rows_by n weight = record { blank = blank_row; weight = weight; Good = GoodRow n; most = most_rows }

-- the field table and the trim table of a query, on a card of n coordinates
abbrev pub field_side : ℕ → Query → Side Row
field_side n query = falling (rows_by n (terms query).field)

abbrev pub trim_side : ℕ → Query → Side Row
trim_side n query = falling (rows_by n (terms query).trim)

-- the test on a field row and a trim row
abbrev pub near : Query → Row → Row → Bool
near query = (terms query).near

-- rows weigh more exactly if their scores are higher
pub record Rises (weight : Row → ℕ) : Type 0 where
  pub up : (x y : Row) → x.score ≤ y.score → weight x ≤ weight y
  pub down : (x y : Row) → weight x ≤ weight y → x.score ≤ y.score
  pub none : (x : Row) → x.score ≡ 0 → weight x ≡ 0

-- a row's numbers
abbrev written : Row → List ℤ
written x = pos x.pattern ∷ pos x.score ∷ x.shade

-- rows written out
unfoldable pub flat_numbers : List Row → List ℤ
flat_numbers [] = []
flat_numbers (x ∷ l) = written x ++ flat_numbers l

abbrev pub flat : ℕ → List Row → Table
flat n l = table n (flat_numbers l)

-- each of n coordinates
abbrev pub Wide : ℕ → List Row → Type 0
Wide n [] = Unit {0}
Wide n (x ∷ l) = (length x.shade ≡ n) × Wide n l

-- ---- What rows weigh

weighted_up : (weight : ℕ) (x y : Row) → x.score ≤ y.score → weighted weight x ≤ weighted weight y
unfolding weighted
weighted_up weight x y h = mul-le-mul_left weight h

weighted_down : (weight : ℕ) (x y : Row) → 1 ≤ weight → weighted weight x ≤ weighted weight y → x.score ≤ y.score
unfolding weighted
weighted_down weight x y some h = go (dec_le x.score y.score)
  where
    go : Dec (x.score ≤ y.score) → x.score ≤ y.score
    go (yes k) = k
    go (no k) =
        let more : suc y.score ≤ x.score = omega arith in
        absurd (omega (arith, mul-le-mul_left weight more, mul-suc weight y.score))

weighted_none : (weight : ℕ) (x : Row) → x.score ≡ 0 → weighted weight x ≡ 0
unfolding weighted
weighted_none weight x e = ap (λ n. weight * n) e ∙ mul-zero weight

-- in any query's terms, no more than a row of a higher score
module _ (query : Query) (x y : Row) (h : x.score ≤ y.score) where
  pub field_up : (terms query).field x ≤ (terms query).field y
  field_up = weighted_up query.weights.field.0 x y h

  pub trim_up : (terms query).trim x ≤ (terms query).trim y
  trim_up = weighted_up query.weights.trim.0 x y h

-- in those of an accepted one, less than it
module _ (query : Query) (accepted : query_code query ≡ 0) where
  pub field_rises : Rises (terms query).field
  field_rises =
      record {
        up = field_up query;
        down = λ x y h. weighted_down query.weights.field.0 x y (query_out query accepted).field_weight.0 h;
        none = weighted_none query.weights.field.0;
      }

  pub trim_rises : Rises (terms query).trim
  trim_rises =
      record {
        up = trim_up query;
        down = λ x y h. weighted_down query.weights.trim.0 x y (query_out query accepted).trim_weight.0 h;
        none = weighted_none query.weights.trim.0;
      }

-- ---- Their laws

pub length_rows : (t : Table) → length (rows_of t) ≡ row_count t
unfolding rows_of
length_rows t = length_map_range (row t) 0 (row_count t)

pub rows_at : (t : Table) (i : ℕ) → i < row_count t → get_or (rows_of t) i blank_row ≡ row t i
unfolding rows_of
rows_at t i h = map_range_at (row t) 0 (row_count t) i blank_row h ∙ ap (row t) (omega arith)

row_good : (t : Table) (i : ℕ) → i < row_count t → row_in_range t i ≡ true → GoodRow t.coordinates (row t i)
unfolding row
row_good t i k h =
    record {
      wide = shade_length t i (has_row t i k);
      range =
          subst (λ p. in_range p (pos (nat_of (num t i 1))) (shade_at t i) ≡ true) (sym (pattern_kept t i h))
          (subst (λ s. in_range (num t i 0) s (shade_at t i) ≡ true) (sym (score_kept t i h)) (sym (range_is t i) ∙ h));
    }

module _ (t : Table) (g : legal t ≡ true) where
  in_range_lem : (i : ℕ) → i < row_count t → row_in_range t i ≡ true
  in_range_lem i h = ((legal_out t g).rows i h).range

  -- scores fall down a legal table
  pub legal_fall : (i j : ℕ) → i ≤ j → j < row_count t → (row t j).score ≤ (row t i).score
  legal_fall = scores_fall t (row_count t) (legal_out t g).rows

  pub legal_rows : {weight : Row → ℕ} → Rises weight → PlainLegal (rows_by t.coordinates weight) (rows_of t)
  legal_rows {weight} rises = record {
    short = omega (arith, length_rows t, (legal_out t g).size.few);
    good =
        λ i h.
        let k : i < row_count t = omega (arith, length_rows t) in
        subst (GoodRow t.coordinates) (sym (rows_at t i k)) (row_good t i k (in_range_lem i k));
    falls =
        λ i h.
        let k : suc i < row_count t = omega (arith, length_rows t) in
        subst₂ (λ x y. weight x ≤ weight y) (sym (rows_at t (suc i) k)) (sym (rows_at t i (omega arith)))
        (rises.up (row t (suc i)) (row t i) (legal_fall i (suc i) (omega arith) k));
  }

-- ---- Rows written out

-- number j of a row
cell : Row → ℕ → ℤ
cell x j = get_or (written x) j (pos 0)

-- rows that are good have so many coordinates
wide_of : (n : ℕ) (l : List Row) → ((i : ℕ) → i < length l → length (get_or l i blank_row).shade ≡ n) → Wide n l
wide_of n [] h = tt
wide_of n (x ∷ l) h = (h 0 (omega arith), wide_of n l (λ i k. h (suc i) (omega arith)))

pub legal_wide : {n : ℕ} {weight : Row → ℕ} (l : List Row) → PlainLegal (rows_by n weight) l → Wide n l
legal_wide {n} l g = wide_of n l (λ i h. (g.good i h).wide)

wide_take : (n m : ℕ) (l : List Row) → Wide n l → Wide n (take m l)
wide_take n zero l w = tt
wide_take n (suc m) [] w = tt
wide_take n (suc m) (x ∷ l) w = (w.0, wide_take n m l w.1)

-- where the next row begins
on : (n : ℕ) (x : Row) (k : ℕ) → length x.shade ≡ n → width n + k ≡ length (written x) + k
on n x k h = omega arith

module _ (n : ℕ) where
  pub length_flat : (l : List Row) → Wide n l → length (flat_numbers l) ≡ width n * length l
  unfolding flat_numbers
  length_flat [] w = omega arith
  length_flat (x ∷ l) w =
      omega (arith, length-append x.shade (flat_numbers l), length_flat l w.1, w.0, mul-suc (width n) (length l))

  pub count_flat : (l : List Row) → Wide n l → row_count (flat n l) ≡ length l
  count_flat l w = rows_count (flat n l) (length l) (length_flat l w)

  -- what stands from offset k on behind the first row stands at k of the rest
  behind : (x : Row) (l : List Row) (i k : ℕ) → length x.shade ≡ n
      → width n * suc i + k ≡ length (written x) + (width n * i + k)
  behind x l i k h = omega (arith, mul-suc (width n) i)

  num_flat : (l : List Row) → Wide n l → (i j : ℕ) → j < width n → num (flat n l) i j ≡ cell (get_or l i blank_row) j
  unfolding flat_numbers cell
  num_flat [] w i zero h = refl
  num_flat [] w i (suc zero) h = refl
  num_flat [] w i (suc (suc j)) h = refl
  num_flat (x ∷ l) w zero j h =
      let e : width n * 0 + j ≡ j = omega arith in
      ap (λ m. get_or (written x ++ flat_numbers l) m (pos 0)) e
      ∙ get_or-append (written x) (flat_numbers l) (pos 0) j (omega (arith, w.0))
  num_flat (x ∷ l) w (suc i) j h =
      ap (λ m. get_or (written x ++ flat_numbers l) m (pos 0)) (behind x l i j w.0)
      ∙ get_or-append-add (written x) (flat_numbers l) (width n * i + j) (pos 0)
      ∙ num_flat l w.1 i j h

  shade_flat : (l : List Row) → Wide n l → (i : ℕ) → shade_at (flat n l) i ≡ (get_or l i blank_row).shade
  unfolding flat_numbers
  shade_flat [] w i = ap (take n) (drop-nil (width n * i + 2)) ∙ take-nil n
  shade_flat (x ∷ l) w zero =
      let e : width n * 0 + 2 ≡ 2 = omega arith in
      ap (λ m. take n (drop m (written x ++ flat_numbers l))) e ∙ take_at x.shade (flat_numbers l) n w.0
  shade_flat (x ∷ l) w (suc i) =
      ap (λ m. take n (drop m (written x ++ flat_numbers l))) (behind x l i 2 w.0)
      ∙ ap (take n) (drop-append-add (written x) (flat_numbers l) (width n * i + 2))
      ∙ shade_flat l w.1 i

  pub row_flat : (l : List Row) → Wide n l → (i : ℕ) → row (flat n l) i ≡ get_or l i blank_row
  unfolding row cell
  row_flat l w i =
      λ k.
      record {
        pattern = nat_of (num_flat l w i 0 (omega arith) k);
        score = nat_of (num_flat l w i 1 (omega arith) k);
        shade = shade_flat l w i k;
      }

  pub rows_flat : (l : List Row) → Wide n l → rows_of (flat n l) ≡ l
  rows_flat l w =
      ext_get_or blank_row (rows_of (flat n l)) l (length_rows (flat n l) ∙ count_flat l w)
      (λ i h. rows_at (flat n l) i (omega (arith, length_rows (flat n l))) ∙ row_flat l w i)

  pub flat_take : (m : ℕ) (l : List Row) → Wide n l → first_rows m (flat n l) ≡ flat n (take m l)
  unfolding flat_numbers
  flat_take m l w = ap (table n) (go m l w)
    where
      go : (m : ℕ) (l : List Row) → Wide n l → take (width n * m) (flat_numbers l) ≡ flat_numbers (take m l)
      go zero l w = let z : width n * 0 ≡ 0 = omega arith in ap (λ k. take k (flat_numbers l)) z
      go (suc m) [] w = take-nil (width n * suc m)
      go (suc m) (x ∷ l) w =
          let e : width n * suc m ≡ length (written x) + width n * m = omega (arith, mul-suc (width n) m, w.0) in
          ap (λ k. take k (written x ++ flat_numbers l)) e
          ∙ take-append-add (written x) (flat_numbers l) (width n * m)
          ∙ ap (λ r. written x ++ r) (go m l w.1)

module _ (t : Table) (g : legal t ≡ true) where
  abbrev n : ℕ
  n = t.coordinates

  pub wide_rows : Wide n (rows_of t)
  wide_rows =
      wide_of n (rows_of t)
      (λ i h.
      let k : i < row_count t = omega (arith, length_rows t) in
      ap (λ x. length x.shade) (rows_at t i k) ∙ (row_good t i k (in_range_lem t g i k)).wide)

  cell_row : (i : ℕ) → i < row_count t → (j : ℕ) → j < width n → cell (row t i) j ≡ num t i j
  unfolding cell row
  cell_row i k zero h = pattern_kept t i (in_range_lem t g i k)
  cell_row i k (suc zero) h = score_kept t i (in_range_lem t g i k)
  cell_row i k (suc (suc j)) h =
      let e : width n * i + 2 + j ≡ width n * i + suc (suc j) = omega arith in
      get_or-take n (drop (width n * i + 2) t.numbers) j (pos 0) (omega arith)
      ∙ get_or-drop (width n * i + 2) t.numbers j (pos 0)
      ∙ ap (λ m. get_or t.numbers m (pos 0)) e

  pub flat_rows : flat n (rows_of t) ≡ t
  flat_rows = ap (table n) (ext_get_or (pos 0) (flat_numbers (rows_of t)) t.numbers lengths same)
    where
      lengths : length (flat_numbers (rows_of t)) ≡ length t.numbers
      lengths =
          length_flat n (rows_of t) wide_rows ∙ ap (◌*◌ (width n)) (length_rows t) ∙ (legal_out t g).size.whole

      same : (m : ℕ) → m < length (flat_numbers (rows_of t))
          → get_or (flat_numbers (rows_of t)) m (pos 0) ≡ get_or t.numbers m (pos 0)
      same m h =
          let e : m ≡ width n * (m / width n) + m % width n = sym (div-add-mod m (width n)) in
          let few : m < row_count t * width n =
          omega (arith, lengths, (legal_out t g).size.whole, mul_comm (width n) (row_count t)) in
          let k : m / width n < row_count t = (div-lt_iff_lt-mul {k = width n} (omega arith)).1 few in
          let j : m % width n < width n = mod-lt m (omega arith) in
          ap (λ o. get_or (flat_numbers (rows_of t)) o (pos 0)) e
          ∙ num_flat n (rows_of t) wide_rows (m / width n) (m % width n) j
          ∙ ap (λ x. cell x (m % width n)) (rows_at t (m / width n) k)
          ∙ cell_row (m / width n) k (m % width n) j
          ∙ ap (λ o. get_or t.numbers o (pos 0)) (sym e)

  -- past the end too
  pub row_at : (i : ℕ) → get_or (rows_of t) i blank_row ≡ row t i
  row_at i = sym (row_flat n (rows_of t) wide_rows i) ∙ ap (λ u. row u i) flat_rows

  -- the first m rows, cut from the table or from the rows
  pub rows_take : (m : ℕ) → rows_of (first_rows m t) ≡ take m (rows_of t)
  rows_take m =
      ap (λ u. rows_of (first_rows m u)) (sym flat_rows)
      ∙ ap rows_of (flat_take n m (rows_of t) wide_rows)
      ∙ rows_flat n (take m (rows_of t)) (wide_take n m (rows_of t) wide_rows)

module _ {n : ℕ} {weight : Row → ℕ} (rises : Rises weight) (l : List Row) (g : PlainLegal (rows_by n weight) l) where
  abbrev w : Wide n l
  w = legal_wide l g

  flat_order : (i : ℕ) → i < length l → row_in_order (flat n l) i ≡ true
  unfolding cell
  flat_order zero h = order_first (flat n l)
  flat_order (suc i) h =
      order_next (flat n l) i
      ∙ rw (num_flat n l w (suc i) 1 (omega arith), num_flat n l w i 1 (omega arith))
      (le-leb (get_or l (suc i) blank_row).score (get_or l i blank_row).score
      (rises.down (get_or l (suc i) blank_row) (get_or l i blank_row) (g.falls i h)))

  pub flat_legal : legal (flat n l) ≡ true
  unfolding cell
  flat_legal =
      legal_in (flat n l)
      (record {
        size =
            record {
              few = omega (arith, count_flat n l w, g.short);
              whole = ap (◌*◌ (width n)) (count_flat n l w) ∙ sym (length_flat n l w);
            };
        rows =
            λ i h.
            let k : i < length l = omega (arith, count_flat n l w) in
            let cells = num_flat n l w i in
            record {
              range =
                  range_is (flat n l) i
                  ∙ rw (cells 0 (omega arith), cells 1 (omega arith), shade_flat n l w i) (g.good i k).range;
              order = flat_order i k;
            };
      })

-- ---- The laws of the join

-- x at y's place
abbrev moved : Row → Row → Row
moved x y = record { pattern = x.pattern; score = x.score; shade = y.shade }

moved_good : {n : ℕ} (x y : Row) → GoodRow n x → GoodRow n y → GoodRow n (moved x y)
moved_good x y g h =
    let a = range_out (pos x.pattern) (pos x.score) x.shade g.range in
    let b = range_out (pos y.pattern) (pos y.score) y.shade h.range in
    record {
      wide = h.wide;
      range =
          range_in (pos x.pattern) (pos x.score) y.shade
          (record { pattern = a.pattern; score = a.score; shade = b.shade });
    }

-- a row's weight and its score are 0 together
module _ {weight : Row → ℕ} (rises : Rises weight) (x : Row) where
  pub weight_none : weight x ≡ 0 → withdrawn x ≡ true
  unfolding withdrawn
  weight_none e =
      let low = rises.down x blank_row (omega (arith, rises.none blank_row refl)) in
      eq-eqb x.score 0 (omega arith)

  pub weight_some : (weight x ≡ 0 → ⊥) → withdrawn x ≡ false
  unfolding withdrawn
  weight_some h = ne_eqb x.score 0 (λ e. h (rises.none x e))

  pub weight_zero : eqb (weight x) 0 ≡ withdrawn x
  unfolding withdrawn
  weight_zero = go (eqb x.score 0) refl
    where
      go : (b : Bool) → eqb x.score 0 ≡ b → eqb (weight x) 0 ≡ b
      go true e = eq-eqb (weight x) 0 (rises.none x (eqb-true x.score 0 e))
      go false e =
          ne_eqb (weight x) 0
          (λ z. eqb-false x.score 0 e (eqb-true x.score 0 (weight_none z)))

-- the test on rows: at one place they pass it, unless one is withdrawn or nothing can
module _ (query : Query) (x y : Row) where
  module _ (n : ℕ) (satisfiable : unsatisfiable query n ≡ false) where
    live_field : length y.shade ≡ n → withdrawn x ≡ false → withdrawn y ≡ false → near query (moved x y) y ≡ true
    unfolding withdrawn
    live_field w h k = rows_qualify_in query (moved x y) y h k ∙ like_qualifies query n satisfiable y.shade w

    live_trim : length x.shade ≡ n → withdrawn y ≡ false → withdrawn x ≡ false → near query x (moved y x) ≡ true
    unfolding withdrawn
    live_trim w h k = rows_qualify_in query x (moved y x) k h ∙ like_qualifies query n satisfiable x.shade w

  pub dead_field : withdrawn x ≡ true → near query x y ≡ false
  unfolding rows_qualify
  dead_field h = rw h

  pub dead_trim : withdrawn y ≡ true → near query x y ≡ false
  unfolding rows_qualify
  dead_trim h = rw h (and_false (not (withdrawn x)))

-- a row that is not withdrawn
abbrev some : ℕ → Row
some n = record { pattern = 1; score = 1; shade = replicate n (pos 0) }

some_live : (n : ℕ) → withdrawn (some n) ≡ false
unfolding withdrawn
some_live n = refl

zero_in : (k : ℕ) → coordinate_fits k (pos 0) ≡ true
unfolding coordinate_fits within
zero_in k = cond_same (ltb k 2) true

zeros_fit : (n : ℕ) → shade_fits (replicate n (pos 0)) ≡ true
unfolding shade_fits fits_at
zeros_fit n =
    every_of (fits_at (replicate n (pos 0))) (range 0 (length (replicate n (pos 0))))
    (λ k m. zero_fits k (omega (arith, (mem_range k 0 (length (replicate n (pos 0)))).0 m, length-replicate n (pos 0))))
  where
    zero_fits : (k : ℕ) → k < n → fits_at (replicate n (pos 0)) k ≡ true
    zero_fits k h = ap (coordinate_fits k) (get_or-replicate n k (pos 0) (pos 0) h) ∙ zero_in k

mates : (n : ℕ) {weight other : Row → ℕ} {test : Row → Row → Bool} → Rises weight → Rises other
    → ((x y : Row) → length y.shade ≡ n → withdrawn x ≡ false → withdrawn y ≡ false → test (moved x y) y ≡ true)
    → ((x y : Row) → withdrawn x ≡ true → test x y ≡ false) → Mates (rows_by n weight) (rows_by n other) test
mates n rises others live dead =
    record {
      like = moved;
      good = moved_good;
      level = λ x y g h.
          let low = rises.up (moved x y) x (omega arith) in
          let high = rises.up x (moved x y) (omega arith) in
          omega arith;
      fits = λ x y g h a b. live x y h.wide (weight_some rises x a) (weight_some others y b);
      dead = λ x y e. dead x y (weight_none rises x e);
      some = some n;
      some_good =
          record {
            wide = length-replicate n (pos 0);
            range = range_in (pos 1) (pos 1) (replicate n (pos 0)) (unfold within in record {
              pattern = refl;
              score = refl;
              shade = zeros_fit n;
            });
          };
      some_high = λ e. clash (weight_none rises (some n) e) (some_live n);
    }

laws_by : (n : ℕ) (query : Query) → query_code query ≡ 0 → unsatisfiable query n ≡ false
    → Laws (field_side n query) (trim_side n query) (near query)
laws_by n query accepted met =
    let field = field_rises query accepted in
    let trim = trim_rises query accepted in
    falling_laws (rows_by n (terms query).field) (rows_by n (terms query).trim) (near query)
    (mates n field trim (λ x y. live_field query x y n met) (dead_field query))
    (mates n trim field (λ y x. live_trim query x y n met) (λ y x. dead_trim query x y)) (lit≤ tt) (lit≤ tt)

-- two tables on one card keep the laws of the join, by a query that something can meet
pub laws : (query : Query) → query_code query ≡ 0 → (f t : Table) → f.coordinates ≡ t.coordinates
    → unsatisfiable query f.coordinates ≡ false
    → Laws (field_side f.coordinates query) (trim_side t.coordinates query) (near query)
laws query accepted f t cards met =
    subst (λ n. Laws (field_side f.coordinates query) (trim_side n query) (near query)) cards
    (laws_by f.coordinates query accepted met)

-- ---- A withdrawn row among the first, of a table or of its rows

zero_rows : {weight : Row → ℕ} → Rises weight → (t : Table) (n : ℕ)
    → ((i : ℕ) → i < n → get_or (rows_of t) i blank_row ≡ row t i)
    → zero_among (rows_by t.coordinates weight) (rows_of t) n
    ≡ withdrawn_within t n
unfolding zero_among withdrawn_within
zero_rows rises t zero same = refl
zero_rows {weight} rises t (suc n) same =
    ap₂ (λ a b. a || b) (zero_rows rises t n (λ i h. same i (omega arith)))
    (ap (λ x. eqb (weight x) 0) (same n (omega arith)) ∙ weight_zero rises (row t n))

module _ {weight : Row → ℕ} (rises : Rises weight) (t : Table) (n : ℕ) where
  -- down to a depth
  pub zero_read : n ≤ row_count t → zero_among (rows_by t.coordinates weight) (rows_of t) n ≡ withdrawn_within t n
  zero_read h = zero_rows rises t n (λ i k. rows_at t i (omega arith))

  -- whether it counts as empty then
  pub empty_read : (rows : ℕ) → rows ≡ row_count t → n ≤ row_count t
      → (falling (rows_by t.coordinates weight)).empty (rows_of t) n ≡ is_empty t rows n
  unfolding is_empty
  empty_read rows count h = ap₂ (λ a b. a || b) (go (eqb rows 0) refl) (first (dec_le 1 n))
    where
      go : (b : Bool) → eqb rows 0 ≡ b → leb (length (rows_of t)) 0 ≡ b
      go true e = le-leb (length (rows_of t)) 0 (omega (arith, length_rows t, eqb-true rows 0 e))
      go false e =
          lt-leb (length (rows_of t)) 0 (let k = eqb-false rows 0 e in omega (arith, length_rows t))

      weight_first : ℕ
      weight_first = weight (get_or (rows_of t) 0 blank_row)

      first : Dec (1 ≤ n) → (leb 1 n && eqb weight_first 0) ≡ (ltb 0 n && withdrawn (row t 0))
      first (yes k) =
          rw (le-leb 1 n k)
          (ap (λ x. eqb (weight x) 0) (rows_at t 0 (omega arith)) ∙ weight_zero rises (row t 0))
      first (no k) = rw (lt-leb 1 n (omega arith))

  -- of a legal table, past its end too
  pub zero_legal : legal t ≡ true → zero_among (rows_by t.coordinates weight) (rows_of t) n ≡ withdrawn_within t n
  zero_legal g = zero_rows rises t n (λ i k. row_at t g i)
