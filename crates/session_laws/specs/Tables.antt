-- What 4, 6 and 7 say of a table: its size, its rows, and what a legal table is. Assumes nothing.
use Rattle.std.specs.Prelude.{◌≡◌, Bool, true, ◌&&◌, List, [], ◌∷◌, eqb, leb, ℤ, pos, negsuc, length, get_or}
use Rattle.std.proofs.Math.Path.{refl, subst}
use Rattle.std.proofs.Common.{sym, ap, ◌∙◌}
use Prim.Native.Nat.{ℕ, zero, suc, ◌+◌, ◌*◌, ◌-◌, ◌≤◌, ◌<◌, ◌%◌}
use Rattle.std.proofs.Math.Nat.{mul-le-mul}
use native.Mathlib.Omega.{arith}
use Rattle.std.proofs.Math.Decide.{dec_le}
use Rattle.std.specs.Int.Signed.{le_z}
use borrow.Author.Tests.{eqb-true, eq-eqb, ne_eqb, leb-true, le-leb}
use Rattle.lists.specs.Lists.{every, range}
use Rattle.lists.specs.Bools.{clash, and_out, and_in}
use Rattle.lists.specs.Parts.{mem_range, every_at, every_of}
use Rattle.rules.specs.Tables.{Table, num, most_rows, row_count, within, in_range, row_in_range, row_in_order}
use Rattle.rules.specs.Tables.{size_fits, legal}
use Rattle.rules.specs.Tables.{width, nat_of, row, part, weighted, coordinate_fits, fits_at, shade_fits, shade_at}
use Rattle.rules.specs.Widths.{rows_rest, no_rest, part_num, part_shade}
use Rattle.rules.specs.Numbers.{unless, row_limit, row_order}
use Rattle.rules.specs.Checks.{first_out, first_in, unless_out}
use Rattle.rules.specs.Calls.{row_code, rows_code}

-- ---- 4: the size of a slice

pub record Sized (t : Table) : Type 0 where
  pub few : row_count t ≤ most_rows
  pub whole : width t.coordinates * row_count t ≡ length t.numbers

pub size_out : (t : Table) → size_fits t ≡ true → Sized t
unfolding size_fits
size_out t h =
    let left = length t.numbers % width t.coordinates in
    let both = and_out (eqb left 0) (leb (row_count t) most_rows) h in
    let rest : left ≡ 0 = eqb-true left 0 both.0 in
    record { few = leb-true (row_count t) most_rows both.1; whole = rows_rest t rest }

pub size_in : (t : Table) → Sized t → size_fits t ≡ true
unfolding size_fits
size_in t h =
    let left = length t.numbers % width t.coordinates in
    and_in (eqb left 0) (leb (row_count t) most_rows) (eq-eqb left 0 (no_rest t h.whole))
    (le-leb (row_count t) most_rows h.few)

-- ---- 6: the ranges of a row's numbers

pub record InRange (x y : ℤ) (z : List ℤ) : Type 0 where
  pub pattern : within (pos 1) (pos 999999) x ≡ true
  pub score : within (pos 0) (pos 9999) y ≡ true
  pub shade : shade_fits z ≡ true

module _ (p s : ℤ) (z : List ℤ) where
  pub range_out : in_range p s z ≡ true → InRange p s z
  unfolding in_range
  range_out h =
      let c = and_out (within (pos 1) (pos 999999) p) (within (pos 0) (pos 9999) s && shade_fits z) h in
      let d = and_out (within (pos 0) (pos 9999) s) (shade_fits z) c.1 in
      record { pattern = c.0; score = d.0; shade = d.1 }

  pub range_in : InRange p s z → in_range p s z ≡ true
  unfolding in_range
  range_in h = rw (h.pattern, h.score) h.shade

-- coordinate k of a shade in range
pub shade_out : (z : List ℤ) → shade_fits z ≡ true → (k : ℕ) → k < length z → coordinate_fits k (get_or z k (pos 0))
    ≡ true
unfolding shade_fits fits_at
shade_out z h k l = every_at (fits_at z) k h ((mem_range k 0 (length z)).1 (omega arith))

-- what 6 asks of row i + 1, and 7: that its score is not above the one before, if there is one
module _ (t : Table) where
  pub range_is : (i : ℕ) → row_in_range t i ≡ in_range (num t i 0) (num t i 1) (shade_at t i)
  unfolding row_in_range
  range_is i = refl

  pub order_first : row_in_order t 0 ≡ true
  unfolding row_in_order
  order_first = refl

  pub order_next : (i : ℕ) → row_in_order t (suc i) ≡ le_z (num t (suc i) 1) (num t i 1)
  unfolding row_in_order
  order_next i =
      let before : suc i - 1 ≡ i = omega arith in
      rw (ne_eqb (suc i) 0 (λ z. omega arith)) (ap (λ j. le_z (num t (suc i) 1) (num t j 1)) before)

-- a number that is not below 0
pos_nat : (low n : ℕ) (x : ℤ) → within (pos low) (pos n) x ≡ true → pos (nat_of x) ≡ x
unfolding within
pos_nat low n (pos m) h = refl
pos_nat low n (negsuc m) h = clash h refl

-- row i + 1 as the rules look at it has the table's numbers
module _ (t : Table) (i : ℕ) (h : row_in_range t i ≡ true) where
  abbrev pub ranges : InRange (num t i 0) (num t i 1) (shade_at t i)
  ranges = range_out (num t i 0) (num t i 1) (shade_at t i) (sym (range_is t i) ∙ h)

  pub pattern_kept : pos (row t i).pattern ≡ num t i 0
  unfolding row
  pattern_kept = pos_nat 1 999999 (num t i 0) ranges.pattern

  pub score_kept : pos (row t i).score ≡ num t i 1
  unfolding row
  score_kept = pos_nat 0 9999 (num t i 1) ranges.score

  pub score_most : (row t i).score ≤ 9999
  unfolding within
  score_most =
      let high = (and_out (le_z (pos 0) (num t i 1)) (le_z (num t i 1) (pos 9999)) ranges.score).1 in
      leb-true (row t i).score 9999 (subst (λ x. le_z x (pos 9999) ≡ true) (sym score_kept) high)

  -- by a weight up to 9
  pub weighted_most : (weight : ℕ) → weight ≤ 9 → weighted weight (row t i) ≤ 89991
  unfolding weighted
  weighted_most weight k = mul-le-mul k score_most

-- rows of a part are those of its table
module _ (t : Table) (a n i : ℕ) (h : i < n) where
  pub row_part : row (part t a n) i ≡ row t (a + i)
  unfolding row
  row_part =
      λ k.
      record {
        pattern = nat_of (part_num t a n i 0 h (omega arith) k);
        score = nat_of (part_num t a n i 1 h (omega arith) k);
        shade = part_shade t a n i h k;
      }

  pub range_part : row_in_range (part t a n) i ≡ row_in_range t (a + i)
  range_part =
      range_is (part t a n) i
      ∙ (λ k.
      in_range (part_num t a n i 0 h (omega arith) k) (part_num t a n i 1 h (omega arith) k) (part_shade t a n i h k))
      ∙ sym (range_is t (a + i))

-- ---- 6 and 7: rows

-- row i + 1 is refused neither by 6 nor by 7
pub record RowFits (t : Table) (i : ℕ) : Type 0 where
  pub range : row_in_range t i ≡ true
  pub order : row_in_order t i ≡ true

module _ (t : Table) where
  pub row_out : (i : ℕ) → row_code t i ≡ 0 → RowFits t i
  unfolding row_code
  row_out i e =
      let passes = first_out (unless (row_in_range t i) row_limit ∷ unless (row_in_order t i) row_order ∷ []) e in
      record {
        range = unless_out (row_in_range t i) row_limit (omega arith) (passes 0);
        order = unless_out (row_in_order t i) row_order (omega arith) (passes 1);
      }

  pub row_in : (i : ℕ) → RowFits t i → row_code t i ≡ 0
  unfolding row_code
  row_in i h = rw (h.range, h.order)

  -- rows a + 1 to a + n
  pub rows_out : (a n : ℕ) → rows_code t a n ≡ 0 → (i : ℕ) → a ≤ i → i < a + n → RowFits t i
  unfolding rows_code
  rows_out a zero e i h k = absurd (omega arith)
  rows_out a (suc n) e i h k =
      let passes = first_out (rows_code t a n ∷ row_code t (a + n) ∷ []) e in
      go (dec_le (a + n) i) (row_out (a + n) (passes 1)) (λ l. rows_out a n (passes 0) i h l)
    where
      go : Dec (a + n ≤ i) → RowFits t (a + n) → (i < a + n → RowFits t i) → RowFits t i
      go (yes l) last before = let same : a + n ≡ i = omega arith in subst (RowFits t) same last
      go (no l) last before = before (omega arith)

  pub rows_in : (a n : ℕ) → ((i : ℕ) → a ≤ i → i < a + n → RowFits t i) → rows_code t a n ≡ 0
  unfolding rows_code
  rows_in a zero h = refl
  rows_in a (suc n) h =
      first_in (rows_code t a n) (row_code t (a + n) ∷ []) (rows_in a n (λ i k l. h i k (omega arith)))
      (row_in (a + n) (h (a + n) (omega arith) (omega arith)))

-- ---- A legal table

pub record LegalTable (t : Table) : Type 0 where
  pub size : Sized t
  pub rows : (i : ℕ) → i < row_count t → RowFits t i

module _ (t : Table) where
  abbrev row_test : ℕ → Bool
  row_test i = row_in_range t i && row_in_order t i

  pub legal_out : legal t ≡ true → LegalTable t
  unfolding legal
  legal_out g =
      let both = and_out (size_fits t) (every row_test (range 0 (row_count t))) g in
      record {
        size = size_out t both.0;
        rows =
            λ i h.
            let passes = every_at row_test i both.1 ((mem_range i 0 (row_count t)).1 (omega arith)) in
            let r = and_out (row_in_range t i) (row_in_order t i) passes in
            record { range = r.0; order = r.1 };
      }

  pub legal_in : LegalTable t → legal t ≡ true
  unfolding legal
  legal_in g =
      and_in (size_fits t) (every row_test (range 0 (row_count t))) (size_in t g.size)
      (every_of row_test (range 0 (row_count t))
      (λ i m.
      let r = g.rows i (omega (arith, (mem_range i 0 (row_count t)).0 m)) in
      and_in (row_in_range t i) (row_in_order t i) r.range r.order))
