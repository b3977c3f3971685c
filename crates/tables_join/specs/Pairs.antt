-- The pairs of two tables that qualify, and of parts of them: the qualifying pairs of two blocks are those between
-- their rows, each once, and none has a higher sum than the two first rows. Assumes nothing.
use Rattle.std.specs.Prelude.{◌≡◌, true, Bool, cond, false, ◌↔◌}
use Rattle.std.proofs.Common.{sym, ap₂, subst, subst₂, ◌∙◌, inl}
use Rattle.std.proofs.Math.Path.{ap}
use mathlib.Core.List.{List, map, Memᴰ}
use Prim.Native.Nat.{ℕ, ◌-◌, ◌≤◌, ◌<◌, ◌+◌}
use native.Mathlib.Omega.{arith}
use Rattle.lists.specs.Lists.{keep, range, each}
use Rattle.lists.specs.Bools.{clash, fails}
use Rattle.lists.specs.Words.{Distinct}
use Rattle.lists.specs.Parts.{mem_range, range_distinct, mem_keep, keep_distinct, mem_each, each_distinct, map_distinct}
use Rattle.join.specs.Held.{Rank}
use Rattle.rules.specs.declared.Pair.{Pair}
use Rattle.rules.specs.declared.Query.{Query}
use Rattle.rules.specs.Tables.{Table, row_count, row, terms, pair_sum, legal, part, ahead, Block, pair_at}
use Rattle.rules.specs.Meaning.{first_scores}
use Rattle.rules.specs.Tables.{unsatisfiable, qualifying}
use Rattle.rules.proofs.ToleranceLaws.{nothing_near}
use Rattle.rules.specs.Widths.{has_rows, part_count, part_most}
use Rattle.rules.specs.Read.{rows_between}
use Rattle.rules.proofs.Ranking.{Before, before_ahead, ahead_trans, ahead_asym, ahead_tri}
use Rattle.rules.specs.Calls.{most_sum}
use Rattle.session_laws.specs.Record.{QueryFits}
use Rattle.session_laws.specs.Tables.{row_part, weighted_most, legal_out}
use Rattle.tables_join.specs.Rows.{near, field_up, trim_up, legal_fall}

-- rows of the tables that qualify, with their own sum
pub record QualifyingPair (query : Query) (f t : Table) (p : Pair) : Type 0 where
  pub field_row : (1 ≤ p.field) × (p.field ≤ row_count f)
  pub trim_row : (1 ≤ p.trim) × (p.trim ≤ row_count t)
  pub near : near query (row f (p.field - 1)) (row t (p.trim - 1)) ≡ true
  pub own_sum : p.sum ≡ pair_sum (terms query) (row f (p.field - 1)) (row t (p.trim - 1))

-- a pair that qualifies shows that something can
pub pair_satisfiable : (query : Query) (f t : Table) → f.coordinates ≡ t.coordinates → (p : Pair)
    → QualifyingPair query f t p → unsatisfiable query f.coordinates ≡ false
pair_satisfiable query f t cards p h =
    fails (unsatisfiable query f.coordinates)
    (λ u.
    clash h.near
    (nothing_near query f t cards u (p.field - 1) (p.trim - 1) (omega (arith, h.field_row))
    (omega (arith, h.trim_row))))

-- of legal tables, by a query that fits, its sum is one that 5 lets pass
pub sum_most : (query : Query) (f t : Table) → QueryFits query → legal f ≡ true → legal t ≡ true → (p : Pair)
    → QualifyingPair query f t p → p.sum ≤ most_sum
unfolding pair_sum
sum_most query f t light g h p k =
    let first = ((legal_out f g).rows (p.field - 1) (omega (arith, k.field_row))).range in
    let second = ((legal_out t h).rows (p.trim - 1) (omega (arith, k.trim_row))).range in
    omega (
      arith,
      k.own_sum,
      weighted_most f (p.field - 1) first query.weights.field.0 light.field_weight.1,
      weighted_most t (p.trim - 1) second query.weights.trim.0 light.trim_weight.1,
    )

-- a pair's row in the table that is read, and in the other one; the flag says whether the field table is read
abbrev pub own_row : Bool → Pair → ℕ
own_row field p = cond field p.field p.trim

abbrev pub other_row : Bool → Pair → ℕ
other_row field p = cond field p.trim p.field

-- the pairs of rows a + 1 to b of the table that is read and rows c + 1 to d of the other one
pub record Between (field : Bool) (query : Query) (f t : Table) (a b c d : ℕ) (p : Pair) : Type 0 where
  pub fits : QualifyingPair query f t p
  pub own_part : (a < own_row field p) × (own_row field p ≤ b)
  pub other_part : (c < other_row field p) × (other_row field p ≤ d)

-- the region of two depths
abbrev pub Region : Query → Table → Table → ℕ → ℕ → Pair → Type 0
Region query f t d e = Between true query f t 0 d 0 e

-- the pair of field row i + 1 and trim row j + 1
abbrev pub pair_of_rows : Query → Table → Table → ℕ → ℕ → Pair
pair_of_rows query f t i j = record { sum = pair_sum (terms query) (row f i) (row t j); field = i + 1; trim = j + 1 }

-- ---- The rank of pairs

pub pair_rank : Rank ahead (λ p. p.sum)
unfolding Before
pair_rank = record {
  order = record { trans = ahead_trans; asym = ahead_asym; tri = ahead_tri };
  higher = λ p q h. before_ahead p q (inl h);
}

-- ---- Parts of a table

module _ (t : Table) (a n : ℕ) where
  count_part : a + n ≤ row_count t → row_count (part t a n) ≡ n
  count_part h = part_count t a n (has_rows t (a + n) h)

  count_part_le : row_count (part t a n) ≤ n
  count_part_le = part_most t a n

  first_part : 1 ≤ n → row (part t a n) 0 ≡ row t a
  first_part h =
      let zero_right : a + 0 ≡ a = omega arith in
      row_part t a n 0 (omega arith) ∙ ap (row t) zero_right

-- ---- The qualifying pairs

pub qualifying_distinct : (query : Query) (x y : Block) → Distinct (qualifying (terms query) x y)
unfolding qualifying pair_at
qualifying_distinct query x y =
    each_distinct (λ i. map (pair_at (terms query) x y i) (keep (meets i) js)) (λ p. p.field - 1 - x.start)
    (λ i p m.
    let r = mathlib.Core.List.Memᴰ.of_map (pair_at (terms query) x y i) (keep (meets i) js) m in
    omega (arith, ap (λ p. p.field) r.2))
    (λ i.
    map_distinct (pair_at (terms query) x y i) (λ p. p.trim - 1 - y.start) (λ j. omega arith) (keep (meets i) js)
    (keep_distinct (meets i) js (range_distinct 0 (row_count y.rows))))
    (range 0 (row_count x.rows)) (range_distinct 0 (row_count x.rows))
  where
    js : List ℕ
    js = range 0 (row_count y.rows)

    meets : ℕ → ℕ → Bool
    meets i j = near query (row x.rows i) (row y.rows j)

module _ (query : Query) (f t : Table) where
  rows_qualify_lem : (i j : ℕ) → i < row_count f → j < row_count t → near query (row f i) (row t j) ≡ true
      → QualifyingPair query f t (pair_of_rows query f t i j)
  rows_qualify_lem i j h k e =
      let a : i ≡ i + 1 - 1 = omega arith in
      let b : j ≡ j + 1 - 1 = omega arith in
      record {
        field_row = omega arith;
        trim_row = omega arith;
        near = subst₂ (λ i j. near query (row f i) (row t j) ≡ true) a b e;
        own_sum = ap₂ (λ i j. pair_sum (terms query) (row f i) (row t j)) a b;
      }

  -- a qualifying pair is known by its rows
  rows_known : (p : Pair) → QualifyingPair query f t p → p ≡ pair_of_rows query f t (p.field - 1) (p.trim - 1)
  rows_known p h =
      let a : p.field ≡ p.field - 1 + 1 = omega (arith, h.field_row.0) in
      let b : p.trim ≡ p.trim - 1 + 1 = omega (arith, h.trim_row.0) in
      λ z. record { sum = h.own_sum z; field = a z; trim = b z }

  -- the two tables in the other order
  between_swap : (a b c d : ℕ) (p : Pair) → Between true query f t c d a b p ↔ Between false query f t a b c d p
  between_swap a b c d p = (
    λ h. record { fits = h.fits; own_part = h.other_part; other_part = h.own_part },
    λ h. record { fits = h.fits; own_part = h.other_part; other_part = h.own_part },
  )

  -- a region, the table that is read first
  pub region_between : (field : Bool) (d e : ℕ) (p : Pair)
      → Region query f t d e p ↔ Between field query f t 0 (cond field d e) 0 (cond field e d) p
  region_between true d e p = (λ h. h, λ h. h)
  region_between false d e p = between_swap 0 e 0 d p

  -- the same, its depth in the table that is read being b
  pub region_read : (field : Bool) (b d e : ℕ) (p : Pair)
      → Region query f t (cond field b d) (cond field e b) p ↔ Between field query f t 0 b 0 (cond field e d) p
  region_read true b d e p = (λ h. h, λ h. h)
  region_read false b d e p = between_swap 0 b 0 d p

  module _ (a b c d : ℕ) where
    abbrev x : Block
    x = rows_between f a b

    abbrev y : Block
    y = rows_between t c d

    at_pair : (i j : ℕ) → i < b - a → j < d - c → pair_at (terms query) x y i j ≡ pair_of_rows query f t (a + i) (c + j)
    unfolding pair_at
    at_pair i j h k =
        λ z.
        record {
          sum = pair_sum (terms query) (row_part f a (b - a) i h z) (row_part t c (d - c) j k z);
          field = a + i + 1;
          trim = c + j + 1;
        }

    abbrev meets : ℕ → ℕ → Bool
    meets i j = near query (row x.rows i) (row y.rows j)

    meets_at : (i j : ℕ) → i < b - a → j < d - c
        → meets i j ≡ near query (row f (a + i)) (row t (c + j))
    meets_at i j h k =
        ap₂ (near query) (row_part f a (b - a) i h) (row_part t c (d - c) j k)

    pub mem_qualifying : b ≤ row_count f → d ≤ row_count t → (p : Pair)
        → Memᴰ p (qualifying (terms query) x y) ↔ Between true query f t a b c d p
    unfolding qualifying
    mem_qualifying hb hd p = (there, back)
      where
        is : List ℕ
        is = range 0 (row_count x.rows)

        js : List ℕ
        js = range 0 (row_count y.rows)

        pairs : ℕ → List Pair
        pairs i = map (pair_at (terms query) x y i) (keep (meets i) js)

        between : (i j : ℕ) → i < b - a → j < d - c → meets i j ≡ true → pair_at (terms query) x y i j ≡ p
            → Between true query f t a b c d p
        between i j h k m e =
            subst (Between true query f t a b c d) (sym (at_pair i j h k) ∙ e)
            (record {
              fits = rows_qualify_lem (a + i) (c + j) (omega arith) (omega arith) (sym (meets_at i j h k) ∙ m);
              own_part = omega arith;
              other_part = omega arith;
            })

        there : Memᴰ p (each pairs is) → Between true query f t a b c d p
        there m =
            let r = (mem_each pairs p is).0 m in
            let s = mathlib.Core.List.Memᴰ.of_map (pair_at (terms query) x y r.0) (keep (meets r.0) js) r.2 in
            let u = (mem_keep (meets r.0) s.0 js).0 s.1 in
            between r.0 s.0
            (omega (arith, (mem_range r.0 0 (row_count x.rows)).0 r.1, count_part_le f a (b - a)))
            (omega (arith, (mem_range s.0 0 (row_count y.rows)).0 u.0, count_part_le t c (d - c))) u.1 s.2

        back : Between true query f t a b c d p → Memᴰ p (each pairs is)
        back h =
            let i : ℕ = p.field - 1 - a in
            let j : ℕ = p.trim - 1 - c in
            let hi : i < b - a = omega (arith, h.own_part) in
            let hj : j < d - c = omega (arith, h.other_part) in
            let ei : a + i ≡ p.field - 1 = omega (arith, h.own_part) in
            let ej : c + j ≡ p.trim - 1 = omega (arith, h.other_part) in
            let m : meets i j ≡ true =
            meets_at i j hi hj
            ∙ ap₂ (λ u v. near query (row f u) (row t v)) ei ej
            ∙ h.fits.near in
            let e : p ≡ pair_at (terms query) x y i j =
            rows_known p h.fits ∙ ap₂ (pair_of_rows query f t) (sym ei) (sym ej) ∙ sym (at_pair i j hi hj) in
            let ri : Memᴰ i is =
            (mem_range i 0 (row_count x.rows)).1 (omega (arith, count_part f a (b - a) (omega arith))) in
            let rj : Memᴰ j js =
            (mem_range j 0 (row_count y.rows)).1 (omega (arith, count_part t c (d - c) (omega arith))) in
            let here = mathlib.Core.List.Memᴰ.map (pair_at (terms query) x y i) ((mem_keep (meets i) j js).1 (rj, m)) in
            (mem_each pairs p is).1 (i, ri, mathlib.Core.List.Memᴰ.cast e here)

    -- no sum between is above the first scores of both parts
    low_sums_lem : legal f ≡ true → legal t ≡ true → (p : Pair) → Between true query f t a b c d p
        → p.sum ≤ first_scores query x.rows y.rows
    unfolding pair_sum
    low_sums_lem g h p m =
        let in_f : (a < p.field) × (p.field ≤ b) = m.own_part in
        let in_t : (c < p.trim) × (p.trim ≤ d) = m.other_part in
        let first = legal_fall f g a (p.field - 1) (omega (arith, in_f)) (omega (arith, m.fits.field_row)) in
        let second = legal_fall t h c (p.trim - 1) (omega (arith, in_t)) (omega (arith, m.fits.trim_row)) in
        omega (
          arith,
          m.fits.own_sum,
          ap (terms query).field (first_part f a (b - a) (omega (arith, in_f))),
          ap (terms query).trim (first_part t c (d - c) (omega (arith, in_t))),
          field_up query (row f (p.field - 1)) (row f a) first,
          trim_up query (row t (p.trim - 1)) (row t c) second,
        )

-- ---- The same, whichever table is read

-- rows a + 1 to b of the table that is read, and rows c + 1 to d of the other one, as field and trim block
abbrev pub field_part : Bool → Table → Table → ℕ → ℕ → ℕ → ℕ → Block
field_part field f t a b c d = cond field (rows_between (cond field f t) a b) (rows_between (cond field t f) c d)

abbrev pub trim_part : Bool → Table → Table → ℕ → ℕ → ℕ → ℕ → Block
trim_part field f t a b c d = cond field (rows_between (cond field t f) c d) (rows_between (cond field f t) a b)

pub mem_between : (field : Bool) (query : Query) (f t : Table) (a b c d : ℕ) → b ≤ row_count (cond field f t)
    → d ≤ row_count (cond field t f) → (p : Pair)
    → Memᴰ p
    (qualifying (terms query) (field_part field f t a b c d) (trim_part field f t a b c d))
    ↔ Between field query f t a b c d p
mem_between true query f t a b c d hb hd p = mem_qualifying query f t a b c d hb hd p
mem_between false query f t a b c d hb hd p =
    let m = mem_qualifying query f t c d a b hd hb p in
    let e = between_swap query f t a b c d p in
    (λ i. e.0 (m.0 i), λ i. m.1 (e.1 i))

pub between_low : (field : Bool) (query : Query) (f t : Table) (a b c d : ℕ) → legal f ≡ true → legal t ≡ true
    → (p : Pair) → Between field query f t a b c d p
    → p.sum
    ≤ first_scores query (field_part field f t a b c d).rows (trim_part field f t a b c d).rows
between_low true query f t a b c d g h p m = low_sums_lem query f t a b c d g h p m
between_low false query f t a b c d g h p m =
    low_sums_lem query f t c d a b g h p ((between_swap query f t a b c d p).1 m)
