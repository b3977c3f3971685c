-- The rules' sure readings are the join's, and a test on the rows read says which they are (docs/WHY-IT-HOLDS.md,
-- step 3). Assumes legal tables.
use Rattle.std.specs.Prelude.{◌≡◌, Bool, cond, ◌&&◌, ◌||◌, true, List, [], map, ◌↔◌, ℕ, ◌+◌, max, ◌-◌, leb, eqb, take}
use Rattle.std.proofs.Math.Path.{sym, ap, ap₂, refl}
use Rattle.std.proofs.Common.{subst, ◌∙◌, arith, le-leb, eqb-true}
use Rattle.std.proofs.Math.Bool.{false}
use Rattle.std.proofs.lemmas.Simd.{map-map}
use Rattle.std.proofs.lemmas.Bool.{lt-leb, eqb-false}
use Rattle.lists.specs.Lists.{at_least, keep, range, each, best}
use Rattle.lists.specs.Parts.{map_each, each_map, keep_map}
use Rattle.join.specs.Join as Join
use Rattle.join.specs.Join.{Side, sums_of, weight_at, sure_test}
use Rattle.join.specs.Plain.{PlainLegal}
use Rattle.join.specs.Zero.{falling}
use Rattle.join.specs.Sure.{sure_is}
use Rattle.rules.specs.declared.FieldRows.{FieldRows}
use Rattle.rules.specs.declared.TrimRows.{TrimRows}
use Rattle.rules.specs.declared.Query.{Query}
use Rattle.rules.specs.Tables.{Table}
use Rattle.rules.specs.Tables.{row_count, legal, Row, row, withdrawn, Terms, terms, pair_sum, Block, pair_at}
use Rattle.rules.specs.Tables.{qualifying}
use Rattle.rules.specs.Tables.{first_rows, unsatisfiable}
use Rattle.rules.proofs.ToleranceLaws.{nothing_listed}
use Rattle.rules.specs.Session.{withdrawn_within, first_score, last_score}
use Rattle.rules.specs.Calls.{query_code}
use Rattle.rules.specs.Sure.{qualifying_sums, whole, Begins, Sure}
use Rattle.session_laws.specs.Record.{query_out}
use Rattle.tables_join.specs.Rows.{rows_of, rows_by, field_side, trim_side, near, Rises, flat, Wide, length_rows}
use Rattle.tables_join.specs.Rows.{legal_rows, field_rises, trim_rises, rows_flat, flat_rows, legal_wide}
use Rattle.tables_join.specs.Rows.{wide_rows}
use Rattle.tables_join.specs.Rows.{row_at, weight_zero, zero_legal, flat_take, rows_take, flat_legal, laws}

-- a reading of n rows has read a table out: its last row, or a withdrawn one, is within it
unfoldable pub read_out_by : Table → ℕ → Bool
read_out_by t n = leb (row_count t) n || withdrawn_within t n

-- it shows that the table is empty: there are no rows, or the first one is within it and withdrawn
unfoldable pub empty_by : Table → ℕ → Bool
empty_by t n = eqb (row_count t) 0 || (leb 1 n && withdrawn (row t 0))

-- the ceiling of a reading: the higher of HF + LT, unless trim is read out, and LF + HT, unless field is
unfoldable pub ceiling_at : Query → Table → Table → FieldRows → TrimRows → ℕ
ceiling_at query f t p q =
    let w = terms query in
    max
    (cond (read_out_by t q.0) 0 (first_score w.field f + last_score w.trim t q.0))
    (cond (read_out_by f p.0) 0 (last_score w.field f p.0 + first_score w.trim t))

-- nothing can qualify, or a table is empty, or both are read out, or rows of both are read and k sums of theirs are at
-- least the ceiling
unfoldable pub is_sure : Query → Table → Table → FieldRows → TrimRows → Bool
is_sure query f t p q =
    let sums = qualifying_sums query (first_rows p.0 f) (first_rows q.0 t) in
    unsatisfiable query f.coordinates
    || (empty_by f p.0
    || (empty_by t q.0
    || ((read_out_by f p.0 && read_out_by t q.0)
    || (leb 1 p.0 && (leb 1 q.0 && leb query.k (at_least (ceiling_at query f t p q) sums))))))

-- ---- The sums of the tables are those of their rows

-- the sums of the qualifying pairs of two blocks
pub sums_rows : (query : Query) (m n : ℕ) (x y : Block)
    → map (λ p. p.sum) (qualifying (terms query) x y)
    ≡ sums_of (field_side m query) (trim_side n query) (near query) (rows_of x.rows) (rows_of y.rows)
unfolding qualifying sums_of rows_of pair_at pair_sum
sums_rows query m n x y =
    map_each (λ p. p.sum) (λ i. map (pair_at (terms query) x y i) (keep (meets i) js)) is
    ∙ ap (λ f. each f is) (λ k i. line i k)
    ∙ sym (each_map (row x.rows) (λ a. map (λ b. w.field a + w.trim b) (keep (near query a) ys)) is)
  where
    w : Terms
    w = terms query

    is : List ℕ
    is = range 0 (row_count x.rows)

    js : List ℕ
    js = range 0 (row_count y.rows)

    ys : List Row
    ys = map (row y.rows) js

    meets : ℕ → ℕ → Bool
    meets i j = near query (row x.rows i) (row y.rows j)

    added : ℕ → Row → ℕ
    added i b = w.field (row x.rows i) + w.trim b

    line : (i : ℕ)
        → map (λ p. p.sum) (map (pair_at (terms query) x y i) (keep (meets i) js))
        ≡ map (added i) (keep (near query (row x.rows i)) ys)
    line i =
        map-map (λ p. p.sum) (pair_at (terms query) x y i) (keep (meets i) js)
        ∙ sym (map-map (added i) (row y.rows) (keep (meets i) js))
        ∙ ap (map (added i)) (sym (keep_map (row y.rows) (near query (row x.rows i)) js))

-- tables that begin alike have rows that do, and the other way round
module _ {weight : Row → ℕ} (rises : Rises weight) (n : ℕ) (t : Table) (g : legal t ≡ true) where
  abbrev c : ℕ
  c = t.coordinates

  abbrev side : Side Row
  side = falling (rows_by c weight)

  begins_flat : (l : List Row) → Join.Begins side n (rows_of t) l → Begins n t (flat c l)
  begins_flat l b = record {
    lawful = flat_legal rises l b.legal;
    alike =
        flat_take c n l (legal_wide l b.legal)
        ∙ ap (flat c) (sym b.rows)
        ∙ sym (flat_take c n (rows_of t) (wide_rows t g))
        ∙ ap (first_rows n) (flat_rows t g);
    ends = λ h. ap (flat c) (b.ends (omega (arith, length_rows t))) ∙ flat_rows t g;
  }

  begins_rows : (u : Table) → Begins n t u → Join.Begins side n (rows_of t) (rows_of u)
  begins_rows u b = record {
    legal =
        subst (λ m. PlainLegal (rows_by m weight) (rows_of u)) (ap (λ v. v.coordinates) b.alike)
        (legal_rows u b.lawful rises);
    rows = sym (rows_take t g n) ∙ ap rows_of (sym b.alike) ∙ rows_take u b.lawful n;
    ends = λ h. ap rows_of (b.ends (omega (arith, length_rows t)));
  }

-- a reading is sure of the tables exactly if it is sure of their rows
module _ (query : Query) (accepted : query_code query ≡ 0) (f t : Table) (m : FieldRows) (n : TrimRows)
    (g : legal f ≡ true) (h : legal t ≡ true) where
  abbrev S : Side Row
  S = field_side f.coordinates query

  abbrev U : Side Row
  U = trim_side t.coordinates query

  abbrev k : ℕ
  k = query.k

  -- rows written out, as a field table and as a trim table
  abbrev flat_f : List Row → Table
  flat_f = flat f.coordinates

  abbrev flat_t : List Row → Table
  flat_t = flat t.coordinates

  flat_sums : (F T : List Row) → Wide f.coordinates F → Wide t.coordinates T
      → best k (map (λ p. p.sum) (qualifying (terms query) (whole (flat_f F)) (whole (flat_t T))))
      ≡ best k (sums_of S U (near query) F T)
  flat_sums F T v w =
      ap (best k)
      (sums_rows query f.coordinates t.coordinates (whole (flat_f F)) (whole (flat_t T))
      ∙ ap₂ (sums_of S U (near query)) (rows_flat f.coordinates F v) (rows_flat t.coordinates T w))

  to_field : (F : List Row) → Join.Begins S m.0 (rows_of f) F → Begins m.0 f (flat_f F)
  to_field = begins_flat (field_rises query accepted) m.0 f g

  to_trim : (T : List Row) → Join.Begins U n.0 (rows_of t) T → Begins n.0 t (flat_t T)
  to_trim = begins_flat (trim_rises query accepted) n.0 t h

  of_field : (u : Table) → Begins m.0 f u → Join.Begins S m.0 (rows_of f) (rows_of u)
  of_field = begins_rows (field_rises query accepted) m.0 f g

  of_trim : (u : Table) → Begins n.0 t u → Join.Begins U n.0 (rows_of t) (rows_of u)
  of_trim = begins_rows (trim_rises query accepted) n.0 t h

  pub sure_rows : Sure query f t m n ↔ Join.Sure S U (near query) k (rows_of f) m.0 (rows_of t) n.0
  unfolding Sure qualifying_sums
  sure_rows = (
    λ s. record {
      same =
          λ F₁ F₂ T₁ T₂ a b c d.
          sym (flat_sums F₁ T₁ (legal_wide F₁ a.legal) (legal_wide T₁ c.legal))
          ∙ s (flat_f F₁) (flat_f F₂) (flat_t T₁) (flat_t T₂) (to_field F₁ a) (to_field F₂ b) (to_trim T₁ c)
          (to_trim T₂ d)
          ∙ flat_sums F₂ T₂ (legal_wide F₂ b.legal) (legal_wide T₂ d.legal);
    },
    λ s. λ f₁ f₂ t₁ t₂ a b c d. ap (best k) (sums_rows query f.coordinates t.coordinates (whole f₁) (whole t₁))
        ∙ s.same (rows_of f₁) (rows_of f₂) (rows_of t₁) (rows_of t₂) (of_field f₁ a) (of_field f₂ b) (of_trim t₁ c)
        (of_trim t₂ d)
        ∙ ap (best k) (sym (sums_rows query f.coordinates t.coordinates (whole f₂) (whole t₂))),
  )

-- ---- The test says what a sure reading is

none_is : (n : ℕ) → leb n 0 ≡ eqb n 0
none_is n = go (eqb n 0) refl
  where
    go : (b : Bool) → eqb n 0 ≡ b → leb n 0 ≡ b
    go true e = le-leb n 0 (omega (arith, eqb-true n 0 e))
    go false e = lt-leb n 0 (let k = eqb-false n 0 e in omega arith)

weight_at_lem : (weight : Row → ℕ) (t : Table) → legal t ≡ true → (i : ℕ)
    → weight_at (falling (rows_by t.coordinates weight)) (rows_of t) i ≡ weight (row t i)
unfolding weight_at
weight_at_lem weight t g i = ap weight (row_at t g i)

-- what a reading of the rows has ended, or shows to be empty
module _ {weight : Row → ℕ} (rises : Rises weight) (t : Table) (g : legal t ≡ true) (n : ℕ) where
  ended_by : (falling (rows_by t.coordinates weight)).ended (rows_of t) n ≡ read_out_by t n
  unfolding read_out_by
  ended_by = rw (length_rows t, zero_legal rises t n g)

  empty_by_lem : (falling (rows_by t.coordinates weight)).empty (rows_of t) n ≡ empty_by t n
  unfolding empty_by
  empty_by_lem = rw (length_rows t, none_is (row_count t), row_at t g 0, weight_zero rises (row t 0))

-- ---- Where nothing can qualify every reading is sure, 0 and 0 too: no table that begins so has a qualifying sum

module _ (query : Query) (f t : Table) (cards : f.coordinates ≡ t.coordinates)
    (u : unsatisfiable query f.coordinates ≡ true) (m : FieldRows) (n : TrimRows) where
  no_sums : (f₁ t₁ : Table) → Begins m.0 f f₁ → Begins n.0 t t₁ → qualifying_sums query f₁ t₁ ≡ []
  unfolding qualifying_sums
  no_sums f₁ t₁ a b =
      let wide : f₁.coordinates ≡ f.coordinates = ap (λ t. t.coordinates) a.alike in
      let wide₁ : t₁.coordinates ≡ t.coordinates = ap (λ t. t.coordinates) b.alike in
      ap (map (λ p. p.sum))
      (nothing_listed query f₁ t₁ (wide ∙ cards ∙ sym wide₁) (ap (unsatisfiable query) wide ∙ u) 0 0)

  pub unsatisfiable_sure : Sure query f t m n
  unfolding Sure
  unsatisfiable_sure f₁ f₂ t₁ t₂ a b c d =
      ap (best query.k) (no_sums f₁ t₁ a c ∙ sym (no_sums f₂ t₂ b d))

module _ (query : Query) (accepted : query_code query ≡ 0) (f t : Table) (g : legal f ≡ true) (h : legal t ≡ true)
    (m : FieldRows) (n : TrimRows) where
  abbrev side_f : Side Row
  side_f = field_side f.coordinates query

  abbrev side_t : Side Row
  side_t = trim_side t.coordinates query

  abbrev first : Rises (terms query).field
  first = field_rises query accepted

  abbrev second : Rises (terms query).trim
  second = trim_rises query accepted

  ceiling_at_lem : Join.ceiling side_f side_t (rows_of f) m.0 (rows_of t) n.0
      ≡ ceiling_at query f t m n
  unfolding ceiling_at Join.ceiling
  ceiling_at_lem =
      let w = terms query in
      rw (
        ended_by first f g m.0,
        ended_by second t h n.0,
        weight_at_lem w.field f g 0,
        weight_at_lem w.field f g (m.0 - 1),
        weight_at_lem w.trim t h 0,
        weight_at_lem w.trim t h (n.0 - 1),
      )

  reading_sums : qualifying_sums query (first_rows m.0 f) (first_rows n.0 t)
      ≡ sums_of side_f side_t (near query) (take m.0 (rows_of f)) (take n.0 (rows_of t))
  unfolding qualifying_sums
  reading_sums =
      sums_rows query f.coordinates t.coordinates (whole (first_rows m.0 f)) (whole (first_rows n.0 t))
      ∙ ap₂ (sums_of side_f side_t (near query)) (rows_take f g m.0) (rows_take t h n.0)

  -- unless nothing can qualify, the test is the join's
  test_is : unsatisfiable query f.coordinates ≡ false
      → sure_test side_f side_t (near query) query.k (rows_of f) m.0 (rows_of t) n.0 ≡ is_sure query f t m n
  unfolding sure_test is_sure
  test_is met =
      rw (
        met,
        empty_by_lem first f g m.0,
        empty_by_lem second t h n.0,
        ended_by first f g m.0,
        ended_by second t h n.0,
        ceiling_at_lem,
        reading_sums,
      )

  -- a reading is sure of k exactly if the test passes
  pub sure_is_test : f.coordinates ≡ t.coordinates → Sure query f t m n ↔ (is_sure query f t m n ≡ true)
  unfolding is_sure
  sure_is_test cards = go (unsatisfiable query f.coordinates) refl
    where
      by_join : unsatisfiable query f.coordinates ≡ false → Sure query f t m n ↔ (is_sure query f t m n ≡ true)
      by_join met =
          let a = sure_rows query accepted f t m n g h in
          let b =
          sure_is side_f side_t (near query) (laws query accepted f t cards met) query.k (rows_of f) (rows_of t)
          (legal_rows f g (field_rises query accepted)) (legal_rows t h (trim_rises query accepted))
          (query_out query accepted).k.0 m.0 n.0 in
          (λ s. sym (test_is met) ∙ b.0 (a.0 s), λ e. a.1 (b.1 (test_is met ∙ e)))

      go : (b : Bool) → unsatisfiable query f.coordinates ≡ b → Sure query f t m n ↔ (is_sure query f t m n ≡ true)
      go true u = (λ s. rw u, λ e. unsatisfiable_sure query f t cards u m n)
      go false u = by_join u
