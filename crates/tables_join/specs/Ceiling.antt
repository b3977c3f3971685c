-- The rules' ceiling is the join's, what is secured is as high as any pair that is not out, and an unsettled session
-- lacks k sums at its ceiling. Assumes legal tables.
use Rattle.std.specs.Prelude.{◌≡◌, refl, Bool, false, cond, ◌&&◌, ◌||◌, not, ◌⊎◌, leb, eqb, length, take}
use Rattle.std.proofs.Math.Path.{sym, ap₂}
use Rattle.std.proofs.Common.{ap, subst, subst₂, ◌∙◌, ⊎_elim, leb-true, leb-false, le-leb, eqb-true, ne_eqb}
use Rattle.std.proofs.Math.Bool.{true}
use mathlib.Core.List.Memᴰ
use mathlib.Core.List.{List, map, Memᴰ}
use Rattle.std.proofs.Math.Logic.{inl, inr}
use Prim.Native.Nat.{ℕ, ◌+◌, ◌-◌, ◌≤◌, ◌<◌}
use native.Mathlib.Omega.{arith}
use Rattle.std.proofs.Math.Decide.{dec_le}
use Rattle.std.proofs.lemmas.Bool.{lt-leb, eqb-false}
use Rattle.lists.specs.Lists.{at_least, every}
use Rattle.lists.specs.Bools.{clash, cond_same}
use Rattle.lists.specs.Sorts.{all_at}
use Rattle.lists.specs.Parts.{every_of}
use Rattle.join.specs.Join as Join
use Rattle.join.specs.Join.{Side, sums_of, weight_at, region}
use Rattle.join.specs.Zero.{falling}
use Rattle.join.specs.Ceiling.{outside_low}
use Rattle.join.specs.HeldLaws.{held_cover}
use Rattle.rules.specs.declared.Pair.{Pair}
use Rattle.rules.specs.declared.Query.{Query}
use Rattle.rules.specs.declared.Session.{Session}
use Rattle.rules.specs.Tables.{Table, row_count, legal, Row, row, part, terms, pair_sum, qualifying}
use Rattle.rules.specs.Widths.{part_front}
use Rattle.rules.specs.Session.{read_out}
use Rattle.rules.specs.Session.{held_pairs, first_score, last_score, field_read_out, trim_read_out, both_read_out}
use Rattle.rules.specs.Session.{a_table_is_empty}
use Rattle.rules.specs.Session.{a_depth_is_zero, ceiling_by, ceiling, secured_by, secured, settled}
use Rattle.rules.specs.Read.{rows_between}
use Rattle.rules.specs.Take.{first_held}
use Rattle.session_laws.specs.Read.{unsettled_out}
use Rattle.tables_join.specs.Rows.{rows_of, rows_by, field_side, trim_side, near, Rises, field_rises, trim_rises}
use Rattle.tables_join.specs.Rows.{length_rows, rows_at, zero_read, legal_rows, rows_take, laws}
use Rattle.tables_join.specs.Sure.{sums_rows}
use Rattle.tables_join.specs.Pairs.{QualifyingPair, pair_satisfiable, Region, pair_rank, qualifying_distinct}
use Rattle.tables_join.specs.Pairs.{mem_qualifying}
use Rattle.tables_join.specs.Reached.{Reached, first_inside, first_best, read_out_region}

-- a reading within the table has ended it exactly if it has all rows
ended_is : (n rows depth : ℕ) → n ≡ rows → depth ≤ n → leb n depth ≡ eqb depth rows
ended_is n rows depth e h = go (eqb depth rows) refl
  where
    go : (b : Bool) → eqb depth rows ≡ b → leb n depth ≡ b
    go true z = le-leb n depth (omega (arith, eqb-true depth rows z))
    go false z = lt-leb n depth (let k = eqb-false depth rows z in omega arith)

weight_is : (weight : Row → ℕ) (t : Table) (i : ℕ) → i < row_count t
    → weight_at (falling (rows_by t.coordinates weight)) (rows_of t) i ≡ weight (row t i)
unfolding weight_at
weight_is weight t i h = ap weight (rows_at t i h)

-- what it takes to be secured
secured_cases : (f t : Table) (s : Session) (p : Pair) → secured f t s p ≡ true
    → (both_read_out f t s ≡ true) ⊎ (ceiling f t s ≤ p.sum)
unfolding secured_by
secured_cases f t s p h = go (a_depth_is_zero s && not (a_table_is_empty f t s)) (both_read_out f t s) h
  where
    go : (x y : Bool) → cond x false (cond y true (leb (ceiling f t s) p.sum)) ≡ true
        → (y ≡ true) ⊎ (ceiling f t s ≤ p.sum)
    go true y h = clash h refl
    go false true h = inl refl
    go false false h = inr (leb-true (ceiling f t s) p.sum h)

secured_high : (f t : Table) (s : Session) (p : Pair) → 1 ≤ s.depth.field.0 → 1 ≤ s.depth.trim.0
    → ceiling f t s ≤ p.sum → secured f t s p ≡ true
unfolding secured_by
secured_high f t s p hd he h =
    rw (
      ne_eqb s.depth.field.0 0 (λ z. omega arith),
      ne_eqb s.depth.trim.0 0 (λ z. omega arith),
      le-leb (ceiling f t s) p.sum h,
    )
    (cond_same (both_read_out f t s) true)

module _ {q : Query} {f t : Table} {out : List Pair} {s : Session} (a : Reached q f t out s) where
  abbrev d : ℕ
  d = s.depth.field.0

  abbrev e : ℕ
  e = s.depth.trim.0

  abbrev S : Side Row
  S = field_side f.coordinates q

  abbrev U : Side Row
  U = trim_side t.coordinates q

  abbrev F : List Row
  F = rows_of f

  abbrev T : List Row
  T = rows_of t

  pub field_ended : S.ended F d ≡ field_read_out f s
  unfolding read_out
  field_ended =
      ap₂ (λ a b. a || b)
      (ended_is (length F) s.rows.field.0 d (length_rows f ∙ sym a.field_rows_lem)
      (omega (arith, length_rows f, a.field_depth)))
      (zero_read (field_rises q a.accepted) f d a.field_depth)

  pub trim_ended : U.ended T e ≡ trim_read_out t s
  unfolding read_out
  trim_ended =
      ap₂ (λ a b. a || b)
      (ended_is (length T) s.rows.trim.0 e (length_rows t ∙ sym a.trim_rows_lem)
      (omega (arith, length_rows t, a.trim_depth)))
      (zero_read (trim_rises q a.accepted) t e a.trim_depth)

  module _ (hd : 1 ≤ d) (he : 1 ≤ e) where
    field_at : (i : ℕ) → i < d → weight_at S F i ≡ (terms s.query).field (row f i)
    field_at i h =
        weight_is (terms q).field f i (omega (arith, a.field_depth))
        ∙ ap (λ q. (terms q).field (row f i)) (sym a.query)

    trim_at : (i : ℕ) → i < e → weight_at U T i ≡ (terms s.query).trim (row t i)
    trim_at i h =
        weight_is (terms q).trim t i (omega (arith, a.trim_depth))
        ∙ ap (λ q. (terms q).trim (row t i)) (sym a.query)

    pub first_field : weight_at S F 0 ≡ first_score (terms s.query).field f
    first_field = field_at 0 (omega arith)

    pub last_field : weight_at S F (d - 1) ≡ last_score (terms s.query).field f d
    last_field = field_at (d - 1) (omega arith)

    pub first_trim : weight_at U T 0 ≡ first_score (terms s.query).trim t
    first_trim = trim_at 0 (omega arith)

    pub last_trim : weight_at U T (e - 1) ≡ last_score (terms s.query).trim t e
    last_trim = trim_at (e - 1) (omega arith)

    pub ceiling_rows : Join.ceiling S U F d T e ≡ ceiling f t s
    unfolding ceiling_by Join.ceiling
    ceiling_rows = rw (field_ended, trim_ended, first_field, last_field, first_trim, last_trim)

  -- ---- What lies outside the depths is no higher than the ceiling

  module _ (g : legal f ≡ true) (h : legal t ≡ true) where
    begins_itself : {weight : Row → ℕ} → Rises weight → (n : ℕ) (u : Table) → legal u ≡ true
        → Join.Begins (falling (rows_by u.coordinates weight)) n (rows_of u) (rows_of u)
    begins_itself rises n u l = record { legal = legal_rows u l rises; rows = refl; ends = λ k. refl }

    outside : 1 ≤ d → 1 ≤ e → (p : Pair) → QualifyingPair q f t p → (d < p.field) ⊎ (e < p.trim)
        → p.sum ≤ ceiling f t s
    unfolding pair_sum
    outside hd he p m o =
        let i : ℕ = p.field - 1 in
        let j : ℕ = p.trim - 1 in
        let hi : i < row_count f = omega (arith, m.field_row) in
        let hj : j < row_count t = omega (arith, m.trim_row) in
        let meets : near q (Join.row_at S F i) (Join.row_at U T j) ≡ true =
        ap₂ (near q) (rows_at f i hi) (rows_at t j hj) ∙ m.near in
        let met = pair_satisfiable q f t a.cards.same p m in
        let low =
        outside_low S U (near q) (laws q a.accepted f t a.cards.same met) F F T T d e i j
        (legal_rows f g (field_rises q a.accepted))
        (legal_rows t h (trim_rises q a.accepted)) hd he (begins_itself (field_rises q a.accepted) d f g)
        (begins_itself (trim_rises q a.accepted) e t h)
        (⊎_elim (λ z. inl (omega arith)) (λ z. inr (omega arith)) o) (omega (arith, length_rows f))
        (omega (arith, length_rows t)) meets in
        omega (
          arith,
          low,
          weight_is (terms q).field f i hi,
          weight_is (terms q).trim t j hj,
          m.own_sum,
          ceiling_rows hd he,
        )

    -- the first held pair, once secured: no pair that is not out has a higher sum
    pub secured_best : 1 ≤ s.held → secured f t s (first_held s) ≡ true → (p : Pair) → QualifyingPair q f t p
        → (Memᴰ p out → ⊥) → p.sum ≤ (first_held s).sum
    secured_best some z p m new = go (dec_le p.field d) (dec_le p.trim e)
      where
        first : Region q f t d e (first_held s)
        first = first_inside a some

        beyond : (d < p.field) ⊎ (e < p.trim) → p.sum ≤ (first_held s).sum
        beyond o =
            ⊎_elim (λ b. first_best a some p (read_out_region a g h b p m) new)
            (λ c. omega (arith, outside (omega (arith, first.own_part)) (omega (arith, first.other_part)) p m o))
            (secured_cases f t s (first_held s) z)

        go : Dec (p.field ≤ d) → Dec (p.trim ≤ e) → p.sum ≤ (first_held s).sum
        go (yes i) (yes j) =
            let in_f : (0 < p.field) × (p.field ≤ d) = omega (arith, m.field_row) in
            let in_t : (0 < p.trim) × (p.trim ≤ e) = omega (arith, m.trim_row) in
            first_best a some p (record { fits = m; own_part = in_f; other_part = in_t }) new
        go (yes i) (no j) = beyond (inr (omega arith))
        go (no i) (yes j) = beyond (inl (omega arith))
        go (no i) (no j) = beyond (inl (omega arith))

    -- ---- An unsettled session has fewer than k sums at its ceiling

    part_rows : (n : ℕ) (u : Table) → legal u ≡ true → rows_of (part u 0 (n - 0)) ≡ take n (rows_of u)
    part_rows n u l =
        let z : n - 0 ≡ n = omega arith in
        ap (λ m. rows_of (part u 0 m)) z ∙ ap rows_of (part_front u n) ∙ rows_take u l n

    abbrev pairs : List Pair
    pairs = qualifying (terms q) (rows_between f 0 d) (rows_between t 0 e)

    abbrev sums : List ℕ
    sums = sums_of S U (near q) (take d F) (take e T)

    region_sums : map (λ p. p.sum) pairs ≡ sums
    region_sums =
        sums_rows q f.coordinates t.coordinates (rows_between f 0 d) (rows_between t 0 e)
        ∙ ap₂ (sums_of S U (near q)) (part_rows d f g) (part_rows e t h)

    module _ (hd : 1 ≤ d) (he : 1 ≤ e) where
      covered : s.query.k ≤ at_least (ceiling f t s) sums
          → (s.out + s.held ≡ s.query.k) × (every (secured f t s) (held_pairs s) ≡ true)
      covered enough =
          let c =
          held_cover pair_rank a.keeping.holds (ceiling f t s) pairs
          (qualifying_distinct q (rows_between f 0 d) (rows_between t 0 e))
          (λ p m. (mem_qualifying q f t 0 d 0 e a.field_depth a.trim_depth p).0 m)
          (subst (λ m. s.query.k ≤ at_least (ceiling f t s) m) (sym region_sums) enough) in (
            omega (arith, c.0, a.keeping.counted, a.keeping.stored),
            every_of (secured f t s) (held_pairs s)
                (λ p m.
                secured_high f t s p hd he
                (all_at (λ n. ceiling f t s ≤ n) p.sum c.1 (Memᴰ.map (λ p. p.sum) m))),
          )

      pub unsettled_short : settled f t s ≡ false
          → region S U (near q) (Join.ceiling S U F d T e) F d T e < q.k
      unsettled_short u =
          subst₂ (λ c k. at_least c sums < k) (sym (ceiling_rows hd he)) (ap (λ q. q.k) a.query)
          (go (leb s.query.k (at_least (ceiling f t s) sums)) refl)
        where
          go : (b : Bool) → leb s.query.k (at_least (ceiling f t s) sums) ≡ b
              → at_least (ceiling f t s) sums < s.query.k
          go true z =
              let c = covered (leb-true s.query.k (at_least (ceiling f t s) sums) z) in
              absurd ((unsettled_out f t s u).unsecured c.0 c.1)
          go false z = leb-false s.query.k (at_least (ceiling f t s) sums) z
