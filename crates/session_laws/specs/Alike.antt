-- Every rule of read and take looks only at row counts and at the rows up to the depths that it leaves; and the first
-- rows of a table are a table by themselves. Assumes nothing.
use Rattle.std.specs.Prelude.{◌≡◌, ◌&&◌, ◌||◌, [], leb}
use Rattle.std.proofs.Math.Path.{refl, ap, ap₂}
use Rattle.std.proofs.Common.{sym, ◌∙◌, arith, lit≤, ltb-true}
use Rattle.std.proofs.Math.Bool.{Bool, true, false, cond, not}
use Prim.Native.Nat.{ℕ, zero, suc, ◌+◌, ◌*◌, ◌-◌, ◌≤◌, ◌<◌, min}
use Rattle.std.proofs.Math.Decide.{dec_le}
use Rattle.std.proofs.Math.Dec.{ltb, eqb}
use Rattle.std.proofs.lemmas.Bool.{eqb-false}
use Rattle.lists.specs.Lists.{every}
use Rattle.lists.specs.Bools.{or_none_out}
use Rattle.lists.specs.Parts.{every_same}
use Rattle.rules.specs.declared.Pair.{Pair}
use Rattle.rules.specs.declared.Session.{Session}
use Rattle.rules.specs.Tables.{Table, table, shade_at}
use Rattle.rules.specs.Tables.{num, most_rows, row_count, row_in_range, row_in_order, legal, nat_of, row, withdrawn}
use Rattle.rules.specs.Tables.{Terms}
use Rattle.rules.specs.Tables.{terms, width, first_rows, part, Block}
use Rattle.rules.specs.Widths.{has_rows, first_length, first_count, first_num, first_shade, first_first, part_first}
use Rattle.rules.specs.Widths.{part_none}
use Rattle.rules.specs.Session.{withdrawn_within, read_out, is_empty, nothing_qualifies}
use Rattle.rules.specs.Session.{held_pairs, first_score, last_score, field_read_out, trim_read_out, both_read_out}
use Rattle.rules.specs.Session.{a_table_is_empty, a_depth_is_zero, ceiling_by, ceiling, secured_by, secured, settled_by}
use Rattle.rules.specs.Session.{settled}
use Rattle.rules.specs.Read.{score_drop, field_next_by, field_next, rows_between, block_count, meet, meet_blocks_by}
use Rattle.rules.specs.Read.{meet_blocks}
use Rattle.rules.specs.Read.{read_to}
use Rattle.rules.specs.Read.{old_depth, new_depth, read_table_by, read_table}
use Rattle.rules.specs.Take.{finished}
use Rattle.session_laws.specs.Tables.{range_is, order_first, order_next, RowFits, legal_in}

-- two tables with the same first n rows
abbrev pub SameRows : ℕ → Table → Table → Type 0
SameRows n t u = first_rows n u ≡ first_rows n t

pub same_less : (m n : ℕ) (t u : Table) → m ≤ n → SameRows n t u → SameRows m t u
same_less m n t u h e = sym (first_first u n m h) ∙ ap (first_rows m) e ∙ first_first t n m h

-- ---- Rows and parts

module _ (n : ℕ) (t u : Table) (same : SameRows n t u) where
  -- a pattern number or a score
  same_num : (i j : ℕ) → i < n → j < 2 → num u i j ≡ num t i j
  same_num i j h k =
      sym (first_num u n i j h (omega arith)) ∙ ap (λ l. num l i j) same ∙ first_num t n i j h (omega arith)

  same_shade : (i : ℕ) → i < n → shade_at u i ≡ shade_at t i
  same_shade i h = sym (first_shade u n i h) ∙ ap (λ l. shade_at l i) same ∙ first_shade t n i h

  same_row : (i : ℕ) → i < n → row u i ≡ row t i
  unfolding row
  same_row i h =
      λ k.
      record {
        pattern = nat_of (same_num i 0 h (lit≤ tt) k);
        score = nat_of (same_num i 1 h (lit≤ tt) k);
        shade = same_shade i h k;
      }

  same_fits : (i : ℕ) → i < n → RowFits t i → RowFits u i
  same_fits i h fits = record { range = range; order = order i h fits.order }
    where
      range : row_in_range u i ≡ true
      range =
          range_is u i
          ∙ rw (same_num i 0 h (lit≤ tt), same_num i 1 h (lit≤ tt), same_shade i h) (sym (range_is t i) ∙ fits.range)

      order : (i : ℕ) → i < n → row_in_order t i ≡ true → row_in_order u i ≡ true
      order zero h e = order_first u
      order (suc i) h e =
          order_next u i
          ∙ rw (same_num (suc i) 1 h (lit≤ tt), same_num i 1 (omega arith) (lit≤ tt)) (sym (order_next t i) ∙ e)

  pub same_part : (a b : ℕ) → b ≤ n → rows_between u a b ≡ rows_between t a b
  same_part a b h = ap (λ l. record { start = a; rows = l }) (go (dec_le a b))
    where
      go : Dec (a ≤ b) → part u a (b - a) ≡ part t a (b - a)
      go (yes k) =
          let e : a + (b - a) ≤ n = omega arith in
          sym (part_first u n a (b - a) e) ∙ ap (λ l. part l a (b - a)) same ∙ part_first t n a (b - a) e
      go (no k) =
          let z : b - a ≡ 0 = omega arith in
          ap (part u a) z
          ∙ part_none u a
          ∙ ap (λ l. table l.coordinates []) same
          ∙ sym (ap (part t a) z ∙ part_none t a)

-- ---- Read out, and empty

module _ (n : ℕ) (t u : Table) (same : SameRows n t u) where
  same_within : (k : ℕ) → k ≤ n → withdrawn_within u k ≡ withdrawn_within t k
  unfolding withdrawn_within
  same_within zero h = refl
  same_within (suc k) h =
      ap₂ (λ a b. a || b) (same_within k (omega arith)) (ap withdrawn (same_row n t u same k (omega arith)))

  same_read_out : (rows : ℕ) → read_out u rows n ≡ read_out t rows n
  unfolding read_out
  same_read_out rows = ap (λ b. eqb n rows || b) (same_within n (omega arith))

  same_empty : (rows : ℕ) → is_empty u rows n ≡ is_empty t rows n
  unfolding is_empty
  same_empty rows = ap (λ b. eqb rows 0 || b) (go (ltb 0 n) refl)
    where
      go : (b : Bool) → ltb 0 n ≡ b → (b && withdrawn (row u 0)) ≡ (b && withdrawn (row t 0))
      go true e = ap withdrawn (same_row n t u same 0 (ltb-true 0 n e))
      go false e = refl

-- ---- The first n rows of a table, as a table by themselves

module _ (t : Table) (n : ℕ) (fits : n ≤ row_count t) where
  pub cut_same : SameRows n t (first_rows n t)
  cut_same = first_first t n n (omega arith)

  pub cut_count : row_count (first_rows n t) ≡ n
  cut_count = first_count t n (has_rows t n fits)

  -- it is legal where its rows are refused neither by 6 nor by 7
  pub cut_legal : n ≤ most_rows → ((i : ℕ) → i < n → RowFits t i) → legal (first_rows n t) ≡ true
  cut_legal few good =
      legal_in (first_rows n t)
      (record {
        size =
            record {
              few = omega (arith, cut_count);
              whole = ap (◌*◌ (width t.coordinates)) cut_count ∙ sym (first_length t n (has_rows t n fits));
            };
        rows =
            λ i h.
            let k : i < n = omega (arith, cut_count) in
            same_fits n t (first_rows n t) cut_same i k (good i k);
      })

-- ---- Judging

module _ (f t f' t' : Table) (s : Session) (ef : SameRows s.depth.field.0 f f')
    (et : SameRows s.depth.trim.0 t t') where
  abbrev d : ℕ
  d = s.depth.field.0

  abbrev e : ℕ
  e = s.depth.trim.0

  abbrev w : Terms
  w = terms s.query

  field_out : field_read_out f' s ≡ field_read_out f s
  field_out = same_read_out d f f' ef s.rows.field.0

  trim_out : trim_read_out t' s ≡ trim_read_out t s
  trim_out = same_read_out e t t' et s.rows.trim.0

  both_out : both_read_out f' t' s ≡ both_read_out f t s
  both_out = ap₂ (λ a b. a && b) field_out trim_out

  either_empty : a_table_is_empty f' t' s ≡ a_table_is_empty f t s
  either_empty =
      ap₂ (λ a b. a || b) (same_empty d f f' ef s.rows.field.0) (same_empty e t t' et s.rows.trim.0)

  module _ (hd : 1 ≤ d) (he : 1 ≤ e) where
    first_field : first_score w.field f' ≡ first_score w.field f
    first_field = ap w.field (same_row d f f' ef 0 (omega arith))

    last_field : last_score w.field f' d ≡ last_score w.field f d
    last_field = ap w.field (same_row d f f' ef (d - 1) (omega arith))

    first_trim : first_score w.trim t' ≡ first_score w.trim t
    first_trim = ap w.trim (same_row e t t' et 0 (omega arith))

    last_trim : last_score w.trim t' e ≡ last_score w.trim t e
    last_trim = ap w.trim (same_row e t t' et (e - 1) (omega arith))

    same_ceiling : ceiling f' t' s ≡ ceiling f t s
    unfolding ceiling_by
    same_ceiling = rw (field_out, trim_out, first_field, last_field, first_trim, last_trim)

  some_field : a_depth_is_zero s ≡ false → 1 ≤ d
  some_field z = let k = eqb-false d 0 (or_none_out (eqb d 0) (eqb e 0) z).0 in omega arith

  some_trim : a_depth_is_zero s ≡ false → 1 ≤ e
  some_trim z = let k = eqb-false e 0 (or_none_out (eqb d 0) (eqb e 0) z).1 in omega arith

  pub same_secured : a_table_is_empty f t s ≡ false → (p : Pair) → secured f' t' s p ≡ secured f t s p
  unfolding secured_by
  same_secured live p =
      (λ i. judged (a_depth_is_zero s) (either_empty i) (both_out i) (ceiling f' t' s)) ∙ go (a_depth_is_zero s) refl
    where
      judged : Bool → Bool → Bool → ℕ → Bool
      judged none empty out c = cond (none && not empty) false (cond out true (leb c p.sum))

      go : (b : Bool) → a_depth_is_zero s ≡ b
          → judged b (a_table_is_empty f t s) (both_read_out f t s) (ceiling f' t' s)
          ≡ judged b (a_table_is_empty f t s) (both_read_out f t s) (ceiling f t s)
      go true z = rw live
      go false z =
          ap (judged false (a_table_is_empty f t s) (both_read_out f t s)) (same_ceiling (some_field z) (some_trim z))

  pub same_settled : settled f' t' s ≡ settled f t s
  unfolding settled_by
  same_settled =
      (λ i. rule (either_empty i) (both_out i) (every (secured f' t' s) (held_pairs s)))
      ∙ go (a_table_is_empty f t s) refl
    where
      rule : Bool → Bool → Bool → Bool
      rule none out all =
          nothing_qualifies s
          || (none || (out || (eqb s.out s.query.k || (eqb (s.out + s.held) s.query.k && all))))

      go : (b : Bool) → a_table_is_empty f t s ≡ b
          → rule b (both_read_out f t s) (every (secured f' t' s) (held_pairs s))
          ≡ rule b (both_read_out f t s) (every (secured f t s) (held_pairs s))
      go true z = refl
      go false z =
          ap (rule false (both_read_out f t s))
          (every_same (secured f' t' s) (secured f t s) (held_pairs s) (λ p m. same_secured z p))

  pub same_finished : finished f' t' s ≡ finished f t s
  unfolding finished
  same_finished =
      λ i. eqb s.out s.query.k || (nothing_qualifies s || (either_empty i || (both_out i && eqb s.held 0)))

  pub same_next : field_next f' t' s ≡ field_next f t s
  unfolding field_next_by
  same_next =
      (λ i. rule (eqb d 0) (eqb e 0) (trim_out i) (field_out i) (score_drop w.field f' d) (score_drop w.trim t' e))
      ∙ go (eqb d 0) (eqb e 0) refl refl
    where
      rule : Bool → Bool → Bool → Bool → ℕ → ℕ → Bool
      rule x y trim field m n =
          cond x true
          (cond y false (cond trim true (cond field false (cond (ltb m n) true (cond (ltb n m) false (leb d e))))))

      go : (x y : Bool) → eqb d 0 ≡ x → eqb e 0 ≡ y
          → rule x y (trim_read_out t s) (field_read_out f s) (score_drop w.field f' d) (score_drop w.trim t' e)
          ≡ rule x y (trim_read_out t s) (field_read_out f s) (score_drop w.field f d) (score_drop w.trim t e)
      go true y p q = refl
      go false true p q = refl
      go false false p q =
          let hd : 1 ≤ d = let k = eqb-false d 0 p in omega arith in
          let he : 1 ≤ e = let k = eqb-false e 0 q in omega arith in
          ap₂ (rule false false (trim_read_out t s) (field_read_out f s))
          (ap₂ (λ a b. a - b) (first_field hd he) (last_field hd he))
          (ap₂ (λ a b. a - b) (first_trim hd he) (last_trim hd he))

-- ---- Reading

pub same_blocks : (field : Bool) (s : Session) (new : Block) (t u : Table) (depth n : ℕ) → SameRows depth t u
    → meet_blocks field s new u depth n ≡ meet_blocks field s new t depth n
unfolding meet_blocks_by
same_blocks field s new t u depth zero e = refl
same_blocks field s new t u depth (suc n) e =
    ap₂ (λ r old. meet r (cond field new old) (cond field old new)) (same_blocks field s new t u depth n e)
    (same_part depth t u e (n * s.query.block) (min (n * s.query.block + s.query.block) depth) (omega arith))

-- of tables alike down to the depths after the read, the table that is read and the other one
module _ (f t f' t' : Table) (b d e : ℕ) where
  same_own : (field : Bool) → SameRows (cond field b d) f f' → SameRows (cond field e b) t t'
      → SameRows b (cond field f t) (cond field f' t')
  same_own true h k = h
  same_own false h k = k

  same_other : (field : Bool) → SameRows (cond field b d) f f' → SameRows (cond field e b) t t'
      → SameRows (cond field e d) (cond field t f) (cond field t' f')
  same_other true h k = k
  same_other false h k = h

-- the new block and the other table's rows
module _ (field : Bool) (f t f' t' : Table) (s : Session)
    (h : SameRows (cond field (new_depth field s) s.depth.field.0) f f')
    (k : SameRows (cond field s.depth.trim.0 (new_depth field s)) t t') where
  pub same_new : rows_between (cond field f' t') (old_depth field s) (new_depth field s)
      ≡ rows_between (cond field f t) (old_depth field s) (new_depth field s)
  same_new =
      same_part (new_depth field s) (cond field f t) (cond field f' t')
      (same_own f t f' t' (new_depth field s) s.depth.field.0 s.depth.trim.0 field h k) (old_depth field s)
      (new_depth field s) (omega arith)

  pub same_old : SameRows (cond field s.depth.trim.0 s.depth.field.0) (cond field t f) (cond field t' f')
  same_old = same_other f t f' t' (new_depth field s) s.depth.field.0 s.depth.trim.0 field h k

  pub same_read : read_table field f' t' s ≡ read_table field f t s
  unfolding read_table_by
  same_read =
      let c : ℕ = cond field s.depth.trim.0 s.depth.field.0 in
      let n : ℕ = block_count s.query.block c in
      let new : Block = rows_between (cond field f t) (old_depth field s) (new_depth field s) in
      ap (read_to field (new_depth field s))
      (ap (λ new. meet_blocks field s new (cond field t' f') c n) same_new
      ∙ same_blocks field s new (cond field t f) (cond field t' f') c n same_old)
