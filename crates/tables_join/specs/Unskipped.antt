-- "Skipping never changes them": every accepted read, of a forged record too, holds what it would hold had it skipped
-- nothing. Assumes nothing.
use Rattle.std.specs.Prelude.{◌≡◌, refl, Bool, cond, true, false, ◌⊎◌, length}
use Rattle.std.proofs.Common.{sym, ap, subst₂, ◌∙◌, arith, length-take}
use Rattle.std.proofs.Math.Path.{ap₂, subst}
use mathlib.Core.List.Memᴰ
use mathlib.Core.List.{List, ◌++◌, Memᴰ}
use Rattle.std.proofs.Math.Logic.{inl, inr, ⊎_elim}
use Prim.Native.Nat.{ℕ, zero, suc, ◌-◌, ◌+◌, ◌*◌, ◌≤◌, min}
use Rattle.std.proofs.Math.Nat.{suc-mul}
use Rattle.std.proofs.Math.ListN.{take}
use Rattle.lists.specs.Lists.{sort, ranked}
use Rattle.lists.specs.Parts.{append_distinct, every_at}
use Rattle.lists.specs.Members.{mem_take, mem_sort, sort_ranked, ranked_take, ranked_distinct}
use Rattle.rules.specs.declared.Pair.{Pair}
use Rattle.rules.specs.declared.Query.{Query}
use Rattle.rules.specs.declared.Session.{Session}
use Rattle.rules.specs.Tables.{Table, terms, ahead, Block, qualifying, row_count, legal, first_rows}
use Rattle.rules.specs.Meaning.{first_scores}
use Rattle.rules.specs.Session.{held_pairs}
use Rattle.rules.specs.Read.{rows_between, block_count, block_at, old_depth, new_depth, field_next, best_held, meet}
use Rattle.rules.specs.Read.{meet_blocks_by, meet_blocks, read_to, read_table_by, read_table, read_block}
use Rattle.rules.specs.Calls.{pair_fits, call_code, new_block_code}
use Rattle.session_laws.specs.Record.{PairFits, pair_out, RecordFits}
use Rattle.session_laws.specs.Calls.{Accepted, call_out, NewRowsFit, new_block_out, read_rows}
use Rattle.session_laws.specs.Read.{new_grows, new_within, own_within, Kept, blocks_keep}
use Rattle.session_laws.specs.Alike.{SameRows, same_part, cut_same, cut_count, cut_legal, same_new, same_old}
use Rattle.session_laws.specs.Alike.{same_blocks}
use Rattle.tables_join.specs.Pairs.{QualifyingPair, sum_most, own_row, other_row, Between, pair_rank}
use Rattle.tables_join.specs.Pairs.{qualifying_distinct, mem_between}
use Rattle.tables_join.specs.Pairs.{between_low}
use Rattle.tables_join.specs.Held.{meet_held, meet_stored, meet_room}

-- ---- The pairs that a read which skips no block pair holds

-- after the new block met the first n blocks of the other table
unfoldable pub held_unskipped : Bool → Session → Block → Table → ℕ → ℕ → List Pair
held_unskipped field s new t depth zero = held_pairs s
held_unskipped field s new t depth (suc n) =
    let old = block_at t s.query.block depth n in
    let met = qualifying (terms s.query) (cond field new old) (cond field old new) in
    take (s.query.k - s.out) (sort ahead (held_unskipped field s new t depth n ++ met))

-- after one block of the field table, or of the trim table
unfoldable pub read_unskipped : Bool → Table → Table → Session → List Pair
read_unskipped field f t s =
    let depth = cond field s.depth.trim.0 s.depth.field.0 in
    held_unskipped field s (rows_between (cond field f t) (old_depth field s) (new_depth field s)) (cond field t f)
    depth
    (block_count s.query.block depth)

-- ---- Blocks of legal tables

-- what a record holds while the new block meets the others: ranked, as many as it says, with those out at most k, no
-- pair of blocks yet to come, each pair a P, and what it would hold had it skipped nothing
pub record Unskipping (P : Pair → Type 0) (field : Bool) (a m : ℕ) (l : List Pair) (r : Session) : Type 0 where
  pub stored : length (held_pairs r) ≡ r.held
  pub in_rank : ranked ahead (held_pairs r) ≡ true
  pub room : r.out + r.held ≤ r.query.k
  pub seen : (p : Pair) → Memᴰ p (held_pairs r) → (own_row field p ≤ a) ⊎ (other_row field p ≤ m)
  pub each : (p : Pair) → Memᴰ p (held_pairs r) → P p
  pub same : held_pairs r ≡ l

module _ (field : Bool) (f t : Table) (g : legal f ≡ true) (h : legal t ≡ true) (s : Session) (a b c : ℕ)
    (hb : b ≤ row_count (cond field f t)) (hc : c ≤ row_count (cond field t f)) (P : Pair → Type 0)
    (fit : (p : Pair) → QualifyingPair s.query f t p → P p) where
  abbrev new : Block
  new = rows_between (cond field f t) a b

  abbrev after : ℕ → Session
  after n = meet_blocks field s new (cond field t f) c n

  abbrev unskipped : ℕ → List Pair
  unskipped n = held_unskipped field s new (cond field t f) c n

  block_unskipping : (n : ℕ) → Unskipping P field a (n * s.query.block) (unskipped n) (after n)
      → Unskipping P field a (suc n * s.query.block) (unskipped (suc n)) (after (suc n))
  unfolding meet_blocks_by held_unskipped best_held
  block_unskipping n u = record {
    stored = meet_stored (after n) x y u.stored;
    room = meet_room (after n) x y u.room;
    in_rank =
        subst (λ l. ranked ahead l ≡ true) (sym held)
        (ranked_take ahead pair_rank.order left (sort ahead (held_pairs (after n) ++ met))
        (sort_ranked ahead pair_rank.order (held_pairs (after n) ++ met)
        (append_distinct (held_pairs (after n)) met
        (ranked_distinct ahead pair_rank.order (held_pairs (after n)) u.in_rank)
        (qualifying_distinct (after n).query x y) fresh)));
    seen =
        λ p m. ⊎_elim (λ k. ⊎_elim inl (λ z. inr (omega (arith, suc-mul n B))) (u.seen p k))
        (λ k. inr (omega (arith, suc-mul n B, (inside p k).other_part))) (old_or_met p m);
    each =
        λ p m. ⊎_elim (u.each p)
        (λ k. fit p (subst (λ query. QualifyingPair query f t p) kept.query (inside p k).fits)) (old_or_met p m);
    same =
        held
        ∙ ap₂ (λ k l. take k (sort ahead l)) (ap₂ (λ q o. q.k - o) kept.query kept.out)
        (ap₂ (λ l query. l ++ qualifying (terms query) x y) u.same kept.query);
  }
    where
      B : ℕ
      B = s.query.block

      old : Block
      old = block_at (cond field t f) B c n

      x : Block
      x = cond field new old

      y : Block
      y = cond field old new

      left : ℕ
      left = (after n).query.k - (after n).out

      met : List Pair
      met = qualifying (terms (after n).query) x y

      kept : Kept s (after n)
      kept = blocks_keep field s new (cond field t f) c n

      query : Query
      query = (after n).query

      inside : (p : Pair) → Memᴰ p met → Between field query f t a b (n * B) (min (n * B + B) c) p
      inside p m = (mem_between field query f t a b (n * B) (min (n * B + B) c) hb (omega arith) p).0 m

      low : (p : Pair) → Memᴰ p met
          → p.sum ≤ first_scores query x.rows y.rows
      low p m = between_low field query f t a b (n * B) (min (n * B + B) c) g h p (inside p m)

      held : held_pairs (meet (after n) x y) ≡ take left (sort ahead (held_pairs (after n) ++ met))
      held = meet_held (after n) x y u.stored u.in_rank u.room low

      old_or_met : (p : Pair) → Memᴰ p (held_pairs (meet (after n) x y))
          → Memᴰ p (held_pairs (after n)) ⊎ Memᴰ p met
      old_or_met p m =
          Memᴰ.append_cases (held_pairs (after n))
          ((mem_sort ahead p (held_pairs (after n) ++ met)).0
          (mem_take left p (sort ahead (held_pairs (after n) ++ met)) (subst (Memᴰ p) held m)))

      fresh : (p : Pair) → Memᴰ p (held_pairs (after n)) → Memᴰ p met → ⊥
      fresh p i j =
          ⊎_elim (λ z. omega (arith, (inside p j).own_part)) (λ z. omega (arith, (inside p j).other_part)) (u.seen p i)

  module _ (stored : length (held_pairs s) ≡ s.held) (in_rank : ranked ahead (held_pairs s) ≡ true)
      (room : s.out + s.held ≤ s.query.k)
      (seen : (p : Pair) → Memᴰ p (held_pairs s) → own_row field p ≤ a)
      (each : (p : Pair) → Memᴰ p (held_pairs s) → P p) where
    unskipping : (n : ℕ) → Unskipping P field a (n * s.query.block) (unskipped n) (after n)
    unfolding meet_blocks_by held_unskipped
    unskipping zero = record {
      stored = stored;
      in_rank = in_rank;
      room = room;
      seen = λ p m. inl (seen p m);
      each = each;
      same = refl;
    }
    unskipping (suc n) = block_unskipping n (unskipping n)

-- ---- The rows that a read looks at

same_held_unskipped : (field : Bool) (s : Session) (new : Block) (t u : Table) (depth n : ℕ) → SameRows depth t u
    → held_unskipped field s new u depth n ≡ held_unskipped field s new t depth n
unfolding held_unskipped
same_held_unskipped field s new t u depth zero e = refl
same_held_unskipped field s new t u depth (suc n) e =
    ap₂
    (λ l old.
    take (s.query.k - s.out)
    (sort ahead (l ++ qualifying (terms s.query) (cond field new old) (cond field old new))))
    (same_held_unskipped field s new t u depth n e)
    (same_part depth t u e (n * s.query.block) (min (n * s.query.block + s.query.block) depth) (omega arith))

-- the rows of a held pair lie within the depths
held_own : (field : Bool) (s : Session) (p : Pair) → PairFits s p → own_row field p ≤ old_depth field s
held_own true s p h = h.field_row.1
held_own false s p h = h.trim_row.1

depths_grow : (field : Bool) (s : Session) → old_depth field s ≤ new_depth field s
    → (s.depth.field.0 ≤ cond field (new_depth field s) s.depth.field.0)
    × (s.depth.trim.0 ≤ cond field s.depth.trim.0 (new_depth field s))
depths_grow true s h = (h, omega arith)
depths_grow false s h = (omega arith, h)

module _ (field : Bool) (f t : Table) (s : Session) (a : Accepted f t s) (new : NewRowsFit field f t s)
    (places : length s.pairs ≡ 64) where
  abbrev m : ℕ
  m = cond field (new_depth field s) s.depth.field.0

  abbrev n : ℕ
  n = cond field s.depth.trim.0 (new_depth field s)

  -- the rows that the read looks at, as tables by themselves
  abbrev f' : Table
  f' = first_rows m f

  abbrev t' : Table
  t' = first_rows n t

  abbrev fits : RecordFits s
  fits = a.lent.fits

  down : (m ≤ s.rows.field.0) × (n ≤ s.rows.trim.0)
  down = new_within s fits.field.within fits.trim.within field

  m_within : m ≤ row_count f
  m_within = omega (arith, down, a.lent.field.count)

  n_within : n ≤ row_count t
  n_within = omega (arith, down, a.lent.trim.count)

  -- the depth of the other table, and the new block of tables f and t
  abbrev c : ℕ
  c = cond field s.depth.trim.0 s.depth.field.0

  abbrev new_of : Table → Table → Block
  new_of f t = rows_between (cond field f t) (old_depth field s) (new_depth field s)

  -- with its depth after the read each held pair is one that 5 lets pass
  abbrev pub deeper : Session
  deeper = read_to field (new_depth field s) s

  abbrev UnskippingOver : Table → Table → ℕ → Type 0
  UnskippingOver f t i =
      Unskipping (PairFits deeper) field (old_depth field s) (i * s.query.block)
      (held_unskipped field s (new_of f t) (cond field t f) c i) (meet_blocks field s (new_of f t) (cond field t f) c i)

  grown : (s.depth.field.0 ≤ m) × (s.depth.trim.0 ≤ n)
  grown = depths_grow field s (new_grows s fits.field.within fits.trim.within field)

  deep : (deeper.depth.field.0 ≡ m) × (deeper.depth.trim.0 ≡ n)
  unfolding read_to
  deep = (refl, refl)

  old_fits : (p : Pair) → PairFits s p → PairFits deeper p
  old_fits p h = record {
    field_row = (h.field_row.0, omega (arith, deep, grown, h.field_row));
    trim_row = (h.trim_row.0, omega (arith, deep, grown, h.trim_row));
    low_sum_lem = h.low_sum_lem;
  }

  new_fits : legal f' ≡ true → legal t' ≡ true → (p : Pair) → QualifyingPair s.query f' t' p → PairFits deeper p
  new_fits g h p k = record {
    field_row = (k.field_row.0, omega (arith, deep, cut_count f m m_within, k.field_row));
    trim_row = (k.trim_row.0, omega (arith, deep, cut_count t n n_within, k.trim_row));
    low_sum_lem = sum_most s.query f' t' fits.query g h p k;
  }

  cut_unskipping : (i : ℕ) → UnskippingOver f' t' i
  cut_unskipping =
      let good = read_rows field f t s a new in
      let d = s.depth.field.0 in
      let e = s.depth.trim.0 in
      let has_m : m ≤ row_count f' = omega (arith, cut_count f m m_within) in
      let has_n : n ≤ row_count t' = omega (arith, cut_count t n n_within) in
      let cut = own_within field f' t' (new_depth field s) d e has_m has_n in
      let legal_f = cut_legal f m m_within (omega (arith, down, fits.field.few)) good.0 in
      let legal_t = cut_legal t n n_within (omega (arith, down, fits.trim.few)) good.1 in
      let old : (p : Pair) → Memᴰ p (held_pairs s) → PairFits s p =
      λ p i. pair_out s p (every_at (pair_fits s) p fits.pairs i) in
      unskipping field f' t' legal_f legal_t s (old_depth field s) (new_depth field s) c cut.0 cut.1
      (PairFits deeper) (new_fits legal_f legal_t)
      (length-take s.held s.pairs ∙ omega (arith, fits.room, fits.query.k)) fits.rank fits.room
      (λ p i. held_own field s p (old p i)) (λ p i. old_fits p (old p i))

  -- and so over the tables lent
  pub read_unskipping : (i : ℕ) → UnskippingOver f t i
  read_unskipping i =
      let same_f = cut_same f m m_within in
      let same_t = cut_same t n n_within in
      let block = same_new field f t f' t' s same_f same_t in
      let rest = same_old field f t f' t' s same_f same_t in
      subst₂ (Unskipping (PairFits deeper) field (old_depth field s) (i * s.query.block))
      (ap (λ new. held_unskipped field s new (cond field t' f') c i) block
      ∙ same_held_unskipped field s (new_of f t) (cond field t f) (cond field t' f') c i rest)
      (ap (λ new. meet_blocks field s new (cond field t' f') c i) block
      ∙ same_blocks field s (new_of f t) (cond field t f) (cond field t' f') c i rest)
      (cut_unskipping i)

  table_unskipped : held_pairs (read_table field f t s) ≡ read_unskipped field f t s
  unfolding read_table_by read_to read_unskipped
  table_unskipped = (read_unskipping (block_count s.query.block c)).same

-- every accepted read, over any slices and of any record with its 64 places
pub skipping_changes_nothing : (f t : Table) (s : Session) → call_code f t s ≡ 0 → new_block_code f t s ≡ 0
    → length s.pairs ≡ 64 → held_pairs (read_block f t s) ≡ read_unskipped (field_next f t s) f t s
skipping_changes_nothing f t s a b places =
    table_unskipped (field_next f t s) f t s (call_out f t s a) (new_block_out f t s b) places
