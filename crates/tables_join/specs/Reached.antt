-- The records of a session over two tables: opening reaches the first, reads and takes go on from any, none is refused
-- by 5, and finished the list is complete. Assumes legal tables.
use Rattle.std.specs.Prelude.{◌≡◌, refl, true, false, ◌&&◌, ◌||◌, ◌⊎◌, ◌↔◌, ℕ, ◌≤◌, ◌<◌, ◌+◌, ◌-◌, take}
use Rattle.std.proofs.Common.{sym, ap₂, ◌∙◌, arith}
use Rattle.std.proofs.Math.Path.{ap, subst}
use Rattle.std.proofs.Math.Bool.{Bool, cond}
use mathlib.Core.List.{List, [], ◌∷◌, ◌++◌, Memᴰ}
use Rattle.std.proofs.Math.Logic.{inl, inr, ⊎_elim}
use Rattle.std.proofs.Math.Decide.{dec_le}
use Rattle.std.proofs.Math.Dec.{eqb}
use Rattle.std.proofs.Math.ListN.{length, length-append}
use borrow.Author.Tests.{eqb-true}
use Rattle.lists.specs.Bools.{clash, and_out, or_out}
use Rattle.lists.specs.Parts.{every_of}
use Rattle.join.specs.Held.{Holds}
use Rattle.join.specs.HeldLaws.{holds_none, holds_out, first_highest, held_inside, held_new, none_held, held_ranked}
use Rattle.join.specs.HeldLaws.{held_room}
use Rattle.rules.specs.declared.Pair.{Pair}
use Rattle.rules.specs.declared.Query.{Query}
use Rattle.rules.specs.declared.Session.{Session}
use Rattle.rules.specs.declared.Counts.{Counts}
use Rattle.rules.specs.Tables.{Table, row_count, unsatisfiable, row, ahead, legal}
use Rattle.rules.specs.Session.{is_empty, held_pairs, opened, both_read_out, a_table_is_empty, field_read_out}
use Rattle.rules.specs.Session.{trim_read_out}
use Rattle.rules.specs.Session.{two_tables, nothing_qualifies, settled}
use Rattle.rules.specs.Read.{read_to, new_depth, read_table_by, read_table, read_block}
use Rattle.rules.specs.Take.{first_held, moved_out, finished}
use Rattle.rules.specs.Calls.{query_code, is_card, pair_fits, record_fits}
use Rattle.session_laws.specs.Calls.{OneCard}
use Rattle.session_laws.specs.ReadOut.{rows_qualify_out, live_above, live_never}
use Rattle.session_laws.specs.Tables.{legal_out}
use Rattle.session_laws.specs.Record.{query_out, pair_in_lem, record_in}
use Rattle.session_laws.specs.Read.{new_grows, new_within, own_within, Kept, met_all, met_all_keeps, rows_read}
use Rattle.session_laws.specs.Read.{read_deeper}
use Rattle.session_laws.specs.Take.{held_first}
use Rattle.session_laws.specs.Sound.{Sound, sound_read, sound_take}
use Rattle.tables_join.specs.Pairs.{QualifyingPair, own_row, Between, Region, pair_rank, region_between}
use Rattle.tables_join.specs.Pairs.{pair_satisfiable, sum_most, region_read}
use Rattle.tables_join.specs.Held.{Keeping, keeping_same, all_blocks_hold}

-- a record of a session over tables f and t, the pairs of `out` being out
pub record Reached (q : Query) (f t : Table) (out : List Pair) (s : Session) : Type 0 where
  pub accepted : query_code q ≡ 0
  pub cards : OneCard f t
  pub card : s.rows.card ≡ f.coordinates
  pub query : s.query ≡ q
  pub field_rows_lem : s.rows.field.0 ≡ row_count f
  pub trim_rows_lem : s.rows.trim.0 ≡ row_count t
  pub field_depth : s.depth.field.0 ≤ row_count f
  pub trim_depth : s.depth.trim.0 ≤ row_count t
  pub keeping : Keeping (Region q f t s.depth.field.0 s.depth.trim.0) out s

-- ---- Opening

pub open_reached : (q : Query) (f t : Table) → query_code q ≡ 0 → OneCard f t
    → Reached q f t [] (opened q (two_tables f t))
unfolding opened
open_reached q f t accepted cards = record {
  accepted = accepted;
  cards = cards;
  card = refl;
  query = refl;
  field_rows_lem = refl;
  trim_rows_lem = refl;
  field_depth = omega arith;
  trim_depth = omega arith;
  keeping = record {
    counted = refl;
    stored = refl;
    rest = [];
    holds = holds_none pair_rank q.k (Region q f t 0 0) (λ p h. omega (arith, h.own_part));
  };
}

-- ---- Read

-- the region down to new depths: the old one, and the new rows with the other table's
between_more : (field : Bool) (query : Query) (f t : Table) (a b c : ℕ) (p : Pair) → a ≤ b
    → (Between field query f t 0 a 0 c p ⊎ Between field query f t a b 0 c p) ↔ Between field query f t 0 b 0 c p
between_more field query f t a b c p h = (
  ⊎_elim (λ r. record { fits = r.fits; own_part = omega (arith, r.own_part); other_part = r.other_part })
      (λ r. record { fits = r.fits; own_part = omega (arith, r.own_part); other_part = r.other_part }),
  λ r. go r (dec_le (own_row field p) a),
)
  where
    go : Between field query f t 0 b 0 c p → Dec (own_row field p ≤ a)
        → Between field query f t 0 a 0 c p ⊎ Between field query f t a b 0 c p
    go r (yes k) = inl (record { fits = r.fits; own_part = (r.own_part.0, k); other_part = r.other_part })
    go r (no k) = inr (record { fits = r.fits; own_part = omega (arith, r.own_part); other_part = r.other_part })

module _ (field : Bool) (f t : Table) (g : legal f ≡ true) (h : legal t ≡ true) (out : List Pair) (s : Session)
    (size : 1 ≤ s.query.block) (a : Reached s.query f t out s) where
  abbrev d : ℕ
  d = s.depth.field.0

  abbrev e : ℕ
  e = s.depth.trim.0

  abbrev b : ℕ
  b = new_depth field s

  abbrev query : Query
  query = s.query

  field_in : d ≤ s.rows.field.0
  field_in = omega (arith, a.field_depth, a.field_rows_lem)

  trim_in : e ≤ s.rows.trim.0
  trim_in = omega (arith, a.trim_depth, a.trim_rows_lem)

  down : (cond field b d ≤ row_count f) × (cond field e b ≤ row_count t)
  down = let k = new_within s field_in trim_in field
      in (omega (arith, a.field_rows_lem), omega (arith, a.trim_rows_lem))

  parts : (b ≤ row_count (cond field f t)) × (cond field e d ≤ row_count (cond field t f))
  parts = own_within field f t b d e down.0 down.1

  -- the old region, and the new rows with the other table's
  abbrev Old : Pair → Type 0
  Old = Between field query f t 0 (cond field d e) 0 (cond field e d)

  abbrev New : Pair → Type 0
  New = Between field query f t (cond field d e) b 0 (cond field e d)

  old_holds : Keeping Old out s
  old_holds = keeping_same (Region query f t d e) Old out s (region_between query f t field d e) a.keeping

  met_holds : Keeping (Region query f t (cond field b d) (cond field e b)) out (met_all field f t s)
  met_holds =
      keeping_same (λ p. Old p ⊎ New p) (Region query f t (cond field b d) (cond field e b)) out (met_all field f t s)
      same_region
      (all_blocks_hold field f t g h s (cond field d e) b (cond field e d) parts.0 parts.1 Old
      (λ p r. r.own_part.1) out old_holds size)
    where
      same_region : (p : Pair) → (Old p ⊎ New p) ↔ Region query f t (cond field b d) (cond field e b) p
      same_region p =
          let deeper = new_grows s field_in trim_in field in
          let more = between_more field query f t (cond field d e) b (cond field e d) p deeper in
          let new = region_read query f t field b d e p in
          (λ r. new.1 (more.0 r), λ r. more.1 (new.0 r))

  read_same_query : Reached s.query f t out (read_table field f t s)
  unfolding read_table_by read_to
  read_same_query =
      let met : Session = met_all field f t s in
      let same : Kept s met = met_all_keeps field f t s in
      let deep : Counts → Pair → Type 0 =
      λ c. Region query f t (cond field b c.field.0) (cond field c.trim.0 b) in
      record {
        accepted = a.accepted;
        cards = a.cards;
        card = ap (λ c. c.card) same.rows ∙ a.card;
        query = same.query;
        field_rows_lem = ap (λ c. c.field.0) same.rows ∙ a.field_rows_lem;
        trim_rows_lem = ap (λ c. c.trim.0) same.rows ∙ a.trim_rows_lem;
        field_depth = subst (λ c. cond field b c.field.0 ≤ row_count f) (sym same.depth) down.0;
        trim_depth = subst (λ c. cond field c.trim.0 b ≤ row_count t) (sym same.depth) down.1;
        keeping =
            record {
              counted = met_holds.counted;
              stored = met_holds.stored;
              rest = met_holds.rest;
              holds =
                  subst (λ c. Holds ahead met.query.k (deep c) out met_holds.rest (held_pairs met))
                  (sym same.depth) met_holds.holds;
            };
      }

pub read_reached : (field : Bool) {q : Query} {f t : Table} {out : List Pair} {s : Session} → Reached q f t out s
    → legal f ≡ true → legal t ≡ true → 1 ≤ q.block → Reached q f t out (read_table field f t s)
read_reached field {q} {f} {t} {out} {s} a g h size =
    subst (λ q. Reached q f t out (read_table field f t s)) a.query
    (read_same_query field f t g h out s (subst (λ q. 1 ≤ q.block) (sym a.query) size)
    (subst (λ q. Reached q f t out s) (sym a.query) a))

-- ---- Take

module _ {q : Query} {f t : Table} {out : List Pair} {s : Session} (a : Reached q f t out s) where
  abbrev R : Pair → Type 0
  R = Region q f t s.depth.field.0 s.depth.trim.0

  module _ (some : 1 ≤ s.held) where
    abbrev left : (m : List Pair) × (held_pairs s ≡ first_held s ∷ m) × (held_pairs (moved_out s) ≡ m)
        × (length m ≡ s.held - 1)
    left = held_first s a.keeping.stored some

    first_holds : Holds ahead s.query.k R out a.keeping.rest (first_held s ∷ left.0)
    first_holds = subst (Holds ahead s.query.k R out a.keeping.rest) left.1 a.keeping.holds

    -- it is a pair of the region
    pub first_inside : R (first_held s)
    first_inside = held_inside pair_rank first_holds (first_held s) (Memᴰ.head refl)

    -- not yet out
    pub first_new : Memᴰ (first_held s) out → ⊥
    first_new = held_new pair_rank first_holds (first_held s) (Memᴰ.head refl)

    -- and no pair of the region that is not out has a higher sum
    pub first_best : (p : Pair) → R p → (Memᴰ p out → ⊥) → p.sum ≤ (first_held s).sum
    first_best = first_highest pair_rank first_holds

    pub take_reached : Reached q f t (out ++ first_held s ∷ []) (moved_out s)
    unfolding moved_out
    take_reached =
        let h = holds_out pair_rank first_holds in
        record {
          accepted = a.accepted;
          cards = a.cards;
          card = a.card;
          query = a.query;
          field_rows_lem = a.field_rows_lem;
          trim_rows_lem = a.trim_rows_lem;
          field_depth = a.field_depth;
          trim_depth = a.trim_depth;
          keeping =
              record {
                counted = omega (arith, a.keeping.counted, length-append out (first_held s ∷ []));
                stored = ap length left.2 ∙ left.3;
                rest = h.0;
                holds =
                    subst (Holds ahead s.query.k R (out ++ first_held s ∷ []) h.0) (sym left.2) h.1;
              };
        }

  -- ---- The list is complete

  module _ (x : legal f ≡ true) (y : legal t ≡ true) where
    -- read out, the region has every pair
    pub read_out_region : both_read_out f t s ≡ true → (p : Pair) → QualifyingPair q f t p → R p
    read_out_region e p h =
        let live = rows_qualify_out q (row f (p.field - 1)) (row t (p.trim - 1)) h.near in
        let b = and_out (field_read_out f s) (trim_read_out t s) e in
        let first =
        live_above f x s.rows.field.0 s.depth.field.0 p.field a.field_rows_lem h.field_row live.0
        b.0 in
        let second =
        live_above t y s.rows.trim.0 s.depth.trim.0 p.trim a.trim_rows_lem h.trim_row live.1 b.1 in
        record { fits = h; own_part = (h.field_row.0, first); other_part = (h.trim_row.0, second) }

    pub empty_none : a_table_is_empty f t s ≡ true → (p : Pair) → QualifyingPair q f t p → ⊥
    empty_none e p h =
        let live = rows_qualify_out q (row f (p.field - 1)) (row t (p.trim - 1)) h.near in
        let m = s.rows.field.0 in
        let n = s.rows.trim.0 in
        ⊎_elim (λ z. live_never f x m s.depth.field.0 p.field a.field_rows_lem h.field_row live.0 z)
        (λ z. live_never t y n s.depth.trim.0 p.trim a.trim_rows_lem h.trim_row live.1 z)
        (or_out (is_empty f m s.depth.field.0) (is_empty t n s.depth.trim.0) e)

    unsatisfiable_none : nothing_qualifies s ≡ true → (p : Pair) → QualifyingPair q f t p → ⊥
    unsatisfiable_none u p h =
        clash (sym (ap₂ unsatisfiable a.query a.card) ∙ u) (pair_satisfiable q f t a.cards.same p h)

    abbrev Complete : Type 0
    Complete = (length out ≡ q.k) ⊎ ((p : Pair) → QualifyingPair q f t p → Memᴰ p out)

    pub finished_complete : finished f t s ≡ true → Complete
    unfolding finished
    finished_complete e =
        ⊎_elim (λ z. inl (sym a.keeping.counted ∙ eqb-true s.out s.query.k z ∙ wanted))
        (λ z.
        ⊎_elim (λ u. inr (λ p h. absurd (unsatisfiable_none u p h)))
        (λ y.
        ⊎_elim (λ n. inr (λ p h. absurd (empty_none n p h)))
        (λ n. none (and_out (both_read_out f t s) (eqb s.held 0) n))
        (or_out (a_table_is_empty f t s) read y))
        (or_out (nothing_qualifies s) (a_table_is_empty f t s || read) z))
        (or_out (eqb s.out s.query.k) (nothing_qualifies s || (a_table_is_empty f t s || read)) e)
      where
        read : Bool
        read = both_read_out f t s && eqb s.held 0

        wanted : s.query.k ≡ q.k
        wanted = ap (λ q. q.k) a.query

        none : (both_read_out f t s ≡ true) × (eqb s.held 0 ≡ true) → Complete
        none n =
            let held : ℕ → Type 0 = λ m. Holds ahead s.query.k R out a.keeping.rest (take m s.pairs) in
            ⊎_elim (λ z. inl (z ∙ wanted)) (λ z. inr (λ p h. z p (read_out_region n.0 p h)))
            (none_held pair_rank (subst held (eqb-true s.held 0 n.1) a.keeping.holds))

  -- ---- The record is never refused

  field_within_rows : s.depth.field.0 ≤ s.rows.field.0
  field_within_rows = omega (arith, a.field_depth, a.field_rows_lem)

  trim_within_rows : s.depth.trim.0 ≤ s.rows.trim.0
  trim_within_rows = omega (arith, a.trim_depth, a.trim_rows_lem)

  pub reached_room : s.out + s.held ≤ s.query.k
  reached_room = omega (arith, held_room pair_rank a.keeping.holds, a.keeping.counted, a.keeping.stored)

  own_size : 1 ≤ q.block → 1 ≤ s.query.block
  own_size size = subst (λ q. 1 ≤ q.block) (sym a.query) size

  -- an unsettled read raises a depth
  pub read_deepens : 1 ≤ q.block → settled f t s ≡ false → rows_read s < rows_read (read_block f t s)
  read_deepens size u = read_deeper f t s u (own_size size) field_within_rows trim_within_rows

  pub read_sound : Sound s → 1 ≤ q.block → settled f t s ≡ false → Sound (read_block f t s)
  read_sound b size u = sound_read f t s b (own_size size) field_within_rows trim_within_rows u

  pub take_sound : Sound s → 1 ≤ s.held → Sound (moved_out s)
  take_sound b some = sound_take s b a.keeping.stored some

  pairs_fit : legal f ≡ true → legal t ≡ true → (p : Pair) → R p → pair_fits s p ≡ true
  pairs_fit x y p m =
      pair_in_lem s p
      (record {
        field_row = (m.fits.field_row.0, m.own_part.1);
        trim_row = (m.fits.trim_row.0, m.other_part.1);
        low_sum_lem = sum_most q f t (query_out q a.accepted) x y p m.fits;
      })

  -- every ground of 5
  pub reached_fits : Sound s → legal f ≡ true → legal t ≡ true → record_fits s ≡ true
  reached_fits h x y =
      record_in s
      (record {
        query = query_out s.query (ap query_code a.query ∙ a.accepted);
        field =
            record {
              few = omega (arith, (legal_out f x).size.few, a.field_rows_lem);
              within = field_within_rows;
              whole = h.field_whole;
            };
        trim =
            record {
              few = omega (arith, (legal_out t y).size.few, a.trim_rows_lem);
              within = trim_within_rows;
              whole = h.trim_whole;
            };
        room = reached_room;
        pairs =
            every_of (pair_fits s) (held_pairs s)
            (λ p m. pairs_fit x y p (held_inside pair_rank a.keeping.holds p m));
        rank = held_ranked pair_rank a.keeping.holds;
        mark = h.mark;
        zeros = h.cleared;
        joined = h.joined;
        depths = h.depths;
        card = subst (λ n. is_card n ≡ true) (sym a.card) a.cards.known;
      })
