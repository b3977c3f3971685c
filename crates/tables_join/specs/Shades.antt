-- Pairs, depths and their limit are not altered by the shade rule: every accepted read, of a forged record too, holds
-- the pairs that it would hold without it, at the same depths, and its joined count is no higher. Assumes nothing.
use Rattle.std.specs.Prelude.{◌≡◌, refl, Bool, cond, ◌&&◌, ◌||◌, List, ◌++◌, eqb, ltb}
use Rattle.std.proofs.Math.Path.{sym, ap, subst}
use Rattle.std.proofs.Common.{◌∙◌, arith}
use Rattle.std.proofs.Math.Bool.{true, false}
use Prim.Native.Nat.{ℕ, zero, suc, ◌+◌, ◌-◌, ◌≤◌}
use Rattle.std.proofs.Math.ListN.{length, take}
use Rattle.lists.specs.Lists.{sort, ranked}
use Rattle.rules.specs.declared.Pair.{Pair}
use Rattle.rules.specs.declared.Query.{Query}
use Rattle.rules.specs.declared.Session.{Session}
use Rattle.rules.specs.Tables.{Table, Terms, terms, pair_sum, ahead, Block, pair_at, qualifying}
use Rattle.rules.specs.Meaning.{first_scores}
use Rattle.rules.proofs.Rectangles.{far_qualifying}
use Rattle.rules.specs.Session.{held_pairs}
use Rattle.rules.specs.Read.{field_next_by, field_next, rows_between, block_count, block_at, lowest, skipped_by}
use Rattle.rules.specs.Read.{best_held}
use Rattle.rules.specs.Read.{holding, meet_by, meet, meet_blocks_by, meet_blocks, read_to, old_depth, new_depth}
use Rattle.rules.specs.Read.{read_table_by}
use Rattle.rules.specs.Read.{read_table, read_block_by, read_block}
use Rattle.rules.specs.Calls.{call_code, new_block_code}
use Rattle.session_laws.specs.Calls.{Accepted, call_out, NewRowsFit, new_block_out}
use Rattle.tables_join.specs.Held.{held_holding, none_held}
use Rattle.tables_join.specs.Unskipped.{read_unskipping}

-- a query's terms without the shade rule
abbrev pub by_scores : Query → Terms
by_scores q = record { field = (terms q).field; trim = (terms q).trim; near = (terms q).near; far = λ x y. false }

-- the same counts, depths and held pairs, and a joined count that is no higher
pub record Fewer (r u : Session) : Type 0 where
  pub query : r.query ≡ u.query
  pub rows : r.rows ≡ u.rows
  pub depth : r.depth ≡ u.depth
  pub last : r.last ≡ u.last
  pub out : r.out ≡ u.out
  pub held : r.held ≡ u.held
  pub same : held_pairs r ≡ held_pairs u
  pub joined : r.joined ≤ u.joined

fewer_refl : (r : Session) → Fewer r r
fewer_refl r =
    record {
      query = refl;
      rows = refl;
      depth = refl;
      last = refl;
      out = refl;
      held = refl;
      same = refl;
      joined = omega arith;
    }

-- ---- One block pair

same_qualifying : (q : Query) (x y : Block) → qualifying (by_scores q) x y ≡ qualifying (terms q) x y
unfolding qualifying pair_at pair_sum
same_qualifying q x y = refl

-- of two such records, the first's held pairs ranked, as many as it says, and with those out at most k
module _ (r u : Session) (x y : Block) (h : Fewer r u) (stored : length (held_pairs r) ≡ r.held)
    (in_rank : ranked ahead (held_pairs r) ≡ true) (room : r.out + r.held ≤ r.query.k) where
  abbrev far : Bool
  far = (terms r.query).far x.rows y.rows

  -- whether a record's scores skip the two blocks
  abbrev scores : Session → Bool
  scores s =
      eqb (s.out + s.held) s.query.k
      && ltb (first_scores s.query x.rows y.rows) (lowest (held_pairs s))

  scores_same : scores r ≡ scores u
  scores_same =
      λ i.
      eqb (h.out i + h.held i) (h.query i).k
      && ltb (first_scores (h.query i) x.rows y.rows) (lowest (h.same i))

  -- what each holds once the two are joined
  abbrev met : List Pair
  met = qualifying (terms r.query) x y

  abbrev best : List Pair
  best = best_held r met

  abbrev best' : List Pair
  best' = best_held u (qualifying (by_scores u.query) x y)

  best_same : best ≡ best'
  unfolding best_held
  best_same =
      let met_same : met ≡ qualifying (by_scores u.query) x y =
      ap (λ q. qualifying (terms q) x y) h.query ∙ sym (same_qualifying u.query x y) in
      λ i. take ((h.query i).k - h.out i) (sort ahead (h.same i ++ met_same i))

  both_joined : Fewer (holding r best) (holding u best')
  unfolding holding
  both_joined =
      record {
        query = h.query;
        rows = h.rows;
        depth = h.depth;
        last = h.last;
        out = h.out;
        held = ap length best_same;
        same = held_holding r best ∙ best_same ∙ sym (held_holding u best');
        joined = omega (arith, h.joined);
      }

  second_joined : far ≡ true → Fewer r (holding u best')
  unfolding holding
  second_joined e =
      let kept : held_pairs r ≡ best' =
      sym (none_held r stored in_rank room met (far_qualifying r.query x y e)) ∙ best_same in
      record {
        query = h.query;
        rows = h.rows;
        depth = h.depth;
        last = h.last;
        out = h.out;
        held = sym stored ∙ ap length kept;
        same = kept ∙ sym (held_holding u best');
        joined = omega (arith, h.joined);
      }

  meet_fewer : Fewer (meet r x y) (meet_by by_scores u x y)
  unfolding meet_by skipped_by
  meet_fewer =
      subst (λ b. Fewer (cond (scores r || far) r (holding r best)) (cond (b || false) u (holding u best'))) scores_same
      (go (scores r) far refl)
    where
      go : (a b : Bool) → far ≡ b
          → Fewer (cond (a || b) r (holding r best)) (cond (a || false) u (holding u best'))
      go true b e = h
      go false true e = second_joined e
      go false false e = both_joined

-- ---- A read

read_fewer : (field : Bool) (e : ℕ) (r u : Session) → Fewer r u → Fewer (read_to field e r) (read_to field e u)
unfolding read_to
read_fewer field e r u h =
    record {
      query = h.query;
      rows = h.rows;
      depth = λ i. record {
        field = record { 0 = cond field e (h.depth i).field.0 };
        trim = record { 0 = cond field (h.depth i).trim.0 e };
      };
      last = refl;
      out = h.out;
      held = h.held;
      same = h.same;
      joined = h.joined;
    }

module _ (field : Bool) (f t : Table) (s : Session) (a : Accepted f t s) (new : NewRowsFit field f t s)
    (places : length s.pairs ≡ 64) where
  abbrev c : ℕ
  c = cond field s.depth.trim.0 s.depth.field.0

  abbrev own : Block
  own = rows_between (cond field f t) (old_depth field s) (new_depth field s)

  blocks_fewer : (n : ℕ)
      → Fewer (meet_blocks field s own (cond field t f) c n) (meet_blocks_by by_scores field s own (cond field t f) c n)
  unfolding meet_blocks_by
  blocks_fewer zero = fewer_refl s
  blocks_fewer (suc n) =
      let old = block_at (cond field t f) s.query.block c n in
      let r = meet_blocks field s own (cond field t f) c n in
      let u = read_unskipping field f t s a new places n in
      meet_fewer r (meet_blocks_by by_scores field s own (cond field t f) c n) (cond field own old) (cond field old own)
      (blocks_fewer n) u.stored u.in_rank u.room

  table_fewer : Fewer (read_table field f t s) (read_table_by by_scores field f t s)
  unfolding read_table_by
  table_fewer =
      let n = block_count s.query.block c in
      read_fewer field (new_depth field s) (meet_blocks field s own (cond field t f) c n)
      (meet_blocks_by by_scores field s own (cond field t f) c n) (blocks_fewer n)

next_same : (f t : Table) (s : Session) → field_next f t s ≡ field_next_by by_scores f t s
unfolding field_next_by
next_same f t s = refl

-- every accepted read, over any slices and of any record with its 64 places
pub shades_change_nothing : (f t : Table) (s : Session) → call_code f t s ≡ 0 → new_block_code f t s ≡ 0
    → length s.pairs ≡ 64 → Fewer (read_block f t s) (read_block_by by_scores f t s)
shades_change_nothing f t s a b places =
    subst (λ field. Fewer (read_block f t s) (read_table_by by_scores field f t s)) (next_same f t s)
    (table_fewer (field_next f t s) f t s (call_out f t s a) (new_block_out f t s b) places)
