-- An unsettled read: what it keeps, which table it reads, and that it raises a depth. Assumes nothing.
use Rattle.std.specs.Prelude.{◌≡◌, refl, Bool, ◌&&◌, ◌||◌, eqb, leb, ltb}
use Rattle.std.proofs.Math.Path.{ap}
use Rattle.std.proofs.Common.{◌∙◌, eq-eqb}
use Rattle.std.proofs.Math.Bool.{true, false, cond}
use Prim.Native.Nat.{ℕ, zero, suc, ◌+◌, ◌-◌, ◌≤◌, ◌<◌}
use native.Mathlib.Omega.{arith}
use Rattle.std.proofs.lemmas.Bool.{eqb-false}
use Rattle.lists.specs.Lists.{every}
use Rattle.lists.specs.Bools.{clash, or_none_out}
use Rattle.rules.specs.declared.Session.{Session}
use Rattle.rules.specs.Tables.{Table, row_count, terms, Block, qualifying}
use Rattle.session_laws.specs.ReadOut.{unread_out, unread_first, live_out}
use Rattle.rules.specs.Session.{is_empty, field_read_out, trim_read_out, both_read_out, a_table_is_empty, held_pairs}
use Rattle.rules.specs.Session.{secured}
use Rattle.rules.specs.Session.{nothing_qualifies, settled_by}
use Rattle.rules.specs.Session.{settled}
use Rattle.rules.specs.Read.{score_drop, field_next_by, field_next, rows_between, block_count, block_at, best_held}
use Rattle.rules.specs.Read.{holding}
use Rattle.rules.specs.Read.{skipped, meet_by}
use Rattle.rules.specs.Read.{meet}
use Rattle.rules.specs.Read.{meet_blocks_by, meet_blocks, read_to, old_depth, new_depth, read_table_by, read_table}
use Rattle.rules.specs.Read.{read_block}

-- ---- A met block changes the pairs held and the joined count, and nothing else

-- what stays of a record
pub record Kept (s r : Session) : Type 0 where
  pub query : r.query ≡ s.query
  pub rows : r.rows ≡ s.rows
  pub depth : r.depth ≡ s.depth
  pub out : r.out ≡ s.out

keeps_refl : (s : Session) → Kept s s
keeps_refl s = record { query = refl; rows = refl; depth = refl; out = refl }

keeps_trans : {s r u : Session} → Kept s r → Kept r u → Kept s u
keeps_trans h k =
    record {
      query = k.query ∙ h.query;
      rows = k.rows ∙ h.rows;
      depth = k.depth ∙ h.depth;
      out = k.out ∙ h.out;
    }

pub meet_keeps : (s : Session) (x y : Block) → Kept s (meet s x y)
unfolding meet_by holding
meet_keeps s x y = go (skipped s x y)
  where
    go : (b : Bool) → Kept s (cond b s (holding s (best_held s (qualifying (terms s.query) x y))))
    go true = keeps_refl s
    go false = record { query = refl; rows = refl; depth = refl; out = refl }

-- each block pair adds one at most to the joined count
meet_joined : (s : Session) (x y : Block) → (meet s x y).joined ≤ s.joined + 1
unfolding meet_by holding
meet_joined s x y = go (skipped s x y)
  where
    go : (b : Bool) → (cond b s (holding s (best_held s (qualifying (terms s.query) x y)))).joined ≤ s.joined + 1
    go true = omega arith
    go false = omega arith

module _ (field : Bool) (s : Session) (new : Block) (t : Table) (depth : ℕ) where
  pub blocks_keep : (n : ℕ) → Kept s (meet_blocks field s new t depth n)
  unfolding meet_blocks_by
  blocks_keep zero = keeps_refl s
  blocks_keep (suc n) = keeps_trans (blocks_keep n) (meet_keeps _ _ _)

  pub blocks_joined : (n : ℕ) → (meet_blocks field s new t depth n).joined ≤ s.joined + n
  unfolding meet_blocks_by
  blocks_joined zero = omega arith
  blocks_joined (suc n) =
      let old = block_at t s.query.block depth n in
      let one = meet_joined (meet_blocks field s new t depth n) (cond field new old) (cond field old new) in
      omega (arith, blocks_joined n, one)

-- ---- The depths after a read

module _ (field : Bool) (f t : Table) (s : Session) where
  -- the record before its depth is raised
  abbrev pub met_all : Session
  met_all =
      let depth = cond field s.depth.trim.0 s.depth.field.0 in
      meet_blocks field s (rows_between (cond field f t) (old_depth field s) (new_depth field s)) (cond field t f) depth
      (block_count s.query.block depth)

  pub met_all_keeps : Kept s met_all
  met_all_keeps = blocks_keep field s _ _ _ _

  pub read_query : (read_table field f t s).query ≡ s.query
  unfolding read_table_by read_to
  read_query = met_all_keeps.query

  pub read_rows_kept : (read_table field f t s).rows ≡ s.rows
  unfolding read_table_by read_to
  read_rows_kept = met_all_keeps.rows

  pub read_field : (read_table field f t s).depth.field.0 ≡ cond field (new_depth field s) s.depth.field.0
  unfolding read_table_by read_to
  read_field = ap (λ c. cond field (new_depth field s) c.field.0) met_all_keeps.depth

  pub read_trim : (read_table field f t s).depth.trim.0 ≡ cond field s.depth.trim.0 (new_depth field s)
  unfolding read_table_by read_to
  read_trim = ap (λ c. cond field c.trim.0 (new_depth field s)) met_all_keeps.depth

-- of depths within the rows, those after a read
module _ (s : Session) (m : s.depth.field.0 ≤ s.rows.field.0) (n : s.depth.trim.0 ≤ s.rows.trim.0) where
  pub new_grows : (field : Bool) → old_depth field s ≤ new_depth field s
  new_grows true = omega arith
  new_grows false = omega arith

  pub new_within : (field : Bool)
      → (cond field (new_depth field s) s.depth.field.0 ≤ s.rows.field.0)
      × (cond field s.depth.trim.0 (new_depth field s) ≤ s.rows.trim.0)
  new_within true = (omega arith, n)
  new_within false = (m, omega arith)

-- tables that have these rows: the one that is read has those down to b, the other one its own
pub own_within : (field : Bool) (f t : Table) (b d e : ℕ) → cond field b d ≤ row_count f → cond field e b ≤ row_count t
    → (b ≤ row_count (cond field f t)) × (cond field e d ≤ row_count (cond field t f))
own_within true f t b d e x y = (x, y)
own_within false f t b d e x y = (y, x)

-- neither depth falls
pub read_grows : (field : Bool) (f t : Table) (s : Session)
    → s.depth.field.0 ≤ s.rows.field.0 → s.depth.trim.0 ≤ s.rows.trim.0
    → (s.depth.field.0 ≤ (read_table field f t s).depth.field.0)
    × (s.depth.trim.0 ≤ (read_table field f t s).depth.trim.0)
read_grows true f t s h k = (omega (arith, read_field true f t s), omega (arith, read_trim true f t s))
read_grows false f t s h k = (omega (arith, read_field false f t s), omega (arith, read_trim false f t s))

-- ---- An unsettled session

-- the grounds of settled, none of which holds
pub record Unsettled (f t : Table) (s : Session) : Type 0 where
  pub satisfiable : nothing_qualifies s ≡ false
  pub field_live : is_empty f s.rows.field.0 s.depth.field.0 ≡ false
  pub trim_live : is_empty t s.rows.trim.0 s.depth.trim.0 ≡ false
  pub field_some : s.rows.field.0 ≡ 0 → ⊥
  pub trim_some : s.rows.trim.0 ≡ 0 → ⊥
  pub unread : both_read_out f t s ≡ false
  pub wanted : s.out ≡ s.query.k → ⊥
  pub unsecured : s.out + s.held ≡ s.query.k → every (secured f t s) (held_pairs s) ≡ true → ⊥

pub unsettled_out : (f t : Table) (s : Session) → settled f t s ≡ false → Unsettled f t s
unfolding settled_by
unsettled_out f t s h =
    let last = eqb (s.out + s.held) s.query.k && every (secured f t s) (held_pairs s) in
    let rest = eqb s.out s.query.k || last in
    let met = or_none_out (nothing_qualifies s) (a_table_is_empty f t s || (both_read_out f t s || rest)) h in
    let a = or_none_out (a_table_is_empty f t s) (both_read_out f t s || rest) met.1 in
    let b = or_none_out (both_read_out f t s) rest a.1 in
    let c = or_none_out (eqb s.out s.query.k) last b.1 in
    let field = is_empty f s.rows.field.0 s.depth.field.0 in
    let trim = is_empty t s.rows.trim.0 s.depth.trim.0 in
    let some = or_none_out field trim a.0 in
    let live = live_out f s.rows.field.0 s.depth.field.0 some.0 in
    let live_trim = live_out t s.rows.trim.0 s.depth.trim.0 some.1 in
    record {
      satisfiable = met.0;
      field_live = some.0;
      trim_live = some.1;
      field_some = live.0;
      trim_some = live_trim.0;
      unread = b.0;
      wanted = eqb-false s.out s.query.k c.0;
      unsecured = λ full all. clash (rw (eq-eqb (s.out + s.held) s.query.k full) all) c.1;
    }

-- ---- The table that is read next is not read out

-- the choice, over its tests: a, b that a depth is 0, d, c that the table is read out, g by the drops
unread : (a b c d g : Bool) → (a ≡ true → d ≡ false) → (b ≡ true → c ≡ false) → d && c ≡ false
    → cond (cond a true (cond b false (cond c true (cond d false g)))) d c ≡ false
unread true b c d g h k l = h refl
unread false true c d g h k l = k refl
unread false false true true g h k l = l
unread false false true false g h k l = refl
unread false false false true g h k l = refl
unread false false false false true h k l = refl
unread false false false false false h k l = refl

module _ (f t : Table) (s : Session) (u : Unsettled f t s) where
  chosen_unread : cond (field_next f t s) (field_read_out f s) (trim_read_out t s) ≡ false
  unfolding field_next_by
  chosen_unread =
      let d = s.depth.field.0 in
      let e = s.depth.trim.0 in
      let x = score_drop (terms s.query).field f d in
      let y = score_drop (terms s.query).trim t e in
      unread (eqb d 0) (eqb e 0) (trim_read_out t s) (field_read_out f s)
      (cond (ltb x y) true (cond (ltb y x) false (leb d e)))
      (unread_first f s.rows.field.0 d u.field_some) (unread_first t s.rows.trim.0 e u.trim_some)
      u.unread

  module _ (m : s.depth.field.0 ≤ s.rows.field.0) (n : s.depth.trim.0 ≤ s.rows.trim.0) where
    left : (field : Bool) → cond field (field_read_out f s) (trim_read_out t s) ≡ false
        → old_depth field s < cond field s.rows.field.0 s.rows.trim.0
    left true h = let k = (unread_out f s.rows.field.0 s.depth.field.0 h).0 in omega arith
    left false h = let k = (unread_out t s.rows.trim.0 s.depth.trim.0 h).0 in omega arith

    -- the table that is read next has unread rows
    pub next_unread : old_depth (field_next f t s) s < cond (field_next f t s) s.rows.field.0 s.rows.trim.0
    next_unread = left (field_next f t s) chosen_unread

-- ---- So a read raises a depth

-- the rows read of both tables, and those that are not read yet
abbrev pub rows_read : Session → ℕ
rows_read s = s.depth.field.0 + s.depth.trim.0

abbrev pub unread_rows : Session → ℕ
unread_rows s = (s.rows.field.0 - s.depth.field.0) + (s.rows.trim.0 - s.depth.trim.0)

module _ (f t : Table) (s : Session) (h : settled f t s ≡ false) (size : 1 ≤ s.query.block)
    (m : s.depth.field.0 ≤ s.rows.field.0) (n : s.depth.trim.0 ≤ s.rows.trim.0) where
  pub read_raises : old_depth (field_next f t s) s < new_depth (field_next f t s) s
  read_raises = let k = next_unread f t s (unsettled_out f t s h) m n in omega arith

  pub read_deeper : rows_read s < rows_read (read_block f t s)
  read_deeper = go (field_next f t s) read_raises
    where
      go : (b : Bool) → old_depth b s < new_depth b s → rows_read s < rows_read (read_table b f t s)
      go true k = omega (arith, read_field true f t s, read_trim true f t s)
      go false k = omega (arith, read_field false f t s, read_trim false f t s)

  -- and leaves fewer rows unread
  pub read_fewer : unread_rows (read_block f t s) < unread_rows s
  read_fewer = go (field_next f t s) read_raises
    where
      go : (b : Bool) → old_depth b s < new_depth b s → unread_rows (read_table b f t s) < unread_rows s
      go true k =
          rw (read_rows_kept true f t s) (omega (arith, read_field true f t s, read_trim true f t s))
      go false k =
          rw (read_rows_kept false f t s) (omega (arith, read_field false f t s, read_trim false f t s))
