-- What the records of a session keep besides what they hold, so that none is refused by 5: opening, reads and takes
-- keep it. Assumes nothing.
use Rattle.std.specs.Prelude.{◌≡◌, refl, Bool, cond, List, [], ◌∷◌, ◌++◌, ℕ, zero, suc, ◌+◌, ◌*◌, ◌-◌, ◌/◌, ◌%◌, ◌≤◌}
use Rattle.std.specs.Prelude.{◌<◌, min, length, drop, replicate}
use Rattle.std.proofs.Common.{sym, ap, ◌∙◌, inl, inr, suc-mul, mul_comm, mul-le-mul_right, div-add-mod'}
use Rattle.std.proofs.Common.{div-lt_iff_lt-mul, le-div_iff_mul-le, arith, length-take}
use Rattle.std.proofs.Math.Path.{subst}
use Rattle.std.proofs.Math.Bool.{true, false}
use Rattle.std.proofs.Math.Nat.{add-mod_right, zero-mod}
use Rattle.std.proofs.Math.Decide.{dec_le}
use Rattle.std.proofs.Math.Seq.{drop-append_seam}
use Rattle.std.proofs.lemmas.List.{drop-append-le}
use Rattle.lists.specs.Lists.{every}
use Rattle.lists.specs.Bools.{clash, and_out}
use Rattle.rules.specs.declared.TwoTables.{TwoTables}
use Rattle.rules.specs.declared.Query.{Query}
use Rattle.rules.specs.declared.Pair.{Pair}
use Rattle.rules.specs.declared.Session.{Session}
use Rattle.rules.specs.Tables.{Table, terms, Block, qualifying}
use Rattle.rules.specs.Session.{no_pair, places, opened, held_pairs, nothing_qualifies, settled}
use Rattle.rules.specs.Read.{field_next, block_count, block_at, skipped, best_held, holding, meet_by, meet}
use Rattle.rules.specs.Read.{meet_blocks_by}
use Rattle.rules.specs.Read.{meet_blocks}
use Rattle.rules.specs.Read.{read_to, old_depth, new_depth, read_table_by, read_block}
use Rattle.rules.specs.Take.{moved_out}
use Rattle.rules.specs.Calls.{is_zeros}
use Rattle.session_laws.specs.Record.{WholeBlocks, MarkFits, UnreadIfNone, most_joined}
use Rattle.session_laws.specs.Read.{Kept, met_all, met_all_keeps, blocks_joined, unsettled_out, read_raises}

pub record Sound (s : Session) : Type 0 where
  pub field_whole : WholeBlocks s.query.block s.rows.field.0 s.depth.field.0
  pub trim_whole : WholeBlocks s.query.block s.rows.trim.0 s.depth.trim.0
  pub mark : MarkFits s
  pub cleared : every is_zeros (drop s.held s.pairs) ≡ true
  pub joined : s.joined ≤ most_joined s
  pub depths : UnreadIfNone s

-- ---- Counting blocks

module _ (size : ℕ) (h : 1 ≤ size) where
  -- below a depth of whole blocks another row begins another block
  count_next : (d e : ℕ) → d % size ≡ 0 → d < e → suc (block_count size d) ≤ block_count size e
  count_next d e z k =
      let m : ℕ = d / size in
      let whole : m * size ≡ d = omega (arith, div-add-mod' d size) in
      let below : (d + size - 1) / size < suc m =
      (div-lt_iff_lt-mul {k = size} {x = d + size - 1} {y = suc m} h).1 (omega (arith, suc-mul m size)) in
      let above : suc m ≤ (e + size - 1) / size =
      (le-div_iff_mul-le {k = size} {x = suc m} {y = e + size - 1} h).1 (omega (arith, suc-mul m size)) in
      omega arith

  -- a read of whole blocks, or of the rows that remain
  whole_next : (rows d : ℕ) → WholeBlocks size rows d → WholeBlocks size rows (min (d + size) rows)
  whole_next rows d w = go (dec_le rows (d + size)) w
    where
      go : Dec (rows ≤ d + size) → WholeBlocks size rows d → WholeBlocks size rows (min (d + size) rows)
      go (yes k) w = inr (omega arith)
      go (no k) (inl z) =
          let e : d + size ≡ min (d + size) rows = omega arith in
          inl (ap (λ n. n % size) (sym e) ∙ add-mod_right d size ∙ z)
      go (no k) (inr z) = absurd (omega arith)

-- the blocks of one more block row
product_next : (x x' y j n : ℕ) → j ≤ x * y → suc x ≤ x' → n ≤ j + y → n ≤ x' * y
product_next x x' y j n h k l = omega (arith, suc-mul x y, mul-le-mul_right {m = suc x} {n = x'} y k)

-- unread rows begin after whole blocks
whole_unread : (size rows d : ℕ) → d < rows → WholeBlocks size rows d → d % size ≡ 0
whole_unread size rows d h (inl z) = z
whole_unread size rows d h (inr z) = absurd (omega arith)

-- ---- The places beyond the held pairs

every_append : (l m : List Pair) → every is_zeros l ≡ true → every is_zeros m ≡ true → every is_zeros (l ++ m) ≡ true
unfolding every
every_append [] m a b = b
every_append (x ∷ l) m a b =
    let c = and_out (is_zeros x) (every is_zeros l) a in
    rw c.0 (every_append l m c.1 b)

every_none : (n : ℕ) → every is_zeros (replicate n no_pair) ≡ true
unfolding every
every_none zero = refl
every_none (suc n) = every_none n

places_cleared : (l : List Pair) → every is_zeros (drop (length l) (places l)) ≡ true
unfolding places
places_cleared l =
    ap (every is_zeros) (drop-append_seam l (replicate (64 - length l) no_pair)) ∙ every_none (64 - length l)

moved_cleared : (n : ℕ) (l : List Pair) → 1 ≤ n → n ≤ length l → every is_zeros (drop n l) ≡ true
    → every is_zeros (drop (n - 1) (drop 1 l ++ (no_pair ∷ []))) ≡ true
unfolding every
moved_cleared zero l h k e = absurd (omega arith)
moved_cleared (suc n) [] h k e = absurd (omega arith)
moved_cleared (suc n) (x ∷ l) h k e =
    let j : suc n - 1 ≡ n = omega arith in
    ap (λ m. every is_zeros (drop m (l ++ (no_pair ∷ [])))) j
    ∙ ap (every is_zeros) (drop-append-le n l (no_pair ∷ []) (omega arith))
    ∙ every_append (drop n l) (no_pair ∷ []) e refl

abbrev Cleared : Session → Type 0
Cleared s = every is_zeros (drop s.held s.pairs) ≡ true

meet_cleared : (s : Session) (x y : Block) → Cleared s → Cleared (meet s x y)
unfolding meet_by holding
meet_cleared s x y h = go (skipped s x y)
  where
    l : List Pair
    l = best_held s (qualifying (terms s.query) x y)

    go : (b : Bool) → Cleared (cond b s (holding s l))
    go true = h
    go false = places_cleared l

blocks_cleared : (field : Bool) (s : Session) (new : Block) (t : Table) (depth n : ℕ) → Cleared s
    → Cleared (meet_blocks field s new t depth n)
unfolding meet_blocks_by
blocks_cleared field s new t depth zero h = h
blocks_cleared field s new t depth (suc n) h =
    let old : Block = block_at t s.query.block depth n in
    let before = blocks_cleared field s new t depth n h in
    meet_cleared (meet_blocks field s new t depth n) (cond field new old) (cond field old new) before

-- ---- Opening

pub sound_open : (q : Query) (tables : TwoTables) → Sound (opened q tables)
unfolding opened
sound_open q tables = record {
  field_whole = inl (zero-mod q.block);
  trim_whole = inl (zero-mod q.block);
  mark =
      record {
        none = λ e. (refl, refl);
        field = λ e. absurd (omega (arith, e));
        trim = λ e. absurd (omega (arith, e));
        most = omega arith;
      };
  cleared = places_cleared [];
  joined = omega arith;
  depths = λ u. (refl, refl);
}

-- ---- Read

-- s with the pairs held and the block pairs joined of r
abbrev pub held_from : Session → Session → Session
held_from s r = record {
  query = s.query;
  rows = s.rows;
  depth = s.depth;
  last = r.last;
  out = s.out;
  held = r.held;
  pairs = r.pairs;
  joined = r.joined;
}

pub same_held : (s r : Session) → Kept s r → r ≡ held_from s r
same_held s r e =
    λ i.
    record {
      query = e.query i;
      rows = e.rows i;
      depth = e.depth i;
      last = r.last;
      out = e.out i;
      held = r.held;
      pairs = r.pairs;
      joined = r.joined;
    }

module _ (s r : Session) (h : Sound s) (size : 1 ≤ s.query.block) (cleared : Cleared r)
    (satisfiable : nothing_qualifies s ≡ false) where
  abbrev counted : ℕ → ℕ
  counted depth = block_count s.query.block depth

  sound_raised : (field : Bool) → old_depth field s < new_depth field s
      → r.joined ≤ s.joined + counted (cond field s.depth.trim.0 s.depth.field.0)
      → Sound (read_to field (new_depth field s) (held_from s r))
  unfolding read_to
  sound_raised true k j =
      let block = s.query.block in
      let d = s.depth.field.0 in
      let e = s.depth.trim.0 in
      let begins = whole_unread block s.rows.field.0 d (omega arith) h.field_whole in
      record {
        field_whole = whole_next block size s.rows.field.0 d h.field_whole;
        trim_whole = h.trim_whole;
        mark =
            record {
              none = λ e. absurd (omega (arith, e));
              field = λ e. omega arith;
              trim = λ e. absurd (omega (arith, e));
              most = omega arith;
            };
        cleared = cleared;
        joined =
            product_next (counted d) (counted (new_depth true s)) (counted e) s.joined r.joined h.joined
            (count_next block size d (new_depth true s) begins k) j;
        depths = λ u. clash u satisfiable;
      }
  sound_raised false k j =
      let block = s.query.block in
      let d = s.depth.field.0 in
      let e = s.depth.trim.0 in
      let begins = whole_unread block s.rows.trim.0 e (omega arith) h.trim_whole in
      let most = subst (λ n. s.joined ≤ n) (mul_comm (counted d) (counted e)) h.joined in
      record {
        field_whole = h.field_whole;
        trim_whole = whole_next block size s.rows.trim.0 e h.trim_whole;
        mark =
            record {
              none = λ e. absurd (omega (arith, e));
              field = λ e. absurd (omega (arith, e));
              trim = λ e. omega arith;
              most = omega arith;
            };
        cleared = cleared;
        joined =
            subst (λ n. r.joined ≤ n) (mul_comm (counted (new_depth false s)) (counted d))
            (product_next (counted e) (counted (new_depth false s)) (counted d) s.joined r.joined most
            (count_next block size e (new_depth false s) begins k) j);
        depths = λ u. clash u satisfiable;
      }

pub sound_read : (f t : Table) (s : Session) → Sound s → 1 ≤ s.query.block
    → s.depth.field.0 ≤ s.rows.field.0 → s.depth.trim.0 ≤ s.rows.trim.0 → settled f t s ≡ false
    → Sound (read_block f t s)
unfolding read_table_by
sound_read f t s h size m n u =
    let field : Bool = field_next f t s in
    let r : Session = met_all field f t s in
    let cleared : Cleared r = blocks_cleared field s _ _ _ _ h.cleared in
    subst (λ r. Sound (read_to field (new_depth field s) r)) (sym (same_held s r (met_all_keeps field f t s)))
    (sound_raised s r h size cleared (unsettled_out f t s u).satisfiable field (read_raises f t s u size m n)
    (blocks_joined field s _ _ _ _))

-- ---- Take

pub sound_take : (s : Session) → Sound s → length (held_pairs s) ≡ s.held → 1 ≤ s.held → Sound (moved_out s)
unfolding moved_out
sound_take s h stored some = record {
  field_whole = h.field_whole;
  trim_whole = h.trim_whole;
  mark =
      record { none = h.mark.none; field = h.mark.field; trim = h.mark.trim; most = h.mark.most };
  cleared =
      moved_cleared s.held s.pairs some (omega (arith, length-take s.held s.pairs)) h.cleared;
  joined = h.joined;
  depths = h.depths;
}
