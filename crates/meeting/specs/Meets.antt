-- Block pairs met by a record that is ready: it stays ready. Assumes nothing.
use Rattle.std.specs.Prelude.{◌≡◌, refl, Bool, true, false, cond, List, ◌++◌, ℕ, zero, suc, ◌+◌, ◌*◌, ◌-◌, ◌≤◌, ◌<◌}
use Rattle.std.specs.Prelude.{min, length, take}
use Rattle.std.proofs.Common.{sym, ap, ◌∙◌, mul-le-mul_right, suc-mul, add-one, arith, length-take}
use Rattle.lists.specs.Lists.{sort}
use Rattle.lists.specs.Words.{Ordered}
use Rattle.lists.specs.Sorts.{sort_ordered, take_ordered}
use Rattle.rules.specs.declared.Pair.{Pair}
use Rattle.rules.specs.declared.Session.{Session}
use Rattle.rules.specs.Tables.{Table, terms, Block, qualifying, ahead}
use Rattle.rules.proofs.Ranking.{ahead_strict}
use Rattle.rules.specs.Session.{places, held_pairs}
use Rattle.rules.specs.Read.{skipped, best_held, holding, meet_by, meet, rows_between, meet_blocks_by, meet_blocks}
use Rattle.keys.specs.Places.{list_of_places}
use Rattle.block_pair.specs.declared.Span.{Span}
use Rattle.choosing.specs.Ready.{Ready}
use Rattle.block_pair.specs.Spans.{SpanFits, span_block}

-- the best of the pairs held and met are in order, and not too many
best_ordered : (s : Session) (met : List Pair) → Ordered ahead (best_held s met)
unfolding best_held
best_ordered s met =
    take_ordered ahead (s.query.k - s.out) (sort ahead (held_pairs s ++ met))
    (sort_ordered ahead ahead_strict (held_pairs s ++ met))

best_few : (s : Session) (met : List Pair) → length (best_held s met) ≤ s.query.k - s.out
unfolding best_held
best_few s met = omega (arith, length-take (s.query.k - s.out) (sort ahead (held_pairs s ++ met)))

holding_ready : (s : Session) (l : List Pair) → Ready s → Ordered ahead l → length l ≤ s.query.k - s.out
    → Ready (holding s l)
unfolding holding
holding_ready s l r o h =
    let e : take (length l) (places l) ≡ l = list_of_places l in
    record {
      query = r.query;
      card = r.card;
      room = omega (arith, r.room);
      wanted = r.wanted;
      count = ap length e;
      zeros = ap places (sym e);
      order = rw e o;
    }

pub meet_ready : (s : Session) (x y : Block) → Ready s → Ready (meet s x y)
unfolding meet_by
meet_ready s x y r = go (skipped s x y)
  where
    go : (b : Bool) → Ready (cond b s (holding s (best_held s (qualifying (terms s.query) x y))))
    go true = r
    go false = holding_ready s (best_held s (qualifying (terms s.query) x y)) r (best_ordered s _) (best_few s _)

pub blocks_ready : (field : Bool) (s : Session) (new : Block) (t : Table) (depth n : ℕ) → Ready s
    → Ready (meet_blocks field s new t depth n)
unfolding meet_blocks_by
blocks_ready field s new t depth zero r = r
blocks_ready field s new t depth (suc n) r = meet_ready _ _ _ (blocks_ready field s new t depth n r)

-- ---- A new block and an old one, as field and trim

module _ (f t : Table) (new old : Span) where
  pub inside_field : (b : Bool) → SpanFits new (cond b f t) → SpanFits old (cond b t f) → SpanFits (cond b new old) f
  inside_field true x y = x
  inside_field false x y = y

  pub inside_trim : (b : Bool) → SpanFits new (cond b f t) → SpanFits old (cond b t f) → SpanFits (cond b old new) t
  inside_trim true x y = y
  inside_trim false x y = x

  -- the new block's rows, whichever table it is of
  pub new_rows : (b : Bool)
      → (span_block (cond b f t) new).rows
      ≡ cond b (span_block f (cond b new old)).rows (span_block t (cond b old new)).rows
  new_rows true = refl
  new_rows false = refl

  pub parts_meet : (b : Bool) (r : Session) → meet r (span_block f (cond b new old)) (span_block t (cond b old new))
      ≡ meet r (cond b (span_block (cond b f t) new) (span_block (cond b t f) old))
      (cond b (span_block (cond b t f) old) (span_block (cond b f t) new))
  parts_meet true r = refl
  parts_meet false r = refl

-- ---- The blocks of a table, one after the other

-- block i + 1 begins above the depth, if blocks up to the n-th do
pub block_begins : (n block depth i : ℕ) → n * block < depth + block → i < n → i * block < depth
block_begins n block depth i h k = omega (arith, mul-le-mul_right block k, suc-mul i block)

-- and ends where the next one begins
pub block_next : (block i c : ℕ) → c ≡ i * block → c + block ≡ (i + 1) * block
block_next block i c e =
    let s : (i + 1) * block ≡ i * block + block = ap (λ (j : ℕ). j * block) (add-one i) ∙ suc-mul i block in
    omega arith

-- one turn: the next block is met
pub blocks_next : (field : Bool) (s : Session) (new : Block) (t : Table) (depth i : ℕ)
    → let old = rows_between t (i * s.query.block) (min (i * s.query.block + s.query.block) depth) in
    meet (meet_blocks field s new t depth i) (cond field new old) (cond field old new)
    ≡ meet_blocks field s new t depth (i + 1)
unfolding meet_blocks_by
blocks_next field s new t depth i = sym (rw add-one)
