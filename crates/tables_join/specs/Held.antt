-- What a record holds of a region, and that meeting blocks keeps it, skipped ones or not: a new block that meets all
-- blocks read of the other table holds the pairs of the larger region. Assumes legal tables.
use Rattle.std.specs.Prelude.{◌≡◌, Bool, cond, ◌⊎◌, ◌↔◌, length, take, replicate}
use Rattle.std.proofs.Math.Path.{refl, sym, subst₂}
use Rattle.std.proofs.Common.{ap, ◌∙◌, subst, inl, inr, arith, suc-mul, length-take}
use Rattle.std.proofs.Math.Bool.{true, false}
use mathlib.Core.List.Memᴰ
use mathlib.Core.List.{List, [], ◌∷◌, ◌++◌, Memᴰ}
use Rattle.std.proofs.Math.Logic.{⊎_elim}
use Prim.Native.Nat.{ℕ, ◌≤◌, ◌+◌, ◌-◌, zero, suc, ◌*◌, min}
use Rattle.std.proofs.Math.Nat.{lt-div-mul-add}
use Rattle.std.proofs.Math.Decide.{dec_le}
use Rattle.std.proofs.Math.Seq.{take-append_seam}
use Rattle.lists.specs.Lists.{sort, ranked}
use Rattle.join.specs.Held.{Holds}
use Rattle.join.specs.HeldLaws.{skip_same, none_same, holds_join, held_ranked, held_room, holds_same}
use Rattle.rules.specs.declared.Pair.{Pair}
use Rattle.rules.specs.declared.Query.{Query}
use Rattle.rules.specs.declared.Session.{Session}
use Rattle.rules.specs.Tables.{Table, row_count, terms, ahead, Block, qualifying, legal}
use Rattle.rules.proofs.Rectangles.{far_qualifying}
use Rattle.rules.specs.Meaning.{first_scores, skipped_is}
use Rattle.rules.specs.Session.{held_pairs, no_pair, places}
use Rattle.rules.specs.Read.{lowest, skipped, best_held, holding, meet_by, meet, rows_between, block_count}
use Rattle.rules.specs.Read.{meet_blocks_by}
use Rattle.rules.specs.Read.{meet_blocks}
use Rattle.session_laws.specs.Read.{meet_keeps, blocks_keep}
use Rattle.tables_join.specs.Pairs.{own_row, other_row, Between, pair_rank, qualifying_distinct, mem_between}
use Rattle.tables_join.specs.Pairs.{between_low}

-- the pairs of `out` being out, the record holds the best-ranked of the region's others, and counts both
pub record Keeping (R : Pair → Type 0) (out : List Pair) (s : Session) : Type 0 where
  pub counted : s.out ≡ length out
  pub stored : length (held_pairs s) ≡ s.held
  pub rest : List Pair
  pub holds : Holds ahead s.query.k R out rest (held_pairs s)

-- the region may be put in other words
pub keeping_same : (R R' : Pair → Type 0) (out : List Pair) (s : Session) → ((p : Pair) → R p ↔ R' p) → Keeping R out s
    → Keeping R' out s
keeping_same R R' out s e k = record {
  counted = k.counted;
  stored = k.stored;
  rest = k.rest;
  holds = holds_same pair_rank R' e k.holds;
}

-- ---- One block pair

-- no held sum is below the lowest
lowest_least : (p : Pair) (l : List Pair) → Memᴰ p l → lowest l ≤ p.sum
unfolding lowest
lowest_least p [] m = absurd (Memᴰ.not-nil m)
lowest_least p (x ∷ []) m =
    ⊎_elim (λ e. omega (arith, ap (λ p. p.sum) e)) (λ k. absurd (Memᴰ.not-nil k)) (Memᴰ.cases_cons m)
lowest_least p (x ∷ y ∷ l) m =
    ⊎_elim (λ e. omega (arith, ap (λ p. p.sum) e)) (λ k. omega (arith, lowest_least p (y ∷ l) k))
    (Memᴰ.cases_cons m)

pub held_holding : (s : Session) (l : List Pair) → held_pairs (holding s l) ≡ l
unfolding holding places
held_holding s l = take-append_seam l (replicate (64 - length l) no_pair)

-- no pair met, none more held
pub none_held : (s : Session) → length (held_pairs s) ≡ s.held → ranked ahead (held_pairs s) ≡ true
    → s.out + s.held ≤ s.query.k → (l : List Pair) → l ≡ [] → best_held s l ≡ held_pairs s
unfolding best_held
none_held s stored in_rank room l none =
    ap (λ l. take (s.query.k - s.out) (sort ahead (held_pairs s ++ l))) none
    ∙ none_same pair_rank (s.query.k - s.out) (held_pairs s) in_rank (omega arith)

module _ (s : Session) (x y : Block) where
  abbrev met : List Pair
  met = qualifying (terms s.query) x y

  -- it holds as many as it says, and with those out at most k
  pub meet_stored : length (held_pairs s) ≡ s.held → length (held_pairs (meet s x y)) ≡ (meet s x y).held
  unfolding meet_by holding
  meet_stored stored = go (skipped s x y)
    where
      l : List Pair
      l = best_held s met

      go : (b : Bool) → length (held_pairs (cond b s (holding s l))) ≡ (cond b s (holding s l)).held
      go true = stored
      go false = ap length (held_holding s l)

  pub meet_room : s.out + s.held ≤ s.query.k → (meet s x y).out + (meet s x y).held ≤ (meet s x y).query.k
  unfolding meet_by holding best_held
  meet_room room = go (skipped s x y)
    where
      l : List Pair
      l = best_held s met

      most : length l ≤ s.query.k - s.out
      most = omega (arith, length-take (s.query.k - s.out) (sort ahead (held_pairs s ++ met)))

      go : (b : Bool) → (cond b s (holding s l)).out + (cond b s (holding s l)).held ≤ (cond b s (holding s l)).query.k
      go true = room
      go false = omega (arith, most)

  -- of any record whose held pairs are ranked, as many as it says, and with those out at most k
  module _ (stored : length (held_pairs s) ≡ s.held) (in_rank : ranked ahead (held_pairs s) ≡ true)
      (room : s.out + s.held ≤ s.query.k)
      (low : (p : Pair) → Memᴰ p met → p.sum ≤ first_scores s.query x.rows y.rows) where
    -- "Skipping never changes them": neither for scores nor for shade
    skipped_same : skipped s x y ≡ true → best_held s met ≡ held_pairs s
    unfolding best_held
    skipped_same e =
        ⊎_elim
        (λ a.
        skip_same pair_rank (s.query.k - s.out) (held_pairs s) met in_rank (omega (arith, a.0))
        (λ p q m n. omega (arith, a.1, lowest_least p (held_pairs s) m, low q n)))
        (λ far. none_held s stored in_rank room met (far_qualifying s.query x y far)) ((skipped_is s x y).0 e)

    -- a block pair met holds the best of those held and its own, skipped or not
    pub meet_held : held_pairs (meet s x y) ≡ best_held s met
    unfolding meet_by
    meet_held = go (skipped s x y) refl
      where
        go : (b : Bool) → skipped s x y ≡ b → held_pairs (cond b s (holding s (best_held s met))) ≡ best_held s met
        go true e = sym (skipped_same e)
        go false e = held_holding s (best_held s met)

  -- the block pair's pairs M, none of them in R, join R
  meet_holds : (R R' M : Pair → Type 0) (out : List Pair) → Keeping R out s → ((p : Pair) → Memᴰ p met ↔ M p)
      → ((p : Pair) → M p → p.sum ≤ first_scores s.query x.rows y.rows) → ((p : Pair) → M p → R p → ⊥)
      → ((p : Pair) → R' p ↔ (R p ⊎ M p))
      → Keeping R' out (meet s x y)
  unfolding best_held
  meet_holds R R' M out h in-met low new more = record {
    counted = (meet_keeps s x y).out ∙ h.counted;
    stored = meet_stored h.stored;
    rest = sort ahead (h.rest ++ met);
    holds = subst₂ (λ k l. Holds ahead k R' out (sort ahead (h.rest ++ met)) l) wanted held joined;
  }
    where
      full : s.out + s.held ≤ s.query.k
      full = omega (arith, h.counted, h.stored, held_room pair_rank h.holds)

      best : List Pair
      best = take (s.query.k - length out) (sort ahead (held_pairs s ++ met))

      joined : Holds ahead s.query.k R' out (sort ahead (h.rest ++ met)) best
      joined =
          holds_join pair_rank R' met h.holds (qualifying_distinct s.query x y)
          (λ p m. new p ((in-met p).0 m))
          (λ p. (
            λ r. ⊎_elim inl (λ m. inr ((in-met p).1 m)) ((more p).0 r),
            λ r. (more p).1 (⊎_elim inl (λ m. inr ((in-met p).0 m)) r),
          ))

      wanted : s.query.k ≡ (meet s x y).query.k
      wanted = ap (λ q. q.k) (sym (meet_keeps s x y).query)

      held : best ≡ held_pairs (meet s x y)
      held =
          ap (λ n. take (s.query.k - n) (sort ahead (held_pairs s ++ met))) (sym h.counted)
          ∙ sym (meet_held h.stored (held_ranked pair_rank h.holds) full (λ p m. low p ((in-met p).0 m)))

-- ---- A new block meets all blocks read of the other table

-- the other table's rows up to m + size, of c, are those up to m and the next ones
between_split : (field : Bool) (query : Query) (f t : Table) (a b m size c : ℕ) (p : Pair)
    → Between field query f t a b 0 (min (m + size) c) p
    ↔ (Between field query f t a b 0 (min m c) p ⊎ Between field query f t a b m (min (m + size) c) p)
between_split field query f t a b m size c p = (
  λ h. go h (dec_le (other_row field p) m),
  ⊎_elim (λ h. record { fits = h.fits; own_part = h.own_part; other_part = omega (arith, h.other_part) })
      (λ h. record { fits = h.fits; own_part = h.own_part; other_part = omega (arith, h.other_part) }),
)
  where
    go : Between field query f t a b 0 (min (m + size) c) p → Dec (other_row field p ≤ m)
        → Between field query f t a b 0 (min m c) p ⊎ Between field query f t a b m (min (m + size) c) p
    go h (yes k) = inl (record { fits = h.fits; own_part = h.own_part; other_part = omega (arith, h.other_part) })
    go h (no k) = inr (record { fits = h.fits; own_part = h.own_part; other_part = omega (arith, h.other_part) })

module _ (field : Bool) (f t : Table) (g : legal f ≡ true) (h : legal t ≡ true) (s : Session) (a b c : ℕ)
    (hb : b ≤ row_count (cond field f t)) (hc : c ≤ row_count (cond field t f)) (R : Pair → Type 0)
    (old : (p : Pair) → R p → own_row field p ≤ a) (out : List Pair) (k : Keeping R out s) where
  abbrev size : ℕ
  size = s.query.block

  abbrev x : Block
  x = rows_between (cond field f t) a b

  abbrev after : ℕ → Session
  after n = meet_blocks field s x (cond field t f) c n

  -- the pairs of the new block and rows d + 1 to e of the other table
  abbrev New : ℕ → ℕ → Pair → Type 0
  New d e = Between field s.query f t a b d e

  abbrev Joined : ℕ → Pair → Type 0
  Joined e p = R p ⊎ New 0 e p

  -- one block more
  block_holds : (n : ℕ) → Keeping (Joined (min (n * size) c)) out (after n)
      → Keeping (Joined (min (suc n * size) c)) out (after (suc n))
  unfolding meet_blocks_by
  block_holds n j =
      meet_holds (after n) (cond field x y) (cond field y x) (Joined low) (Joined (min (suc n * size) c))
      (New (n * size) high) out j inside under new more
    where
      low : ℕ
      low = min (n * size) c

      high : ℕ
      high = min (n * size + size) c

      y : Block
      y = rows_between (cond field t f) (n * size) high

      inside : (p : Pair)
          → Memᴰ p (qualifying (terms (after n).query) (cond field x y) (cond field y x)) ↔ New (n * size) high p
      inside p =
          subst
          (λ q. Memᴰ p (qualifying (terms q) (cond field x y) (cond field y x)) ↔ New (n * size) high p)
          (sym (blocks_keep field s x (cond field t f) c n).query)
          (mem_between field s.query f t a b (n * size) high hb (omega arith) p)

      under : (p : Pair) → New (n * size) high p
          → p.sum ≤ first_scores (after n).query (cond field x y).rows (cond field y x).rows
      under p m =
          subst
          (λ q. p.sum ≤ first_scores q (cond field x y).rows (cond field y x).rows)
          (sym (blocks_keep field s x (cond field t f) c n).query)
          (between_low field s.query f t a b (n * size) high g h p m)

      new : (p : Pair) → New (n * size) high p → Joined low p → ⊥
      new p m (inl r) = omega (arith, m.own_part, old p r)
      new p m (inr r) = omega (arith, m.other_part, r.other_part)

      more : (p : Pair) → Joined (min (suc n * size) c) p ↔ (Joined low p ⊎ New (n * size) high p)
      more p = (
        λ r. ⊎_elim (λ i. inl (inl i)) (λ m. ⊎_elim (λ i. inl (inr i)) inr (split.0 m)) r,
        λ r. ⊎_elim (λ i. ⊎_elim inl (λ m. inr (split.1 (inl m))) i) (λ m. inr (split.1 (inr m))) r,
      )
        where
          split : New 0 (min (suc n * size) c) p ↔ (New 0 low p ⊎ New (n * size) high p)
          split =
              subst (λ m. New 0 (min m c) p ↔ (New 0 low p ⊎ New (n * size) high p)) (sym (suc-mul n size))
              (between_split field s.query f t a b (n * size) size c p)

  blocks_hold : (n : ℕ) → Keeping (Joined (min (n * size) c)) out (after n)
  unfolding meet_blocks_by
  blocks_hold zero =
      keeping_same R (Joined (min (0 * size) c)) out s
      (λ p. (inl, ⊎_elim (λ r. r) (λ m. absurd (omega (arith, m.other_part))))) k
  blocks_hold (suc n) = block_holds n (blocks_hold n)

  -- all blocks: rows 1 to c of the other table
  pub all_blocks_hold : 1 ≤ size → Keeping (Joined c) out (after (block_count size c))
  all_blocks_hold w = subst (λ d. Keeping (Joined d) out (after n)) cover (blocks_hold n)
    where
      n : ℕ
      n = block_count size c

      cover : min (n * size) c ≡ c
      cover = omega (arith, lt-div-mul-add {a = c + size - 1} {b = size} w)
