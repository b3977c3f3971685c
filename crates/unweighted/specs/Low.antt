-- What holds of each pair held and of each pair that a read meets holds of each pair held after the read: of any record
-- and any slices. Assumes nothing.
use Rattle.std.specs.Prelude.{◌≡◌, refl, Bool, true, false, cond, take, drop}
use Rattle.std.proofs.Common.{sym, ap, subst, ◌∙◌, ⊎_elim, arith, one-mul, le-leb}
use mathlib.Core.List.Memᴰ
use mathlib.Core.List.{List, [], ◌∷◌, ◌++◌, Memᴰ}
use Prim.Native.Nat.{ℕ, zero, suc, ◌+◌, ◌*◌, ◌-◌, ◌≤◌, min}
use Rattle.lists.specs.Lists.{sort, every}
use Rattle.lists.specs.Bools.{and_out}
use Rattle.lists.specs.Parts.{every_at, every_of}
use Rattle.lists.specs.Members.{mem_take, mem_sort}
use Rattle.rules.specs.declared.Pair.{Pair}
use Rattle.rules.specs.declared.Query.{Query}
use Rattle.rules.specs.declared.Session.{Session}
use Rattle.rules.specs.Tables.{Table, row_count, ahead, row, weighted, terms, pair_sum, Block, qualifying}
use Rattle.rules.specs.Session.{weights, no_pair, held_pairs}
use Rattle.rules.specs.Read.{rows_between, block_count, block_at, skipped, best_held, holding, meet_by, meet}
use Rattle.rules.specs.Read.{meet_blocks_by, meet_blocks, read_to, old_depth, new_depth, read_table_by, read_table}
use Rattle.rules.specs.Take.{moved_out}
use Rattle.session_laws.specs.Tables.{RowFits, score_most}
use Rattle.session_laws.specs.Calls.{Accepted, NewRowsFit, read_rows}
use Rattle.session_laws.specs.Read.{new_within, own_within, blocks_keep}
use Rattle.tables_join.specs.Pairs.{QualifyingPair, Between, mem_between}
use Rattle.tables_join.specs.Held.{held_holding}
use Rattle.unweighted.specs.Unweighted.{most_low_sum, is_low}

module _ (test : Pair → Bool) where
  -- one block pair
  meet_every : (s : Session) (x y : Block) → every test (held_pairs s) ≡ true
      → ((p : Pair) → Memᴰ p (qualifying (terms s.query) x y) → test p ≡ true)
      → every test (held_pairs (meet s x y)) ≡ true
  unfolding meet_by best_held
  meet_every s x y held new = go (skipped s x y)
    where
      met : List Pair
      met = qualifying (terms s.query) x y

      kept : (p : Pair) → Memᴰ p (best_held s met) → test p ≡ true
      kept p m =
          ⊎_elim (λ k. every_at test p held k) (new p)
          (Memᴰ.append_cases (held_pairs s)
          ((mem_sort ahead p (held_pairs s ++ met)).0
          (mem_take (s.query.k - s.out) p (sort ahead (held_pairs s ++ met)) m)))

      go : (b : Bool) → every test (held_pairs (cond b s (holding s (best_held s met)))) ≡ true
      go true = held
      go false =
          subst (λ l. every test l ≡ true) (sym (held_holding s (best_held s met)))
          (every_of test (best_held s met) kept)

  -- rows a + 1 to b of the table that is read meet rows 1 to c of the other one
  module _ (field : Bool) (f t : Table) (s : Session) (a b c : ℕ) (hb : b ≤ row_count (cond field f t))
      (hc : c ≤ row_count (cond field t f)) (held : every test (held_pairs s) ≡ true)
      (new : (p : Pair) → Between field s.query f t a b 0 c p → test p ≡ true) where
    abbrev x : Block
    x = rows_between (cond field f t) a b

    blocks_every : (n : ℕ) → every test (held_pairs (meet_blocks field s x (cond field t f) c n)) ≡ true
    unfolding meet_blocks_by
    blocks_every zero = held
    blocks_every (suc n) =
        meet_every r (cond field x y) (cond field y x) (blocks_every n)
        (λ p m.
        let between =
        (mem_between field s.query f t a b (n * size) (min (n * size + size) c) hb (omega arith) p).0
        (subst (λ q. Memᴰ p (qualifying (terms q) (cond field x y) (cond field y x)))
        (blocks_keep field s x (cond field t f) c n).query m) in
        new p
        (record {
          fits = between.fits;
          own_part = between.own_part;
          other_part = omega (arith, between.other_part);
        }))
      where
        size : ℕ
        size = s.query.block

        y : Block
        y = block_at (cond field t f) size c n

        r : Session
        r = meet_blocks field s x (cond field t f) c n

  -- an accepted read
  module _ (field : Bool) (f t : Table) (s : Session) (a : Accepted f t s) where
    abbrev d : ℕ
    d = s.depth.field.0

    abbrev e : ℕ
    e = s.depth.trim.0

    pub read_every : every test (held_pairs s) ≡ true
        → ((p : Pair) → Between field s.query f t (old_depth field s) (new_depth field s) 0 (cond field e d) p
        → test p ≡ true)
        → every test (held_pairs (read_table field f t s)) ≡ true
    unfolding read_table_by read_to
    read_every held new =
        let fits = a.lent.fits in
        let down = new_within s fits.field.within fits.trim.within field in
        let own =
        own_within field f t (new_depth field s) d e (omega (arith, down, a.lent.field.count))
        (omega (arith, down, a.lent.trim.count)) in
        blocks_every field f t s (old_depth field s) (new_depth field s) (cond field e d) own.0 own.1 held new
        (block_count s.query.block (cond field e d))

-- ---- At weights 1 and 1 no sum that a read meets is above 19,998

weighted_one : (t : Table) (i : ℕ) → weighted 1 (row t i) ≡ (row t i).score
unfolding weighted
weighted_one t i = one-mul (row t i).score

sum_low : (q : Query) (f t : Table) (p : Pair) → q.weights ≡ weights 1 1 → QualifyingPair q f t p
    → RowFits f (p.field - 1) → RowFits t (p.trim - 1) → is_low p ≡ true
unfolding pair_sum
sum_low q f t p ones m x y =
    let i : ℕ = p.field - 1 in
    let j : ℕ = p.trim - 1 in
    let first : weighted q.weights.field.0 (row f i) ≡ (row f i).score =
    ap (λ v. weighted v.field.0 (row f i)) ones ∙ weighted_one f i in
    let second : weighted q.weights.trim.0 (row t j) ≡ (row t j).score =
    ap (λ v. weighted v.trim.0 (row t j)) ones ∙ weighted_one t j in
    le-leb p.sum most_low_sum
    (omega (arith, m.own_sum, first, second, score_most f i x.range, score_most t j y.range))

-- the rows of a pair that a read meets were checked
pair_checked : (field : Bool) (f t : Table) (s : Session) → Accepted f t s → NewRowsFit field f t s → (p : Pair)
    → Between field s.query f t (old_depth field s) (new_depth field s) 0
    (cond field s.depth.trim.0 s.depth.field.0) p
    → RowFits f (p.field - 1) × RowFits t (p.trim - 1)
pair_checked true f t s a new p m =
    let rows = read_rows true f t s a new in
    (rows.0 (p.field - 1) (omega (arith, m.own_part)), rows.1 (p.trim - 1) (omega (arith, m.other_part)))
pair_checked false f t s a new p m =
    let rows = read_rows false f t s a new in
    (rows.0 (p.field - 1) (omega (arith, m.other_part)), rows.1 (p.trim - 1) (omega (arith, m.own_part)))

pub read_low : (field : Bool) (f t : Table) (s : Session) → s.query.weights ≡ weights 1 1 → Accepted f t s
    → NewRowsFit field f t s → every is_low (held_pairs s) ≡ true → every is_low (held_pairs (read_table field f t s))
    ≡ true
read_low field f t s ones a new held =
    read_every is_low field f t s a held
    (λ p m.
    let rows = pair_checked field f t s a new p m in
    sum_low s.query f t p ones m.fits rows.0 rows.1)

-- ---- Nor of those left when the first pair moves out

every_end : (z : Pair) (n : ℕ) (l : List Pair) → is_low z ≡ true → every is_low (take n l) ≡ true
    → every is_low (take n (l ++ z ∷ [])) ≡ true
unfolding every
every_end z zero l h k = refl
every_end z (suc zero) [] h k = rw h
every_end z (suc (suc n)) [] h k = rw h
every_end z (suc n) (x ∷ l) h k =
    let both = and_out (is_low x) (every is_low (take n l)) k in
    rw both.0 (every_end z n l h both.1)

moved_places : (n : ℕ) (l : List Pair) → every is_low (take n l) ≡ true
    → every is_low (take (n - 1) (drop 1 l ++ (no_pair ∷ []))) ≡ true
unfolding every
moved_places zero l h = refl
moved_places (suc n) [] h = every_end no_pair (suc n - 1) [] refl (none (suc n - 1))
  where
    none : (n : ℕ) → every is_low (take n []) ≡ true
    none zero = refl
    none (suc n) = refl
moved_places (suc n) (x ∷ l) h =
    let j : suc n - 1 ≡ n = omega arith in
    ap (λ m. every is_low (take m (l ++ (no_pair ∷ [])))) j
    ∙ every_end no_pair n l refl (and_out (is_low x) (every is_low (take n l)) h).1

pub take_low : (s : Session) → every is_low (held_pairs s) ≡ true → every is_low (held_pairs (moved_out s)) ≡ true
unfolding moved_out
take_low s held = moved_places s.held s.pairs held
