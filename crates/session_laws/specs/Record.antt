-- What a query and a record that are not refused keep: 1 to 3, 12, 16 and 5 in words. Assumes nothing.
use Rattle.std.specs.Prelude.{◌≡◌, Bool, cond, ◌&&◌, ◌||◌, [], ◌∷◌, ◌⊎◌, ℕ, ◌+◌, ◌*◌, ◌%◌, ◌≤◌, ◌<◌, ltb, length, drop}
use Rattle.std.proofs.Math.Path.{refl, sym}
use Rattle.std.proofs.Common.{ap, ◌∙◌, ⊎_elim, arith}
use Rattle.std.proofs.Math.Bool.{true, false, not}
use Rattle.std.proofs.Math.Logic.{inl, inr}
use Rattle.std.proofs.Math.Dec.{eqb, leb}
use borrow.Author.Tests.{eqb-true, eqb-false, eq-eqb, leb-true, le-leb, ltb-true, lt-ltb}
use Rattle.lists.specs.Lists.{every, ranked}
use Rattle.lists.specs.Bools.{clash, and_out, and_in, or_out, or_true, all_out}
use Rattle.lists.specs.Parts.{every_first}
use Rattle.rules.specs.declared.Pair.{Pair}
use Rattle.rules.specs.declared.Query.{Query}
use Rattle.rules.specs.declared.Session.{Session}
use Rattle.rules.specs.Tables.{most_rows, ahead}
use Rattle.rules.specs.Session.{no_pair, held_pairs, nothing_qualifies}
use Rattle.rules.specs.Read.{block_count}
use Rattle.rules.specs.Take.{first_held}
use Rattle.rules.specs.Numbers.{unless, list_length, block_size, radius_range, weight_range, tolerance_range}
use Rattle.rules.specs.Checks.{first_out, unless_out}
use Rattle.rules.specs.Calls.{between, most_tolerance, query_code, counts_fit, most_sum, pair_fits, mark_fits, is_zeros}
use Rattle.rules.specs.Calls.{is_card, depths_fit, record_grounds, record_fits}

module _ (low high n : ℕ) where
  pub between_out : between low high n ≡ true → (low ≤ n) × (n ≤ high)
  between_out h = let both = and_out (leb low n) (leb n high) h in (leb-true low n both.0, leb-true n high both.1)

  pub between_in : low ≤ n → n ≤ high → between low high n ≡ true
  between_in h k = and_in (leb low n) (leb n high) (le-leb low n h) (le-leb n high k)

-- ---- 1, 2, 3, 12, 16: the query

pub record QueryFits (q : Query) : Type 0 where
  pub k : (1 ≤ q.k) × (q.k ≤ 64)
  pub block : (1 ≤ q.block) × (q.block ≤ 1024)
  pub radius : q.radius ≤ 40000
  pub field_weight : (1 ≤ q.weights.field.0) × (q.weights.field.0 ≤ 9)
  pub trim_weight : (1 ≤ q.weights.trim.0) × (q.weights.trim.0 ≤ 9)
  pub field_tolerance : q.tolerances.field.0 ≤ most_tolerance
  pub trim_tolerance : q.tolerances.trim.0 ≤ most_tolerance

pub query_out : (q : Query) → query_code q ≡ 0 → QueryFits q
unfolding query_code
query_out q h =
    let a = between 1 64 q.k in
    let b = between 1 1024 q.block in
    let c = leb q.radius 40000 in
    let d = between 1 9 q.weights.field.0 in
    let e = between 1 9 q.weights.trim.0 in
    let u = leb q.tolerances.field.0 most_tolerance in
    let v = leb q.tolerances.trim.0 most_tolerance in
    let faded = unless u tolerance_range ∷ unless v tolerance_range ∷ [] in
    let heavy = unless d weight_range ∷ unless e weight_range ∷ faded in
    let passes = first_out (unless a list_length ∷ unless b block_size ∷ unless c radius_range ∷ heavy) h in
    record {
      k = between_out 1 64 q.k (unless_out a list_length (omega arith) (passes 0));
      block = between_out 1 1024 q.block (unless_out b block_size (omega arith) (passes 1));
      radius = leb-true q.radius 40000 (unless_out c radius_range (omega arith) (passes 2));
      field_weight = between_out 1 9 q.weights.field.0 (unless_out d weight_range (omega arith) (passes 3));
      trim_weight = between_out 1 9 q.weights.trim.0 (unless_out e weight_range (omega arith) (passes 4));
      field_tolerance =
          leb-true q.tolerances.field.0 most_tolerance (unless_out u tolerance_range (omega arith) (passes 5));
      trim_tolerance =
          leb-true q.tolerances.trim.0 most_tolerance (unless_out v tolerance_range (omega arith) (passes 6));
    }

pub query_in_lem : (q : Query) → QueryFits q → query_code q ≡ 0
unfolding query_code
query_in_lem q h =
    rw (
      between_in 1 64 q.k h.k.0 h.k.1,
      between_in 1 1024 q.block h.block.0 h.block.1,
      le-leb q.radius 40000 h.radius,
      between_in 1 9 q.weights.field.0 h.field_weight.0 h.field_weight.1,
      between_in 1 9 q.weights.trim.0 h.trim_weight.0 h.trim_weight.1,
      le-leb q.tolerances.field.0 most_tolerance h.field_tolerance,
      le-leb q.tolerances.trim.0 most_tolerance h.trim_tolerance,
    )

-- ---- 5: a table's counts

-- a depth is whole blocks, or all rows
abbrev pub WholeBlocks : ℕ → ℕ → ℕ → Type 0
WholeBlocks block rows depth = (depth % block ≡ 0) ⊎ (depth ≡ rows)

pub record CountsFit (block rows depth : ℕ) : Type 0 where
  pub few : rows ≤ most_rows
  pub within : depth ≤ rows
  pub whole : WholeBlocks block rows depth

module _ (block rows depth : ℕ) where
  pub counts_out : counts_fit block rows depth ≡ true → CountsFit block rows depth
  unfolding counts_fit
  counts_out h =
      let whole = eqb (depth % block) 0 || eqb depth rows in
      let a = and_out (leb rows most_rows) (leb depth rows && whole) h in
      let b = and_out (leb depth rows) whole a.1 in
      record {
        few = leb-true rows most_rows a.0;
        within = leb-true depth rows b.0;
        whole = go (or_out (eqb (depth % block) 0) (eqb depth rows) b.1);
      }
    where
      go : (eqb (depth % block) 0 ≡ true) ⊎ (eqb depth rows ≡ true) → WholeBlocks block rows depth
      go (inl e) = inl (eqb-true (depth % block) 0 e)
      go (inr e) = inr (eqb-true depth rows e)

  pub counts_in : CountsFit block rows depth → counts_fit block rows depth ≡ true
  unfolding counts_fit
  counts_in h = rw (le-leb rows most_rows h.few, le-leb depth rows h.within) (go h.whole)
    where
      go : WholeBlocks block rows depth → (eqb (depth % block) 0 || eqb depth rows) ≡ true
      go (inl e) = rw (eq-eqb (depth % block) 0 e)
      go (inr e) = rw (eq-eqb depth rows e) (or_true (eqb (depth % block) 0))

-- ---- 5: a held pair

pub record PairFits (s : Session) (p : Pair) : Type 0 where
  pub field_row : (1 ≤ p.field) × (p.field ≤ s.depth.field.0)
  pub trim_row : (1 ≤ p.trim) × (p.trim ≤ s.depth.trim.0)
  pub low_sum_lem : p.sum ≤ most_sum

module _ (s : Session) (p : Pair) where
  pub pair_out : pair_fits s p ≡ true → PairFits s p
  unfolding pair_fits
  pair_out h =
      let trim = between 1 s.depth.trim.0 p.trim in
      let a = and_out (between 1 s.depth.field.0 p.field) (trim && leb p.sum most_sum) h in
      let b = and_out trim (leb p.sum most_sum) a.1 in
      record {
        field_row = between_out 1 s.depth.field.0 p.field a.0;
        trim_row = between_out 1 s.depth.trim.0 p.trim b.0;
        low_sum_lem = leb-true p.sum most_sum b.1;
      }

  pub pair_in_lem : PairFits s p → pair_fits s p ≡ true
  unfolding pair_fits
  pair_in_lem h =
      rw (
        between_in 1 s.depth.field.0 p.field h.field_row.0 h.field_row.1,
        between_in 1 s.depth.trim.0 p.trim h.trim_row.0 h.trim_row.1,
      )
      (le-leb p.sum most_sum h.low_sum_lem)

-- ---- 5: the last-read mark

pub record MarkFits (s : Session) : Type 0 where
  pub none : s.last ≡ 0 → (s.depth.field.0 ≡ 0) × (s.depth.trim.0 ≡ 0)
  pub field : s.last ≡ 1 → 0 < s.depth.field.0
  pub trim : s.last ≡ 2 → 0 < s.depth.trim.0
  pub most : s.last ≤ 2

module _ (s : Session) where
  abbrev mark_rule : Bool → Bool → Bool → Bool
  mark_rule none field trim =
      cond none (eqb s.depth.field.0 0 && eqb s.depth.trim.0 0)
      (cond field (ltb 0 s.depth.field.0) (cond trim (ltb 0 s.depth.trim.0) false))

  pub mark_out : mark_fits s ≡ true → MarkFits s
  unfolding mark_fits
  mark_out h = go (eqb s.last 0) (eqb s.last 1) (eqb s.last 2) refl refl refl h
    where
      go : (a b c : Bool) → eqb s.last 0 ≡ a → eqb s.last 1 ≡ b → eqb s.last 2 ≡ c → mark_rule a b c ≡ true
          → MarkFits s
      go true b c x y z h =
          let last : s.last ≡ 0 = eqb-true s.last 0 x in
          let both = and_out (eqb s.depth.field.0 0) (eqb s.depth.trim.0 0) h in
          record {
            none = λ e. (eqb-true s.depth.field.0 0 both.0, eqb-true s.depth.trim.0 0 both.1);
            field = λ e. absurd (omega arith);
            trim = λ e. absurd (omega arith);
            most = omega arith;
          }
      go false true c x y z h =
          let last : s.last ≡ 1 = eqb-true s.last 1 y in
          record {
            none = λ e. absurd (omega arith);
            field = λ e. ltb-true 0 s.depth.field.0 h;
            trim = λ e. absurd (omega arith);
            most = omega arith;
          }
      go false false true x y z h =
          let last : s.last ≡ 2 = eqb-true s.last 2 z in
          record {
            none = λ e. absurd (omega arith);
            field = λ e. absurd (omega arith);
            trim = λ e. ltb-true 0 s.depth.trim.0 h;
            most = omega arith;
          }
      go false false false x y z h = clash h refl

  pub mark_in : MarkFits s → mark_fits s ≡ true
  unfolding mark_fits
  mark_in h = go (eqb s.last 0) (eqb s.last 1) (eqb s.last 2) refl refl refl
    where
      go : (a b c : Bool) → eqb s.last 0 ≡ a → eqb s.last 1 ≡ b → eqb s.last 2 ≡ c → mark_rule a b c ≡ true
      go true b c x y z =
          let both = h.none (eqb-true s.last 0 x) in
          rw (eq-eqb s.depth.field.0 0 both.0) (eq-eqb s.depth.trim.0 0 both.1)
      go false true c x y z = lt-ltb 0 s.depth.field.0 (h.field (eqb-true s.last 1 y))
      go false false true x y z = lt-ltb 0 s.depth.trim.0 (h.trim (eqb-true s.last 2 z))
      go false false false x y z =
          let a : s.last ≡ 0 → ⊥ = eqb-false s.last 0 x in
          let b : s.last ≡ 1 → ⊥ = eqb-false s.last 1 y in
          let c : s.last ≡ 2 → ⊥ = eqb-false s.last 2 z in
          absurd (omega (arith, h.most))

-- ---- 5: the card

pub card_out : (n : ℕ) → is_card n ≡ true → (n ≡ 2) ⊎ (n ≡ 3)
card_out n h = ⊎_elim (λ e. inl (eqb-true n 2 e)) (λ e. inr (eqb-true n 3 e)) (or_out (eqb n 2) (eqb n 3) h)

pub card_least : (n : ℕ) → is_card n ≡ true → 2 ≤ n
card_least n h = ⊎_elim (λ e. omega (arith, e)) (λ e. omega (arith, e)) (card_out n h)

pub card_small : (n : ℕ) → is_card n ≡ true → n ≤ 3
card_small n h = ⊎_elim (λ e. omega (arith, e)) (λ e. omega (arith, e)) (card_out n h)

-- what is not the old card is the new one
pub card_other : (n : ℕ) → is_card n ≡ true → (n ≡ 2 → ⊥) → n ≡ 3
card_other n h e = ⊎_elim (λ k. absurd (e k)) (λ k. k) (card_out n h)

-- ---- 5: nothing is read for a query that nothing can meet

-- no row is read where none can qualify
abbrev pub UnreadIfNone : Session → Type 0
UnreadIfNone s = nothing_qualifies s ≡ true → (s.depth.field.0 ≡ 0) × (s.depth.trim.0 ≡ 0)

module _ (s : Session) where
  pub depths_out : depths_fit s ≡ true → UnreadIfNone s
  unfolding depths_fit
  depths_out h u =
      let none = eqb s.depth.field.0 0 && eqb s.depth.trim.0 0 in
      let e : none ≡ true = sym (ap (λ b. not b || none) u) ∙ h in
      let both = and_out (eqb s.depth.field.0 0) (eqb s.depth.trim.0 0) e in
      (eqb-true s.depth.field.0 0 both.0, eqb-true s.depth.trim.0 0 both.1)

  pub depths_in : UnreadIfNone s → depths_fit s ≡ true
  unfolding depths_fit
  depths_in h = go (nothing_qualifies s) refl
    where
      go : (b : Bool) → nothing_qualifies s ≡ b
          → (not b || (eqb s.depth.field.0 0 && eqb s.depth.trim.0 0)) ≡ true
      go false e = refl
      go true e = rw (eq-eqb s.depth.field.0 0 (h e).0) (eq-eqb s.depth.trim.0 0 (h e).1)

-- ---- 5: the record

-- as many block pairs as the depths have, and no more, can be joined
abbrev pub most_joined : Session → ℕ
most_joined s =
    block_count s.query.block s.depth.field.0 * block_count s.query.block s.depth.trim.0

pub record RecordFits (s : Session) : Type 0 where
  pub query : QueryFits s.query
  pub field : CountsFit s.query.block s.rows.field.0 s.depth.field.0
  pub trim : CountsFit s.query.block s.rows.trim.0 s.depth.trim.0
  pub room : s.out + s.held ≤ s.query.k
  pub pairs : every (pair_fits s) (held_pairs s) ≡ true
  pub rank : ranked ahead (held_pairs s) ≡ true
  pub mark : MarkFits s
  pub zeros : every is_zeros (drop s.held s.pairs) ≡ true
  pub joined : s.joined ≤ most_joined s
  pub card : is_card s.rows.card ≡ true
  pub depths : UnreadIfNone s

module _ (s : Session) where
  pub record_out : record_fits s ≡ true → RecordFits s
  unfolding record_fits
  record_out h =
      let passes = all_out (record_grounds s) h in
      record {
        query = query_out s.query (eqb-true (query_code s.query) 0 (passes 0));
        field = counts_out s.query.block s.rows.field.0 s.depth.field.0 (passes 1);
        trim = counts_out s.query.block s.rows.trim.0 s.depth.trim.0 (passes 2);
        room = leb-true (s.out + s.held) s.query.k (passes 3);
        pairs = passes 4;
        rank = passes 5;
        mark = mark_out s (passes 6);
        zeros = passes 7;
        joined = leb-true s.joined (most_joined s) (passes 8);
        card = passes 9;
        depths = depths_out s (passes 10);
      }

  pub record_in : RecordFits s → record_fits s ≡ true
  unfolding record_fits
  record_in h =
      rw (
        eq-eqb (query_code s.query) 0 (query_in_lem s.query h.query),
        counts_in s.query.block s.rows.field.0 s.depth.field.0 h.field,
        counts_in s.query.block s.rows.trim.0 s.depth.trim.0 h.trim,
        le-leb (s.out + s.held) s.query.k h.room,
        h.pairs,
        h.rank,
        mark_in s h.mark,
        h.zeros,
        le-leb s.joined (most_joined s) h.joined,
        h.card,
      )
      (depths_in s h.depths)

  -- the first held pair
  pub first_fits : RecordFits s → 0 < length s.pairs → 0 < s.held → PairFits s (first_held s)
  first_fits fits n h =
      pair_out s (first_held s) (every_first (pair_fits s) no_pair s.held s.pairs n h fits.pairs)
