-- Ranked pairs: the last has the lowest sum, and is secured only if all are. Assumes nothing.
use Rattle.std.specs.Prelude.{◌≡◌, Bool, ◌&&◌, List, [], ◌∷◌, ℕ, suc, ◌-◌, ◌≤◌, ◌<◌, leb, length, get_or, take}
use Rattle.std.proofs.Math.Path.{refl}
use Rattle.std.proofs.Common.{sym, ap, ◌∙◌, inl, not-suc-le-zero, arith, length-take-le, get_or-take}
use Rattle.std.proofs.Math.Bool.{true, false, cond, not}
use borrow.Author.Tests.{leb-true, leb-false, le-leb, ne_eqb}
use Rattle.lists.specs.Lists.{every}
use Rattle.lists.specs.Bools.{clash, and_true, and_false}
use Rattle.lists.specs.Words.{All, Ordered}
use Rattle.lists.specs.Sorts.{all_map, ranked_ordered}
use Rattle.rules.specs.declared.Pair.{Pair}
use Rattle.rules.specs.declared.Session.{Session}
use Rattle.rules.specs.Tables.{Table, ahead}
use Rattle.rules.proofs.Ranking.{Before, before_ahead, ahead_strict}
use Rattle.rules.specs.Session.{no_pair, held_pairs, both_read_out, a_depth_is_zero, a_table_is_empty, ceiling}
use Rattle.rules.specs.Session.{secured_by}
use Rattle.rules.specs.Session.{secured}
use Rattle.rules.specs.Read.{lowest}
use Rattle.session_laws.specs.Record.{RecordFits, first_fits}
use Rattle.session_laws.specs.Calls.{Accepted}
use Rattle.table_ends.specs.BothRead.{BothRead, accepted_rows}

-- what is not ahead has no higher sum
pub not_higher : (p q : Pair) → ahead q p ≡ false → q.sum ≤ p.sum
unfolding Before
not_higher p q h = go (leb q.sum p.sum) refl
  where
    go : (b : Bool) → leb q.sum p.sum ≡ b → q.sum ≤ p.sum
    go true e = leb-true q.sum p.sum e
    go false e = clash (before_ahead q p (inl (leb-false q.sum p.sum e))) h

-- the last of some pairs
abbrev pub last_of : List Pair → Pair
last_of l = get_or l (length l - 1) no_pair

last_cons : (p q : Pair) (l : List Pair) → last_of (p ∷ q ∷ l) ≡ last_of (q ∷ l)
last_cons p q l =
    let e : suc (suc (length l)) - 1 ≡ suc (suc (length l) - 1) = omega arith in
    ap (λ (i : ℕ). get_or (p ∷ q ∷ l) i no_pair) e

all_last : (P : Pair → Type 0) (q : Pair) (l : List Pair) → All P (q ∷ l) → P (last_of (q ∷ l))
all_last P q [] h = h.0
all_last P q (r ∷ l) h = rw (last_cons q r l) (all_last P r l h.1)

-- the last of ranked pairs has the lowest sum
last_low : (p q : Pair) (l : List Pair) → Ordered ahead (p ∷ q ∷ l) → (last_of (p ∷ q ∷ l)).sum ≤ p.sum
last_low p q l o =
    rw (last_cons p q l)
    (all_last (λ y. y.sum ≤ p.sum) q l
    (all_map (λ y. ahead y p ≡ false) (λ y. y.sum ≤ p.sum) (λ y h. not_higher p y h) (q ∷ l) o.0))

pub lowest_is_last : (l : List Pair) → 0 < length l → Ordered ahead l → lowest l ≡ (last_of l).sum
unfolding lowest
lowest_is_last [] h o = absurd (not-suc-le-zero h)
lowest_is_last (p ∷ []) h o = refl
lowest_is_last (p ∷ q ∷ l) h o =
    let ih : lowest (q ∷ l) ≡ (last_of (q ∷ l)).sum = lowest_is_last (q ∷ l) (omega arith) o.1 in
    let same : (last_of (p ∷ q ∷ l)).sum ≡ (last_of (q ∷ l)).sum = ap (λ (r : Pair). r.sum) (last_cons p q l) in
    let low = last_low p q l o in
    omega arith

-- a test that a higher sum passes too is passed by all where the last passes it
every_last : (test : Pair → Bool) → ((p q : Pair) → q.sum ≤ p.sum → test q ≡ true → test p ≡ true) →
    (l : List Pair) → 0 < length l → Ordered ahead l → every test l ≡ test (last_of l)
unfolding every
every_last test mono [] h o = absurd (not-suc-le-zero h)
every_last test mono (p ∷ []) h o = and_true (test p)
every_last test mono (p ∷ q ∷ l) h o =
    ap (λ (b : Bool). test p && b) (every_last test mono (q ∷ l) (omega arith) o.1 ∙ ap test (sym (last_cons p q l)))
    ∙ go (test (last_of (p ∷ q ∷ l))) refl
  where
    go : (b : Bool) → test (last_of (p ∷ q ∷ l)) ≡ b → test p && b ≡ b
    go true e = rw (mono p (last_of (p ∷ q ∷ l)) (last_low p q l o) e)
    go false e = and_false (test p)

module _ (f t : Table) (s : Session) where
  secured_higher : (p q : Pair) → q.sum ≤ p.sum → secured f t s q ≡ true → secured f t s p ≡ true
  unfolding secured_by
  secured_higher p q h = go (a_depth_is_zero s && not (a_table_is_empty f t s)) (both_read_out f t s)
    where
      go : (a b : Bool) → cond a false (cond b true (leb (ceiling f t s) q.sum)) ≡ true
          → cond a false (cond b true (leb (ceiling f t s) p.sum)) ≡ true
      go true b k = k
      go false true k = refl
      go false false k = le-leb (ceiling f t s) p.sum (let c = leb-true (ceiling f t s) q.sum k in omega arith)

  -- every held pair is secured where the last one is
  pub all_secured : (l : List Pair) → 0 < length l → Ordered ahead l
      → every (secured f t s) l ≡ secured f t s (last_of l)
  all_secured l h o = every_last (secured f t s) secured_higher l h o

-- once rows of both tables were read, only the read-out tables and the ceiling decide
pub read_secured : (f t : Table) (s : Session) (p : Pair) → BothRead f t s.depth →
    secured f t s p ≡ cond (both_read_out f t s) true (leb (ceiling f t s) p.sum)
unfolding secured_by
read_secured f t s p r =
    let d : s.depth.field.0 ≡ 0 → ⊥ = omega (arith, r.field_some) in
    let e : s.depth.trim.0 ≡ 0 → ⊥ = omega (arith, r.trim_some) in
    rw (ne_eqb s.depth.field.0 0 d, ne_eqb s.depth.trim.0 0 e)

-- a record with a pair held, over its tables
pub held_then_read : (f t : Table) (s : Session) → Accepted f t s → 0 < length s.pairs → 0 < s.held
    → BothRead f t s.depth
held_then_read f t s a n h =
    let p = first_fits s a.lent.fits n h in
    let rows = accepted_rows f t s a in
    record {
      field_some = omega (arith, p.field_row);
      trim_some = omega (arith, p.trim_row);
      field = rows.0;
      trim = rows.1;
    }

-- the last of the first n places
pub last_taken : (a : List Pair) (n : ℕ) → 0 < n → n ≤ length a → last_of (take n a) ≡ get_or a (n - 1) no_pair
last_taken a n h k =
    ap (λ (i : ℕ). get_or (take n a) (i - 1) no_pair) (length-take-le n a k)
    ∙ get_or-take n a (n - 1) no_pair (omega arith)

-- every held pair is secured where the one in the last held place is
pub held_secured : (f t : Table) (s : Session) → RecordFits s → s.held ≤ length s.pairs → 0 < s.held →
    every (secured f t s) (held_pairs s) ≡ secured f t s (get_or s.pairs (s.held - 1) no_pair)
held_secured f t s fits k h =
    let some : 0 < length (held_pairs s) = omega (arith, length-take-le s.held s.pairs k) in
    all_secured f t s (held_pairs s) some (ranked_ordered ahead ahead_strict (held_pairs s) fits.rank)
    ∙ ap (secured f t s) (last_taken s.pairs s.held h k)
