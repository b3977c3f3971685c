-- 5 in the order of the code: the numbers first, then the pair places one after the other. Assumes nothing.
use mathlib.Core.Path.{◌≡◌, refl, sym, ap, ap₂, ◌∙◌}
use mathlib.Core.Bool.{Bool, true, false, cond, ◌&&◌, ◌||◌}
use mathlib.Core.List.{List, [], ◌∷◌}
use Prim.Native.Nat.{ℕ, zero, suc, ◌+◌, ◌*◌, ◌≤◌, ◌<◌}
use native.Mathlib.Omega.{arith}
use lib.Dec.{eqb, leb}
use lib.ListN.{length, take, drop, get_or, drop_of_length-le}
use lib.Seq.{drop-cons}
use borrow.Author.Tests.{le-leb, lt-leb, ne_eqb}
use Rattle.lists.specs.Bools.{and_left, and_right}
use Rattle.lists.specs.Lists.{every, ranked}
use Rattle.rules.specs.declared.Counts.{Counts}
use Rattle.rules.specs.declared.Pair.{Pair}
use Rattle.rules.specs.declared.Session.{Session}
use Rattle.rules.specs.Tables.{ahead}
use Rattle.rules.specs.Session.{no_pair, held_pairs}
use Rattle.rules.specs.Read.{block_count}
use Rattle.rules.specs.Calls.{is_card, query_code, counts_fit, pair_fits, mark_fits, is_zeros, depths_fit, record_fits}
use Rattle.depth_checks.specs.Grounds.{mark_of, depths_of}
use Rattle.number_checks.specs.Grounds.{numbers_fit}
use Rattle.session_laws.specs.Record.{counts_out}
use Rattle.pair_checks.specs.Grounds.{pair_within, place_fits, places_from, pairs_fit, Shallow}

module _ (depth : Counts) where
  -- behind those held all are zeros
  zeros_from : (i n : ℕ) (b : Pair) (l : List Pair) → n ≤ i → places_from i n depth b l ≡ every is_zeros l
  unfolding places_from place_fits every
  zeros_from i n b [] h = refl
  zeros_from i n b (p ∷ l) h =
      ap₂ (λ (x y : Bool). cond x (is_zeros p) (pair_within depth p && (eqb i 0 || ahead b p)) && y) (le-leb n i h)
      (zeros_from (suc i) n p l (omega arith))

  regroup : (w a e r z : Bool) → (w && a) && (e && (r && z)) ≡ (w && e) && ((a && r) && z)
  regroup false a e r z = refl
  regroup true false false r z = refl
  regroup true false true r z = refl
  regroup true true e r z = refl

  -- k more are held behind place i, where b stands
  held_from_lem : (k i n : ℕ) (b : Pair) (l : List Pair) → n ≡ suc (i + k)
      → places_from (suc i) n depth b l
      ≡ every (pair_within depth) (take k l) && (ranked ahead (b ∷ take k l) && every is_zeros (drop k l))
  unfolding places_from place_fits every ranked
  held_from_lem zero i n b l e = zeros_from (suc i) n b l (omega arith)
  held_from_lem (suc k) i n b [] e = refl
  held_from_lem (suc k) i n b (p ∷ l) e =
      let w = pair_within depth p in
      let some : leb n (suc i) ≡ false = lt-leb n (suc i) (omega arith) in
      let later : eqb (suc i) 0 ≡ false = ne_eqb (suc i) 0 (λ z. absurd (omega (arith, z))) in
      ap₂
      (λ (x y : Bool). cond x (is_zeros p) (w && (y || ahead b p)) && places_from (suc (suc i)) n depth p l) some later
      ∙ ap (λ (y : Bool). (w && ahead b p) && y) (held_from_lem k (suc i) n p l (omega arith))
      ∙ regroup w (ahead b p) (every (pair_within depth) (take k l)) (ranked ahead (p ∷ take k l))
      (every is_zeros (drop k l))

  first_regroup : (w e r z : Bool) → (w && true) && (e && (r && z)) ≡ (w && e) && (r && z)
  first_regroup false e r z = refl
  first_regroup true e r z = refl

  places_are : (n : ℕ) (b : Pair) (l : List Pair)
      → places_from 0 n depth b l
      ≡ every (pair_within depth) (take n l) && (ranked ahead (take n l) && every is_zeros (drop n l))
  unfolding places_from place_fits every ranked
  places_are zero b l = zeros_from 0 0 b l (omega arith)
  places_are (suc n) b [] = refl
  places_are (suc n) b (p ∷ l) =
      let w = pair_within depth p in
      let some : leb (suc n) 0 ≡ false = lt-leb (suc n) 0 (omega arith) in
      ap₂ (λ (x y : Bool). cond x (is_zeros p) (w && true) && y) some (held_from_lem n 0 (suc n) p l (omega arith))
      ∙ first_regroup w (every (pair_within depth) (take n l)) (ranked ahead (p ∷ take n l)) (every is_zeros (drop n l))

  -- one place more
  pub place_more : (i n : ℕ) (b : Pair) (a : List Pair) → i < length a
      → places_from i n depth b (drop i a)
      ≡ place_fits i n depth b (get_or a i no_pair) && places_from (suc i) n depth (get_or a i no_pair) (drop (suc i) a)
  unfolding places_from
  place_more i n b a h = ap (places_from i n depth b) (drop-cons a i no_pair h)

  pub places_end : (i n : ℕ) (b : Pair) (a : List Pair) → length a ≤ i → places_from i n depth b (drop i a) ≡ true
  unfolding places_from
  places_end i n b a h = ap (places_from i n depth b) (drop_of_length-le a h)

-- q, f, t, r: the grounds before the places; p, k, z: those of the places; m, j: those behind them
order : (q f t r p k m z j : Bool)
    → q && (f && (t && (r && (p && (k && (m && (z && j))))))) ≡ (q && (f && (t && (r && (m && j))))) && (p && (k && z))
order false f t r p k m z j = refl
order true false t r p k m z j = refl
order true true false r p k m z j = refl
order true true true false p k m z j = refl
order true true true true false k true z true = refl
order true true true true false k true z false = refl
order true true true true false k false z j = refl
order true true true true true false true z true = refl
order true true true true true false true z false = refl
order true true true true true false false z j = refl
order true true true true true true true true true = refl
order true true true true true true true true false = refl
order true true true true true true true false true = refl
order true true true true true true true false false = refl
order true true true true true true false z j = refl

pub answer : (s : Session)
    → record_fits s
    ≡ numbers_fit s.query s.rows s.depth s.last s.out s.held s.joined && pairs_fit s.pairs s.held s.depth
unfolding record_fits pair_fits pair_within mark_fits mark_of depths_fit depths_of numbers_fit
answer s =
    order (eqb (query_code s.query) 0)
    (counts_fit s.query.block s.rows.field.0 s.depth.field.0)
    (counts_fit s.query.block s.rows.trim.0 s.depth.trim.0)
    (leb (s.out + s.held) s.query.k)
    (every (pair_fits s) (held_pairs s)) (ranked ahead (held_pairs s)) (mark_fits s)
    (every is_zeros (drop s.held s.pairs))
    (leb s.joined
    (block_count s.query.block s.depth.field.0 * block_count s.query.block s.depth.trim.0)
    && (is_card s.rows.card && depths_fit s))
    ∙ ap (λ (x : Bool). numbers_fit s.query s.rows s.depth s.last s.out s.held s.joined && x)
    (sym (places_are s.depth s.held no_pair s.pairs))

-- the numbers fit: no row is beyond 65,535
pub numbers_shallow : (s : Session) → numbers_fit s.query s.rows s.depth s.last s.out s.held s.joined ≡ true
    → Shallow s.depth
unfolding numbers_fit
numbers_shallow s h =
    let x = counts_fit s.query.block s.rows.field.0 s.depth.field.0 in
    let y = counts_fit s.query.block s.rows.trim.0 s.depth.trim.0 in
    let counts = and_right (eqb (query_code s.query) 0) _ h in
    let f = counts_out s.query.block s.rows.field.0 s.depth.field.0 (and_left x _ counts) in
    let t = counts_out s.query.block s.rows.trim.0 s.depth.trim.0 (and_left y _ (and_right x _ counts)) in
    record { field = omega (arith, f.few, f.within); trim = omega (arith, t.few, t.within) }
