-- A pair that the last of a full list stands ahead of changes nothing. Assumes nothing.
use Rattle.std.specs.Prelude.{◌≡◌, refl, Bool, true, false, cond, List, [], ◌∷◌, ℕ, zero, suc, ◌+◌, ◌-◌, ◌≤◌, ◌<◌}
use Rattle.std.specs.Prelude.{ltb, length, get_or, take}
use Rattle.std.proofs.Common.{sym, ap, ◌∙◌, arith, eqb}
use Rattle.lists.specs.Bools.{and_out}
use Rattle.lists.specs.Lists.{ins}
use Rattle.lists.specs.Words.{Ordered}
use Rattle.lists.specs.Sorts as Sorts
use Rattle.rules.specs.declared.Pair.{Pair}
use borrow.Author.Tests.{eqb-true, ltb-true, lt-ltb}
use Rattle.rules.specs.Tables.{Terms, Block, row, row_count, pair_sum, pair_at, ahead}
use Rattle.rules.proofs.Ranking.{ahead_strict}
use Rattle.rules.specs.Session.{no_pair}
use Rattle.keys.specs.Held.{key_of, falls_off, Narrow, Keyed}
use Rattle.keys.specs.Keys.{all_get_d, key_order, key_at, keyed_length}
use Rattle.block.specs.Block.{put_if, met_row, met_rows}

-- p falls off behind a list whose last pair stands ahead of it
falls_off_list : (p : Pair) (l : List Pair) → Ordered ahead l → ahead (get_or l (length l - 1) no_pair) p ≡ true
    → take (length l) (ins ahead p l) ≡ l
unfolding ins
falls_off_list p [] o h = refl
falls_off_list p (q ∷ []) o h = ap (λ (b : Bool). take 1 (cond b (q ∷ p ∷ []) (p ∷ q ∷ []))) h
falls_off_list p (q ∷ r ∷ m) o h =
    let n = length m in
    let i : suc (suc n) - 1 ≡ suc n = omega arith in
    let j : suc n - 1 ≡ n = omega arith in
    let z = get_or (r ∷ m) n no_pair in
    let k : ahead z p ≡ true = sym (ap (λ (e : ℕ). ahead (get_or (q ∷ r ∷ m) e no_pair) p) i) ∙ h in
    let before : ahead z q ≡ false = all_get_d (λ y. ahead y q ≡ false) (r ∷ m) n o.0 (omega arith) in
    let first : ahead q p ≡ true = Sorts.between_ahead ahead ahead_strict p q z k before in
    let rest = falls_off_list p (r ∷ m) o.1 (ap (λ (e : ℕ). ahead (get_or (r ∷ m) e no_pair) p) j ∙ k) in
    ap (λ (b : Bool). take (suc (suc n)) (cond b (q ∷ ins ahead p (r ∷ m)) (p ∷ q ∷ r ∷ m))) first
    ∙ ap (λ (l : List Pair). q ∷ l) rest

empty : (l : List Pair) → length l ≡ 0 → [] ≡ l
empty [] h = refl
empty (q ∷ l) h = absurd (omega arith)

-- the same of keys
pub off : (room : ℕ) (ks : List ℕ) (l : List Pair) (p : Pair) → Keyed l ks → length ks ≤ room → Narrow p
    → Ordered ahead l → (0 < room → falls_off room ks p ≡ true) → take room (ins ahead p l) ≡ l
off zero ks l p k few narrow o t = empty l (omega (arith, keyed_length l ks k))
off (suc n) ks l p k few narrow o t =
    let both = and_out (eqb (length ks) (suc n)) (ltb (get_or ks (suc n - 1) 0) (key_of p)) (t (omega arith)) in
    let full : length l ≡ suc n = sym (keyed_length l ks k) ∙ eqb-true (length ks) (suc n) both.0 in
    let last : suc n - 1 ≡ length l - 1 = omega arith in
    let q = get_or l (length l - 1) no_pair in
    let at : get_or ks (suc n - 1) 0 ≡ key_of q =
    ap (λ (i : ℕ). get_or ks i 0) last ∙ key_at l ks (length l - 1) k (omega arith) in
    let behind : ahead q p ≡ true =
    sym (key_order q p (all_get_d Narrow l (length l - 1) k.narrow (omega arith)) narrow)
    ∙ ap (λ (i : ℕ). ltb i (key_of p)) (sym at)
    ∙ both.1 in
    ap (λ (i : ℕ). take i (ins ahead p l)) (sym full) ∙ falls_off_list p l o behind

-- whether it qualifies or not
pub put_off : (b : Bool) (room : ℕ) (p : Pair) (l : List Pair) → take room (ins ahead p l) ≡ l → put_if b room p l ≡ l
put_off true room p l e = e
put_off false room p l e = refl

-- pairs of a row of x, the rows of y one below the other and their scores falling: a later one ranks behind
module _ (w : Terms) (x y : Block) (i k j : ℕ) (h : k ≤ j)
    (falls : w.trim (row y.rows j) ≤ w.trim (row y.rows k)) (few : y.start + j + 1 < 65536)
    (narrow : Narrow (pair_at w x y i k)) where
  pub later_narrow : Narrow (pair_at w x y i j)
  unfolding pair_at pair_sum
  later_narrow = record { sum = omega (arith, narrow.sum); field = narrow.field; trim = few }

  behind : (last : ℕ) → last < key_of (pair_at w x y i k) → last < key_of (pair_at w x y i j)
  unfolding pair_at pair_sum key_of
  behind last e = omega (arith, narrow.sum)

  pub later_falls : (room : ℕ) (ks : List ℕ) → falls_off room ks (pair_at w x y i k) ≡ true
      → falls_off room ks (pair_at w x y i j) ≡ true
  later_falls room ks e =
      let last = get_or ks (room - 1) 0 in
      let key = key_of (pair_at w x y i k) in
      let both = and_out (eqb (length ks) room) (ltb last key) e in
      rw (both.0, lt-ltb last (key_of (pair_at w x y i j)) (behind last (ltb-true last key both.1))) refl

-- the pairs held stay in order
put_ordered : (b : Bool) (room : ℕ) (p : Pair) (l : List Pair) → Ordered ahead l → Ordered ahead (put_if b room p l)
put_ordered true room p l o = Sorts.take_ordered ahead room (ins ahead p l) (Sorts.ins_ordered ahead ahead_strict p l o)
put_ordered false room p l o = o

pub row_ordered : (w : Terms) (room : ℕ) (x y : Block) (i : ℕ) (l : List Pair) (j : ℕ) → Ordered ahead l
    → Ordered ahead (met_row w room x y i l j)
unfolding met_row
row_ordered w room x y i l zero o = o
row_ordered w room x y i l (suc j) o =
    put_ordered (w.near (row x.rows i) (row y.rows j)) room (pair_at w x y i j) _ (row_ordered w room x y i l j o)

pub rows_ordered : (w : Terms) (room : ℕ) (x y : Block) (l : List Pair) (i : ℕ) → Ordered ahead l
    → Ordered ahead (met_rows w room x y l i)
unfolding met_rows
rows_ordered w room x y l zero o = o
rows_ordered w room x y l (suc i) o =
    row_ordered w room x y i _ (row_count y.rows) (rows_ordered w room x y l i o)
