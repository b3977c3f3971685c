-- A pair is read off its number, and numbers stand in the order of their pairs. Assumes nothing.
use Rattle.std.specs.Prelude.{ℕ, zero, suc, ◌+◌, ◌*◌, ◌-◌, ◌/◌, ◌%◌, ◌<◌, ◌≡◌, refl, Bool, true, false, cond, List, []}
use Rattle.std.specs.Prelude.{◌∷◌, map, ltb, length, get_or, take}
use Rattle.std.proofs.Common.{sym, ap, ◌∙◌, ⊎_elim, arith, lt-ltb, le-ltb, ltb-true, ltb-false}
use Rattle.std.proofs.Math.ListN.{get_or-eq_default}
use Rattle.lists.specs.Lists.{ins}
use Rattle.lists.specs.Words.{All}
use Rattle.lists.specs.Sorts as Sorts
use Rattle.rules.specs.declared.Pair.{Pair}
use Rattle.rules.specs.Tables.{ahead}
use Rattle.rules.specs.Session.{no_pair}
use Rattle.rules.proofs.Ranking.{Before, ahead_before, ahead_tri}
use Rattle.keys.specs.Held.{key_of, pair_of, place_at, Narrow, Keyed}

-- One pair

sum_read : (s f t : ℕ) → s < 4294967296 → f < 65536 → t < 65536
    → 4294967295 - ((4294967295 - s) * 4294967296 + f * 65536 + t) / 4294967296 ≡ s
sum_read s f t h k l = omega arith

field_read : (s f t : ℕ) → f < 65536 → t < 65536 → ((4294967295 - s) * 4294967296 + f * 65536 + t) / 65536 % 65536 ≡ f
field_read s f t h k = omega arith

trim_read : (s f t : ℕ) → t < 65536 → ((4294967295 - s) * 4294967296 + f * 65536 + t) % 65536 ≡ t
trim_read s f t h = omega arith

pub pair_key : (p : Pair) → Narrow p → pair_of (key_of p) ≡ p
unfolding key_of pair_of
pair_key p w =
    let s = sum_read p.sum p.field p.trim w.sum w.field w.trim in
    let f = field_read p.sum p.field p.trim w.field w.trim in
    let t = trim_read p.sum p.field p.trim w.trim in
    λ i. record { sum = s i; field = f i; trim = t i }

before_lower : (p q : Pair) → Narrow p → Narrow q → Before p q → key_of p < key_of q
unfolding key_of Before
before_lower p q v w b =
    let vs = v.sum in
    let vf = v.field in
    let vt = v.trim in
    let wf = w.field in
    ⊎_elim (λ h. omega arith) (λ e. ⊎_elim (λ h. omega arith) (λ h. omega arith) e.1) b

pub key_order : (p q : Pair) → Narrow p → Narrow q → ltb (key_of p) (key_of q) ≡ ahead p q
key_order p q v w = go (ahead p q) (ahead q p) refl refl
  where
    lower : (p q : Pair) → Narrow p → Narrow q → ahead p q ≡ true → key_of p < key_of q
    lower p q v w h = before_lower p q v w (ahead_before p q h)

    go : (s t : Bool) → ahead p q ≡ s → ahead q p ≡ t → ltb (key_of p) (key_of q) ≡ ahead p q
    go true t e f = lt-ltb (key_of p) (key_of q) (lower p q v w e) ∙ sym e
    go false true e f = le-ltb (key_of p) (key_of q) (omega (arith, lower q p w v f)) ∙ sym e
    go false false e f = le-ltb (key_of p) (key_of q) (omega (arith, ap key_of (ahead_tri p q e f))) ∙ sym e

-- Lists of pairs

pub keys_ins : (p : Pair) (l : List Pair) → Narrow p → All Narrow l
    → map key_of (ins ahead p l) ≡ ins ltb (key_of p) (map key_of l)
unfolding ins
keys_ins p [] v w = refl
keys_ins p (q ∷ l) v w =
    go (ahead q p) (keys_ins p l v w.1)
    ∙ ap (λ (t : Bool). cond t (key_of q ∷ ins ltb (key_of p) (map key_of l)) (key_of p ∷ key_of q ∷ map key_of l))
    (sym (key_order q p w.0 v))
  where
    go : (t : Bool) → map key_of (ins ahead p l) ≡ ins ltb (key_of p) (map key_of l) →
        map key_of (cond t (q ∷ ins ahead p l) (p ∷ q ∷ l)) ≡ cond t (key_of q ∷ ins ltb (key_of p) (map key_of l))
        (key_of p ∷ key_of q ∷ map key_of l)
    go true h = ap (λ (r : List ℕ). key_of q ∷ r) h
    go false h = refl

keys_take : (n : ℕ) (l : List Pair) → map key_of (take n l) ≡ take n (map key_of l)
keys_take zero l = refl
keys_take (suc n) [] = refl
keys_take (suc n) (p ∷ l) = ap (λ (r : List ℕ). key_of p ∷ r) (keys_take n l)

keys_length : (l : List Pair) → length (map key_of l) ≡ length l
keys_length [] = refl
keys_length (p ∷ l) = ap suc (keys_length l)

pub keyed_length : (l : List Pair) (ks : List ℕ) → Keyed l ks → length ks ≡ length l
keyed_length l ks h = ap length h.keys ∙ keys_length l

pub keyed_take : (n : ℕ) (l : List Pair) (ks : List ℕ) → Keyed l ks → Keyed (take n l) (take n ks)
keyed_take n l ks h =
    record { keys = ap (take n) h.keys ∙ sym (keys_take n l); narrow = Sorts.all_take Narrow n l h.narrow }

pub keyed_ins : (p : Pair) (l : List Pair) (ks : List ℕ) → Narrow p → Keyed l ks
    → Keyed (ins ahead p l) (ins ltb (key_of p) ks)
keyed_ins p l ks v h =
    record {
      keys = ap (ins ltb (key_of p)) h.keys ∙ sym (keys_ins p l v h.narrow);
      narrow = Sorts.all_ins ahead Narrow p l v h.narrow;
    }

pub all_get_d : (P : Pair → Type 0) (l : List Pair) (i : ℕ) → All P l → i < length l → P (get_or l i no_pair)
all_get_d P [] i a h = absurd (omega arith)
all_get_d P (p ∷ l) zero a h = a.0
all_get_d P (p ∷ l) (suc i) a h = all_get_d P l i a.1 (omega arith)

map_at : (l : List Pair) (i : ℕ) → i < length l → get_or (map key_of l) i 0 ≡ key_of (get_or l i no_pair)
map_at [] i h = absurd (omega arith)
map_at (p ∷ l) zero h = refl
map_at (p ∷ l) (suc i) h = map_at l i (omega arith)

-- the key at i, and its pair
pub key_at : (l : List Pair) (ks : List ℕ) (i : ℕ) → Keyed l ks → i < length l → get_or ks i 0
    ≡ key_of (get_or l i no_pair)
key_at l ks i h k = ap (λ (r : List ℕ). get_or r i 0) h.keys ∙ map_at l i k

pub keyed_at : (l : List Pair) (ks : List ℕ) (i : ℕ) → Keyed l ks → i < length l
    → pair_of (get_or ks i 0) ≡ get_or l i no_pair
keyed_at l ks i h k = ap pair_of (key_at l ks i h k) ∙ pair_key (get_or l i no_pair) (all_get_d Narrow l i h.narrow k)

-- place i
pub keyed_place : (l : List Pair) (ks : List ℕ) (i : ℕ) → Keyed l ks → place_at ks i ≡ get_or l i no_pair
keyed_place l ks i h = go (ltb i (length ks)) refl
  where
    go : (b : Bool) → ltb i (length ks) ≡ b → cond b (pair_of (get_or ks i 0)) no_pair ≡ get_or l i no_pair
    go true e = keyed_at l ks i h (omega (arith, ltb-true i (length ks) e, keyed_length l ks h))
    go false e =
        sym (get_or-eq_default l no_pair {n = i} (omega (arith, ltb-false i (length ks) e, keyed_length l ks h)))
