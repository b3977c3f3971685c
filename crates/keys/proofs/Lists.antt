-- Laws of the insertion of a number. Assumes nothing.
use mathlib.Core.Path.{◌≡◌, refl, sym, ap, ◌∙◌}
use mathlib.Core.Bool.{Bool, true, false, cond}
use mathlib.Core.List.{List, [], ◌∷◌, ◌++◌, append_assoc}
use Prim.Native.Nat.{ℕ, zero, suc, ◌+◌, ◌-◌, ◌≤◌, ◌<◌, min}
use native.Mathlib.Nat.{not-suc-le-zero, le_of_suc-le-suc}
use native.Mathlib.Omega.{arith}
use native.Mathlib.Numerals.{add-one}
use lib.Dec.{ltb}
use lib.ListN.{length, get_or, take, drop, set, drop_of_length-le}
use lib.Seq.{length-take-le, take-suc, take_at, append_snoc, take-take, drop-cons}
use Rattle.std.proofs.Common.{length-append, length-drop}
use Rattle.std.proofs.lemmas.List.{set_at, drop-take, take_min}
use Rattle.std.specs.List.{copy_within}
use borrow.Author.Tests.{lt-ltb, le-ltb}
use Rattle.lists.specs.Lists.{ins}
use Rattle.keys.specs.Held.{place_of, insert_at}

-- ---- Moving up by one

-- the numbers from i on moved up, and p at i
pub shifted : (b : List ℕ) (i n p : ℕ) → i ≤ n → n < length b
    → take (n + 1) (set (copy_within b i n (i + 1)) i p) ≡ insert_at i p (take n b)
unfolding insert_at
shifted b i n p h k =
    let x = get_or b i 0 in
    let t = take (n - i) (drop i b) in
    let d = drop (i + 1 + (n - i)) b in
    let in_b : i < length b = omega arith in
    let front : length (take i b) ≡ i = length-take-le i b (omega arith) in
    let moved : length t ≡ n - i = length-take-le (n - i) (drop i b) (simp (length-drop i b) (omega arith)) in
    let copied : copy_within b i n (i + 1) ≡ take i b ++ x ∷ (t ++ d) =
    append_assoc (take (i + 1) b) t d
    ∙ ap (λ (l : List ℕ). l ++ (t ++ d)) (rw add-one (take-suc b i 0 in_b))
    ∙ append_snoc (take i b) x (t ++ d) in
    let long : length (take i b ++ p ∷ t) ≡ n + 1 = length-append (take i b) (p ∷ t) ∙ omega arith in
    ap (λ l. take (n + 1) (set l i p)) copied
    ∙ ap (take (n + 1)) (set_at (take i b) x (t ++ d) p i front ∙ sym (append_assoc (take i b) (p ∷ t) d))
    ∙ take_at (take i b ++ p ∷ t) d (n + 1) long
    ∙ ap (λ (l : List ℕ). l ++ p ∷ t) (sym (take-take i n b h))
    ∙ ap (λ (l : List ℕ). take i (take n b) ++ p ∷ l)
    (sym (drop-take i (n - i) b) ∙ ap (λ (m : ℕ). drop i (take m b)) (omega arith))

-- ---- The place

-- it is further on where the number at i is lower
pub place_on : (p : ℕ) (l : List ℕ) (i : ℕ) → i < length l → get_or l i 0 < p
    → place_of p (drop i l) ≡ place_of p (drop (i + 1) l) + 1
unfolding place_of
place_on p l i h t = rw (add-one i, drop-cons l i 0 h, lt-ltb (get_or l i 0) p t) (omega arith)

pub place_here : (p : ℕ) (l : List ℕ) (i : ℕ) → i < length l → p ≤ get_or l i 0 → place_of p (drop i l) ≡ 0
unfolding place_of
place_here p l i h t = rw (drop-cons l i 0 h, le-ltb (get_or l i 0) p t)

pub place_none : (p : ℕ) (l : List ℕ) (i : ℕ) → length l ≤ i → place_of p (drop i l) ≡ 0
unfolding place_of
place_none p l i h = rw (drop_of_length-le l {i = i} h)

place_le : (p : ℕ) (l : List ℕ) → place_of p l ≤ length l
unfolding place_of
place_le p [] = omega arith
place_le p (q ∷ l) = go (ltb q p) (place_le p l)
  where
    go : (b : Bool) → place_of p l ≤ length l → cond b (suc (place_of p l)) 0 ≤ suc (length l)
    go true h = omega arith
    go false h = omega arith

-- ---- Insertion

-- insertion is a put at the place
ins_is : (p : ℕ) (l : List ℕ) → insert_at (place_of p l) p l ≡ ins ltb p l
unfolding insert_at place_of ins
ins_is p [] = refl
ins_is p (q ∷ l) = go (ltb q p) (ins_is p l)
  where
    go : (t : Bool) → insert_at (place_of p l) p l ≡ ins ltb p l
        → insert_at (cond t (suc (place_of p l)) 0) p (q ∷ l) ≡ cond t (q ∷ ins ltb p l) (p ∷ q ∷ l)
    go true h = ap (λ (r : List ℕ). q ∷ r) h
    go false h = refl

-- p behind all of a full list falls off
pub fallen_off : (room p : ℕ) (l : List ℕ) → length l ≤ room → room ≤ place_of p l → take room (ins ltb p l) ≡ l
unfolding place_of ins
fallen_off zero p [] h k = refl
fallen_off (suc room) p [] h k = absurd (not-suc-le-zero k)
fallen_off zero p (q ∷ l) h k = absurd (not-suc-le-zero h)
fallen_off (suc room) p (q ∷ l) h k = go (ltb q p) (fallen_off room p l (le_of_suc-le-suc h)) k
  where
    go : (b : Bool) → (room ≤ place_of p l → take room (ins ltb p l) ≡ l) → suc room ≤ cond b (suc (place_of p l)) 0 →
        take (suc room) (cond b (q ∷ ins ltb p l) (p ∷ q ∷ l)) ≡ q ∷ l
    go true ih m = ap (λ (r : List ℕ). q ∷ r) (ih (le_of_suc-le-suc m))
    go false ih m = absurd (not-suc-le-zero m)

cut : (i m p : ℕ) (l : List ℕ) → i ≤ m → take (suc m) (insert_at i p l) ≡ insert_at i p (take m l)
unfolding insert_at
cut zero m p l h = refl
cut (suc i) zero p l h = absurd (not-suc-le-zero h)
cut (suc i) (suc m) p [] h = refl
cut (suc i) (suc m) p (q ∷ l) h = ap (λ (r : List ℕ). q ∷ r) (cut i m p l (le_of_suc-le-suc h))

-- elsewhere the last number falls off if the list is full, and none otherwise
pub last_falls_off : (room p : ℕ) (l : List ℕ) → place_of p l < room
    → take room (ins ltb p l) ≡ insert_at (place_of p l) p (take (min (room - 1) (length l)) l)
last_falls_off room p l h =
    let m = room - 1 in
    let e : room ≡ suc m = omega arith in
    ap (λ (n : ℕ). take n (ins ltb p l)) e
    ∙ ap (take (suc m)) (sym (ins_is p l))
    ∙ cut (place_of p l) m p l (omega arith)
    ∙ ap (insert_at (place_of p l) p) (sym (take_min m l))

-- where a key stands among those before it
pub ruleset places = (place_on, place_here, place_none)
