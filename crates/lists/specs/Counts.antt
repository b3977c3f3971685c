-- Counting the numbers of a list that are at least c, and what these counts say of the best. Assumes nothing.
use Rattle.std.specs.Prelude.{◌≡◌, refl, Bool, true, false, cond, ◌&&◌, List, [], ◌∷◌, ◌++◌, map, ℕ, zero, suc, ◌+◌}
use Rattle.std.specs.Prelude.{◌≤◌, ◌<◌, min, leb, ltb, length, take}
use Rattle.std.proofs.Common.{sym, ap, ◌∙◌, arith, leb-true, leb-false, le-leb, ltb-true, ltb-false, lt-ltb, le-ltb}
use Rattle.std.proofs.lemmas.Bool.{lt-leb}
use Rattle.lists.specs.Lists.{cons_if, keep, each, ins, sort, at_least, best}
use Rattle.lists.specs.Words.{one, total, All, Strict, Ordered}
use Rattle.lists.specs.Sorts.{sort_ordered, take_ordered}

-- Counts of a list in parts

pub count_cons : (c x : ℕ) (l : List ℕ) → at_least c (x ∷ l) ≡ one (leb c x) + at_least c l
unfolding at_least keep cons_if
count_cons c x l = go (leb c x)
  where
    go : (t : Bool) → length (cons_if t x (keep (leb c) l)) ≡ one t + length (keep (leb c) l)
    go true = omega arith
    go false = omega arith

pub count_none : (c : ℕ) → at_least c [] ≡ 0
unfolding at_least keep
count_none c = refl

pub count_append : (c : ℕ) (l m : List ℕ) → at_least c (l ++ m) ≡ at_least c l + at_least c m
count_append c [] m = omega (arith, count_none c)
count_append c (x ∷ l) m =
    let h = count_append c l m in
    omega (arith, count_cons c x l, count_cons c x (l ++ m))

pub count_each : {A : Type 0} (c : ℕ) (f : A → List ℕ) (l : List A)
    → at_least c (each f l) ≡ total (λ x. at_least c (f x)) l
unfolding each total
count_each c f [] = count_none c
count_each c f (x ∷ l) = count_append c (f x) (each f l) ∙ ap (λ n. at_least c (f x) + n) (count_each c f l)

pub count_map_keep : {A : Type 0} (c : ℕ) (f : A → ℕ) (test : A → Bool) (l : List A)
    → at_least c (map f (keep test l)) ≡ total (λ x. one (test x && leb c (f x))) l
unfolding keep total cons_if
count_map_keep c f test [] = count_none c
count_map_keep c f test (x ∷ l) = go (test x) (count_map_keep c f test l)
  where
    go : (t : Bool) → at_least c (map f (keep test l)) ≡ total (λ x. one (test x && leb c (f x))) l
        → at_least c (map f (cons_if t x (keep test l)))
        ≡ one (t && leb c (f x)) + total (λ x. one (test x && leb c (f x))) l
    go true h = count_cons c (f x) (map f (keep test l)) ∙ ap (λ n. one (leb c (f x)) + n) h
    go false h = omega arith

-- a lower bar is passed by no fewer
one_falls : (c d x : ℕ) → c ≤ d → one (leb d x) ≤ one (leb c x)
one_falls c d x h = go (leb d x) (leb c x) refl refl
  where
    go : (s t : Bool) → leb d x ≡ s → leb c x ≡ t → one s ≤ one t
    go true true e f = omega arith
    go true false e f = omega (arith, leb-true d x e, leb-false c x f)
    go false t e f = omega arith

pub count_falls : (c d : ℕ) (l : List ℕ) → c ≤ d → at_least d l ≤ at_least c l
count_falls c d [] h = omega (arith, count_none c, count_none d)
count_falls c d (x ∷ l) h =
    let a = count_falls c d l h in
    omega (arith, one_falls c d x h, count_cons c x l, count_cons d x l)

-- at most all of them pass
pub count_some : (c : ℕ) (l : List ℕ) → at_least c l ≤ length l
count_some c [] = omega (arith, count_none c)
count_some c (x ∷ l) = go (leb c x) (count_cons c x l) (count_some c l)
  where
    go : (t : Bool) → at_least c (x ∷ l) ≡ one t + at_least c l → at_least c l ≤ length l
        → at_least c (x ∷ l) ≤ suc (length l)
    go true e h = omega arith
    go false e h = omega arith

-- where as many pass as there are, each does
pub count_all : (c : ℕ) (l : List ℕ) → length l ≤ at_least c l → All (λ x. c ≤ x) l
count_all c [] h = tt
count_all c (x ∷ l) h = go (leb c x) refl (count_cons c x l) (count_all c l)
  where
    go : (t : Bool) → leb c x ≡ t → at_least c (x ∷ l) ≡ one t + at_least c l
        → (length l ≤ at_least c l → All (λ x. c ≤ x) l) → (c ≤ x) × All (λ x. c ≤ x) l
    go true e f r = (leb-true c x e, r (omega arith))
    go false e f r = absurd (omega (arith, count_some c l))

-- Counts of the best

pub count_ins : (ahead : ℕ → ℕ → Bool) (c x : ℕ) (l : List ℕ) → at_least c (ins ahead x l)
    ≡ one (leb c x) + at_least c l
unfolding ins
count_ins ahead c x [] = count_cons c x []
count_ins ahead c x (y ∷ l) = go (ahead y x) (count_ins ahead c x l)
  where
    go : (t : Bool) → at_least c (ins ahead x l) ≡ one (leb c x) + at_least c l
        → at_least c (cond t (y ∷ ins ahead x l) (x ∷ y ∷ l)) ≡ one (leb c x) + at_least c (y ∷ l)
    go true h = omega (arith, count_cons c y l, count_cons c y (ins ahead x l))
    go false h = count_cons c x (y ∷ l)

-- sorting moves numbers, and none is lost
pub count_sort : (ahead : ℕ → ℕ → Bool) (c : ℕ) (l : List ℕ) → at_least c (sort ahead l) ≡ at_least c l
unfolding sort
count_sort ahead c [] = refl
count_sort ahead c (x ∷ l) =
    let h = count_sort ahead c l in
    omega (arith, count_ins ahead c x (sort ahead l), count_cons c x l)

abbrev higher : ℕ → ℕ → Bool
higher x y = ltb y x

pub higher_strict : Strict (λ x y. ltb y x)
higher_strict =
    record {
      trans = λ x y z e f. lt-ltb z x (omega (arith, ltb-true y x e, ltb-true z y f));
      asym = λ x y e. le-ltb x y (omega (arith, ltb-true y x e));
      tri = λ x y e f. omega (arith, ltb-false y x e, ltb-false x y f);
    }

-- no number of a list below the bar passes it
count_low : (c m : ℕ) (l : List ℕ) → m < c → All (λ y. ltb m y ≡ false) l → at_least c l ≡ 0
count_low c m [] p h = count_none c
count_low c m (x ∷ l) p h =
    rw (count_cons c x l, lt-leb c x (omega (arith, ltb-false m x h.0))) (omega (arith, count_low c m l p h.1))

pub count_take : (c k : ℕ) (l : List ℕ) → Ordered (λ x y. ltb y x) l → at_least c (take k l) ≡ min k (at_least c l)
count_take c zero l h = omega (arith, count_none c)
count_take c (suc k) [] h = omega (arith, count_none c)
count_take c (suc k) (x ∷ l) h =
    rw (count_cons c x l, count_cons c x (take k l), count_take c k l h.1) (go (leb c x) refl)
  where
    go : (t : Bool) → leb c x ≡ t → one t + min k (at_least c l) ≡ min (suc k) (one t + at_least c l)
    go true e = omega arith
    go false e = omega (arith, count_low c x l (leb-false c x e) h.0)

pub count_best : (c k : ℕ) (l : List ℕ) → at_least c (best k l) ≡ min k (at_least c l)
unfolding best
count_best c k l =
    count_take c k (sort higher l) (sort_ordered higher higher_strict l) ∙ ap (min k) (count_sort higher c l)

-- Equal counts, equal lists

-- the first number passes its own bar
count_first : (x : ℕ) (l : List ℕ) → 1 ≤ at_least x (x ∷ l)
count_first x l = rw (count_cons x x l, le-leb x x (omega arith)) (omega arith)

first_le : (x y : ℕ) (l m : List ℕ) → Ordered higher (y ∷ m) → at_least x (x ∷ l) ≡ at_least x (y ∷ m) → x ≤ y
first_le x y l m h e = go (leb x y) refl
  where
    go : (t : Bool) → leb x y ≡ t → x ≤ y
    go true f = leb-true x y f
    go false f =
        absurd
        (omega (arith, count_first x l, count_low x y (y ∷ m) (leb-false x y f) (le-ltb y y (omega arith), h.0)))

ordered_ext : (l m : List ℕ) → Ordered higher l → Ordered higher m → ((c : ℕ) → at_least c l ≡ at_least c m) → l ≡ m
ordered_ext [] [] p q h = refl
ordered_ext [] (y ∷ m) p q h = absurd (omega (arith, h y, count_none y, count_first y m))
ordered_ext (x ∷ l) [] p q h = absurd (omega (arith, h x, count_none x, count_first x l))
ordered_ext (x ∷ l) (y ∷ m) p q h =
    let e : x ≡ y = omega (arith, first_le x y l m q (h x), first_le y x m l p (sym (h y))) in
    let r : (c : ℕ) → at_least c l ≡ at_least c m =
    λ c. omega (arith, h c, count_cons c x l, count_cons c y m, ap (λ z. one (leb c z)) e) in
    rw (e, ordered_ext l m p.1 q.1 r)

-- the best k are known by their counts
pub best_ext : (k : ℕ) (l m : List ℕ) → ((c : ℕ) → min k (at_least c l) ≡ min k (at_least c m)) → best k l ≡ best k m
unfolding best
best_ext k l m h =
    ordered_ext (best k l) (best k m) (take_ordered higher k (sort higher l) (sort_ordered higher higher_strict l))
    (take_ordered higher k (sort higher m) (sort_ordered higher higher_strict m))
    (λ c. count_best c k l ∙ h c ∙ sym (count_best c k m))
