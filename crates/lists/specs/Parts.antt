-- Which elements keep, range, each and ++ give, when none comes twice, and how map goes through them. Assumes nothing.
use Rattle.std.specs.Prelude.{◌≡◌, Bool, ◌&&◌, ◌↔◌, length, get_or, take}
use Rattle.std.proofs.Math.Path.{refl, ap}
use Rattle.std.proofs.Common.{sym, ap₂, subst, ◌∙◌, arith}
use Rattle.std.proofs.Math.Bool.{true, false}
use mathlib.Core.List.Memᴰ
use mathlib.Core.List.{List, [], ◌∷◌, ◌++◌, map, map-append, Memᴰ}
use Rattle.std.proofs.Math.Logic.{⊎_elim}
use Prim.Native.Nat.{ℕ, zero, suc, ◌+◌, ◌≤◌, ◌<◌}
use Rattle.std.proofs.Math.Decide.{ℕ_discrete}
use Rattle.lists.specs.Lists.{cons_if, keep, every, range, each}
use Rattle.lists.specs.Bools.{clash, and_out}
use Rattle.lists.specs.Words.{Distinct}

-- a list that has no element
pub no_member : {A : Type 0} (l : List A) → ((x : A) → Memᴰ x l → ⊥) → l ≡ []
no_member [] h = refl
no_member (x ∷ l) h = absurd (h x (Memᴰ.head refl))

-- ++

module _ {A : Type 0} where
  pub append_distinct : (l m : List A) → Distinct l → Distinct m → ((x : A) → Memᴰ x l → Memᴰ x m → ⊥)
      → Distinct (l ++ m)
  append_distinct [] m d e h = e
  append_distinct (x ∷ l) m d e h = (
    λ k. ⊎_elim d.0 (h x (Memᴰ.head refl)) (Memᴰ.append_cases l k),
    append_distinct l m d.1 e (λ y a b. h y (Memᴰ.tail a) b),
  )

  -- what stands in the one part of a list without repeats does not stand in the other
  pub append_apart : (l m : List A) → Distinct (l ++ m) → (x : A) → Memᴰ x l → Memᴰ x m → ⊥
  append_apart [] m d x i k = elim i [ ]
  append_apart (y ∷ l) m d x (Memᴰ.head e) k = d.0 (Memᴰ.append_right l (Memᴰ.cast (sym e) k))
  append_apart (y ∷ l) m d x (Memᴰ.tail i) k = append_apart l m d.1 x i k

-- range

pub mem_range : (x a n : ℕ) → Memᴰ x (range a n) ↔ ((a ≤ x) × (x < a + n))
unfolding range
mem_range x a zero = (λ m. absurd (Memᴰ.not-nil m), λ h. absurd (omega arith))
mem_range x a (suc n) = go (mem_range x (suc a) n) (ℕ_discrete x a)
  where
    go : (Memᴰ x (range (suc a) n) ↔ ((suc a ≤ x) × (x < suc a + n))) → Dec (x ≡ a)
        → Memᴰ x (a ∷ range (suc a) n) ↔ ((a ≤ x) × (x < a + suc n))
    go f (yes e) = (λ m. omega arith, λ h. Memᴰ.head e)
    go f (no e) = (
      λ m. ⊎_elim (λ g. absurd (e g)) (λ k. let h = f.0 k in omega arith) (Memᴰ.cases_cons m),
      λ h. Memᴰ.tail (f.1 (omega arith)),
    )

pub range_distinct : (a n : ℕ) → Distinct (range a n)
unfolding range
range_distinct a zero = tt
range_distinct a (suc n) = (λ m. let h = (mem_range a (suc a) n).0 m in omega arith, range_distinct (suc a) n)

pub length_range : (a n : ℕ) → length (range a n) ≡ n
unfolding range
length_range a zero = refl
length_range a (suc n) = ap suc (length_range (suc a) n)

module _ {B : Type 0} (f : ℕ → B) where
  pub length_map_range : (a n : ℕ) → length (map f (range a n)) ≡ n
  unfolding range
  length_map_range a zero = refl
  length_map_range a (suc n) = ap suc (length_map_range (suc a) n)

  pub map_range_at : (a n i : ℕ) (d : B) → i < n → get_or (map f (range a n)) i d ≡ f (a + i)
  unfolding range
  map_range_at a zero i d h = absurd (omega arith)
  map_range_at a (suc n) zero d h = ap f (omega arith)
  map_range_at a (suc n) (suc i) d h = map_range_at (suc a) n i d (omega arith) ∙ ap f (omega arith)

-- keep

module _ {A : Type 0} (test : A → Bool) where
  pub mem_keep : (x : A) (l : List A) → Memᴰ x (keep test l) ↔ (Memᴰ x l × (test x ≡ true))
  unfolding keep cons_if
  mem_keep x [] = (λ m. absurd (Memᴰ.not-nil m), λ h. h.0)
  mem_keep x (y ∷ l) = go (test y) refl (mem_keep x l)
    where
      go : (t : Bool) → test y ≡ t → (Memᴰ x (keep test l) ↔ (Memᴰ x l × (test x ≡ true)))
          → Memᴰ x (cons_if t y (keep test l)) ↔ (Memᴰ x (y ∷ l) × (test x ≡ true))
      go true e f = (
        λ m.
            ⊎_elim (λ g. (Memᴰ.head g, ap test g ∙ e)) (λ k. (Memᴰ.tail (f.0 k).0, (f.0 k).1))
            (Memᴰ.cases_cons m),
        λ h. ⊎_elim (λ g. Memᴰ.head g) (λ k. Memᴰ.tail (f.1 (k, h.1))) (Memᴰ.cases_cons h.0),
      )
      go false e f = (
        λ m. (Memᴰ.tail (f.0 m).0, (f.0 m).1),
        λ h. ⊎_elim (λ g. clash (sym (ap test g) ∙ h.1) e) (λ k. f.1 (k, h.1)) (Memᴰ.cases_cons h.0),
      )

  pub keep_distinct : (l : List A) → Distinct l → Distinct (keep test l)
  unfolding keep cons_if
  keep_distinct [] d = tt
  keep_distinct (x ∷ l) d = go (test x) (keep_distinct l d.1)
    where
      go : (t : Bool) → Distinct (keep test l) → Distinct (cons_if t x (keep test l))
      go true r = (λ m. d.0 ((mem_keep x l).0 m).0, r)
      go false r = r

-- map and each; key tells which element a value came from

module _ {A B : Type 0} where
  pub map_distinct : (f : A → B) (key : B → A) → ((x : A) → key (f x) ≡ x) → (l : List A) → Distinct l
      → Distinct (map f l)
  map_distinct f key h [] d = tt
  map_distinct f key h (x ∷ l) d = (
    λ m. let r = Memᴰ.of_map f l m in d.0 (Memᴰ.cast (sym (h x) ∙ ap key (sym r.2) ∙ h r.0) r.1),
    map_distinct f key h l d.1,
  )

  pub mem_each : (f : A → List B) (y : B) (l : List A)
      → Memᴰ y (each f l) ↔ ((x : A) × Memᴰ x l × Memᴰ y (f x))
  unfolding each
  mem_each f y [] = (λ m. absurd (Memᴰ.not-nil m), λ h. absurd (Memᴰ.not-nil h.1))
  mem_each f y (x ∷ l) = go (mem_each f y l)
    where
      go : (Memᴰ y (each f l) ↔ ((x : A) × Memᴰ x l × Memᴰ y (f x)))
          → Memᴰ y (f x ++ each f l) ↔ ((z : A) × Memᴰ z (x ∷ l) × Memᴰ y (f z))
      go g = (
        λ m.
            ⊎_elim (λ k. (x, Memᴰ.head refl, k)) (λ k. let r = g.0 k in (r.0, Memᴰ.tail r.1, r.2))
            (Memᴰ.append_cases (f x) m),
        λ h.
            ⊎_elim (λ e. Memᴰ.append_left (each f l) (subst (λ z. Memᴰ y (f z)) e h.2))
            (λ k. Memᴰ.append_right (f x) (g.1 (h.0, k, h.2)))
            (Memᴰ.cases_cons h.1),
      )

  pub each_distinct : (f : A → List B) (key : B → A) → ((x : A) (y : B) → Memᴰ y (f x) → key y ≡ x)
      → ((x : A) → Distinct (f x)) → (l : List A)
      → Distinct l → Distinct (each f l)
  unfolding each
  each_distinct f key h k [] d = tt
  each_distinct f key h k (x ∷ l) d =
      append_distinct (f x) (each f l) (k x) (each_distinct f key h k l d.1)
      (λ y a b. let r = (mem_each f y l).0 b in d.0 (Memᴰ.cast (sym (h x y a) ∙ h r.0 y r.2) r.1))

module _ {A B C : Type 0} where
  pub map_each : (g : B → C) (f : A → List B) (l : List A) → map g (each f l) ≡ each (λ x. map g (f x)) l
  unfolding each
  map_each g f [] = refl
  map_each g f (x ∷ l) = map-append g (f x) (each f l) ∙ ap (λ r. map g (f x) ++ r) (map_each g f l)

  pub each_map : (g : A → B) (f : B → List C) (l : List A) → each f (map g l) ≡ each (λ x. f (g x)) l
  unfolding each
  each_map g f [] = refl
  each_map g f (x ∷ l) = ap (λ r. f (g x) ++ r) (each_map g f l)

pub keep_map : {A B : Type 0} (g : A → B) (test : B → Bool) (l : List A)
    → keep test (map g l) ≡ map g (keep (λ x. test (g x)) l)
unfolding keep cons_if
keep_map g test [] = refl
keep_map g test (x ∷ l) = go (test (g x)) (keep_map g test l)
  where
    go : (t : Bool) → keep test (map g l) ≡ map g (keep (λ x. test (g x)) l)
        → cons_if t (g x) (keep test (map g l)) ≡ map g (cons_if t x (keep (λ x. test (g x)) l))
    go true h = ap (λ r. g x ∷ r) h
    go false h = h

-- every

module _ {A : Type 0} (test : A → Bool) where
  pub every_at : (x : A) {l : List A} → every test l ≡ true → Memᴰ x l → test x ≡ true
  unfolding every
  every_at x h (Memᴰ.head {x = y} {xs = l} e) = ap test e ∙ (and_out (test y) (every test l) h).0
  every_at x h (Memᴰ.tail {x = y} {xs = l} m) = every_at x (and_out (test y) (every test l) h).1 m

  pub every_of : (l : List A) → ((x : A) → Memᴰ x l → test x ≡ true) → every test l ≡ true
  unfolding every
  every_of [] h = refl
  every_of (x ∷ l) h = rw (h x (Memᴰ.head refl)) (every_of l (λ y m. h y (Memᴰ.tail m)))

  -- of the first m elements the very first
  pub every_first : (d : A) (m : ℕ) (l : List A) → 0 < length l → 0 < m → every test (take m l) ≡ true
      → test (get_or l 0 d) ≡ true
  unfolding every
  every_first d zero l h k e = absurd (omega arith)
  every_first d (suc m) [] h k e = absurd (omega arith)
  every_first d (suc m) (x ∷ l) h k e = (and_out (test x) (every test (take m l)) e).0

-- tests that agree on the elements agree on the list
pub every_same : {A : Type 0} (test other : A → Bool) (l : List A) → ((x : A) → Memᴰ x l → test x ≡ other x)
    → every test l ≡ every other l
unfolding every
every_same test other [] h = refl
every_same test other (x ∷ l) h =
    ap₂ (λ a b. a && b) (h x (Memᴰ.head refl)) (every_same test other l (λ y m. h y (Memᴰ.tail m)))
