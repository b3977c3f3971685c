-- The few words on lists that the rules are written in. Definitions only. Assumes nothing.
use Rattle.std.specs.Prelude.{ℕ, zero, suc, Bool, true, false, cond, ◌&&◌, List, [], ◌∷◌, ◌++◌, leb, ltb, length, take}

-- x in front of l, if the test passed
unfoldable pub cons_if : {A : Type 0} → Bool → A → List A → List A
cons_if true x l = x ∷ l
cons_if false x l = l

-- the elements that pass the test, in their order
unfoldable pub keep : {A : Type 0} → (A → Bool) → List A → List A
keep test [] = []
keep test (x ∷ l) = cons_if (test x) x (keep test l)

-- whether every element passes the test
unfoldable pub every : {A : Type 0} → (A → Bool) → List A → Bool
every test [] = true
every test (x ∷ l) = test x && every test l

-- whether all tests of a list pass
abbrev pub all : List Bool → Bool
all [] = true
all (a ∷ []) = a
all (a ∷ b ∷ l) = a && all (b ∷ l)

-- the n numbers a, a + 1, ..
unfoldable pub range : ℕ → ℕ → List ℕ
range a zero = []
range a (suc n) = a ∷ range (suc a) n

-- f of each element of l, joined into one list
unfoldable pub each : {A B : Type 0} → (A → List B) → List A → List B
each f [] = []
each f (x ∷ l) = f x ++ each f l

-- x at its place: after each y that stands ahead of it
unfoldable pub ins : {A : Type 0} → (A → A → Bool) → A → List A → List A
ins ahead x [] = x ∷ []
ins ahead x (y ∷ l) = cond (ahead y x) (y ∷ ins ahead x l) (x ∷ y ∷ l)

-- all of l, ranked: whatever stands ahead comes first
unfoldable pub sort : {A : Type 0} → (A → A → Bool) → List A → List A
sort ahead [] = []
sort ahead (x ∷ l) = ins ahead x (sort ahead l)

-- whether each element stands ahead of the next
unfoldable pub ranked : {A : Type 0} → (A → A → Bool) → List A → Bool
ranked ahead [] = true
ranked ahead (x ∷ []) = true
ranked ahead (x ∷ y ∷ l) = ahead x y && ranked ahead (y ∷ l)

-- how many numbers of l are at least c
unfoldable pub at_least : ℕ → List ℕ → ℕ
at_least c l = length (keep (leb c) l)

-- the k highest numbers of l, highest first; fewer where l has fewer
unfoldable pub best : ℕ → List ℕ → List ℕ
best k l = take k (sort (λ x y. ltb y x) l)
