-- The words that the laws of lists are put in. Definitions only. Assumes nothing.
use Rattle.std.specs.Prelude.{ℕ, ◌+◌, Bool, true, false, ◌≡◌}
use mathlib.Core.List.{List, [], ◌∷◌, Memᴰ}

-- 1 for a test that passed
abbrev pub one : Bool → ℕ
one true = 1
one false = 0

-- f of each element, added up
unfoldable pub total : {A : Type 0} → (A → ℕ) → List A → ℕ
total f [] = 0
total f (x ∷ l) = f x + total f l

-- P of every element
abbrev pub All : {A : Type 0} → (A → Type 0) → List A → Type 0
All P [] = Unit {0}
All P (x ∷ l) = P x × All P l

-- a strict order: of any two that differ, one stands ahead
pub record Strict {A : Type 0} (ahead : A → A → Bool) : Type 0 where
  pub trans : (x y z : A) → ahead x y ≡ true → ahead y z ≡ true → ahead x z ≡ true
  pub asym : (x y : A) → ahead x y ≡ true → ahead y x ≡ false
  pub tri : (x y : A) → ahead x y ≡ false → ahead y x ≡ false → x ≡ y

-- nothing stands ahead of something before it; equals may stand side by side
abbrev pub Ordered : {A : Type 0} → (A → A → Bool) → List A → Type 0
Ordered ahead [] = Unit {0}
Ordered ahead (x ∷ l) = All (λ y. ahead y x ≡ false) l × Ordered ahead l

-- no element stands in the list twice
abbrev pub Distinct : {A : Type 0} → List A → Type 0
Distinct [] = Unit {0}
Distinct (x ∷ l) = (Memᴰ x l → ⊥) × Distinct l
