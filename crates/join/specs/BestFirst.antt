-- Lists of pairs brought out, the best of those left each time. Definitions only. Assumes nothing.
use Rattle.std.specs.Prelude.{ℕ, ◌≤◌}
use mathlib.Core.List.{List, [], ◌∷◌, ◌++◌, Memᴰ}

-- when a pair comes out, those of `out` and those before it being out, no pair that is left has a higher sum
abbrev pub BestFirst : {P : Type 0} → (P → ℕ) → (P → Type 0) → List P → List P → Type 0
BestFirst sum Fits out [] = Unit {0}
BestFirst sum Fits out (p ∷ l) =
    ((x : _) → Fits x → (Memᴰ x out → ⊥) → sum x ≤ sum p) × BestFirst sum Fits (out ++ p ∷ []) l
