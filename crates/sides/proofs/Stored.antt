-- A side written into lent numbers, after those that stand there. Assumes nothing.
use mathlib.Core.Path.{◌≡◌, sym, ap, ◌∙◌}
use mathlib.Core.List.{List}
use Prim.Native.Nat.{ℕ, ◌+◌, ◌*◌, ◌<◌}
use native.Mathlib.Omega.{arith}
use native.Mathlib.Decide.{ℕ_discrete}
use lib.IntN.{ℤ, pos}
use lib.ListN.{length, set, length-set}
use lib.Seq.{get_or-set_same, get_or-set_other}
use Rattle.rules.specs.declared.Side.{Side}
use Rattle.sides.specs.Sides.{side_in, with_side}

module _ (l : List ℤ) (k : ℕ) (s : Side) where
  abbrev first : List ℤ
  first = set l (2 * k) s.low

  here : 2 * k + 1 < length l → side_in (with_side k s l) k ≡ s
  here h =
      let low =
      get_or-set_other first (2 * k + 1) (2 * k) s.high (pos 0) (λ e. omega arith)
      ∙ get_or-set_same l (2 * k) s.low (pos 0) (omega arith) in
      let high = get_or-set_same first (2 * k + 1) s.high (pos 0) (simp length-set h) in
      λ i. record { low = low i; high = high i }

  -- sides before it stay
  before : (j : ℕ) → j < k → side_in (with_side k s l) j ≡ side_in l j
  before j h =
      let low =
      get_or-set_other first (2 * k + 1) (2 * j) s.high (pos 0) (λ e. omega arith)
      ∙ get_or-set_other l (2 * k) (2 * j) s.low (pos 0) (λ e. omega arith) in
      let high =
      get_or-set_other first (2 * k + 1) (2 * j + 1) s.high (pos 0) (λ e. omega arith)
      ∙ get_or-set_other l (2 * k) (2 * j + 1) s.low (pos 0) (λ e. omega arith) in
      λ i. record { low = low i; high = high i }

-- the first k sides stand in the numbers as f has them
abbrev pub Stand : (ℕ → Side) → List ℤ → ℕ → Type 0
Stand f l k = (j : ℕ) → j < k → side_in l j ≡ f j

pub one_more : (f : ℕ → Side) (l : List ℤ) (k : ℕ) (s : Side) → 2 * k + 1 < length l → s ≡ f k → Stand f l k
    → Stand f (with_side k s l) (k + 1)
one_more f l k s h e stand j b = go (ℕ_discrete j k)
  where
    go : Dec (j ≡ k) → side_in (with_side k s l) j ≡ f j
    go (yes c) = ap (side_in (with_side k s l)) c ∙ here l k s h ∙ e ∙ ap f (sym c)
    go (no c) = let less : j < k = omega arith in before l k s j less ∙ stand j less
