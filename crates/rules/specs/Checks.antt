-- Laws of checks: what follows where none of a list refuses, and what passes. Assumes nothing.
use Rattle.std.specs.Prelude.{◌≡◌, refl, Bool, true, false, cond, List, [], ◌∷◌, ℕ, zero, suc, ◌≤◌, eqb, get_or}
use Rattle.std.proofs.Common.{arith, eqb-true, eq-eqb}
use Rattle.std.proofs.lemmas.Bool.{eqb-false}
use Rattle.rules.specs.Numbers.{first, unless, IsRefusal}

-- a check refuses unless its test passes
pub unless_out : (b : Bool) (n : ℕ) → 1 ≤ n → unless b n ≡ 0 → b ≡ true
unless_out true n h e = refl
unless_out false n h e = absurd (omega arith)

-- ---- The first check of a list that refuses

first_head : (c : ℕ) (l : List ℕ) → first (c ∷ l) ≡ 0 → c ≡ 0
first_head c [] e = e
first_head c (d ∷ l) e = go (eqb c 0) refl e
  where
    go : (b : Bool) → eqb c 0 ≡ b → cond b (first (d ∷ l)) c ≡ 0 → c ≡ 0
    go true z e = eqb-true c 0 z
    go false z e = e

first_tail : (c : ℕ) (l : List ℕ) → first (c ∷ l) ≡ 0 → first l ≡ 0
first_tail c [] e = refl
first_tail c (d ∷ l) e = go (eqb c 0) refl e
  where
    go : (b : Bool) → eqb c 0 ≡ b → cond b (first (d ∷ l)) c ≡ 0 → first (d ∷ l) ≡ 0
    go true z e = e
    go false z e = absurd (eqb-false c 0 z e)

-- where none refuses, check i does not
pub first_out : (l : List ℕ) → first l ≡ 0 → (i : ℕ) → get_or l i 0 ≡ 0
first_out [] e i = refl
first_out (c ∷ l) e zero = first_head c l e
first_out (c ∷ l) e (suc i) = first_out l (first_tail c l e) i

-- none refuses, if neither the first nor any behind it does
pub first_in : (c : ℕ) (l : List ℕ) → c ≡ 0 → first l ≡ 0 → first (c ∷ l) ≡ 0
first_in c [] e h = e
first_in c (d ∷ l) e h = rw (eq-eqb c 0 e) h

-- ---- A refusal's number

pub unless_refusal : (b : Bool) (n : ℕ) → IsRefusal n → IsRefusal (unless b n)
unless_refusal true n h = omega arith
unless_refusal false n h = h

pub first_refusal : (c : ℕ) (l : List ℕ) → IsRefusal c → IsRefusal (first l) → IsRefusal (first (c ∷ l))
first_refusal c [] h k = h
first_refusal c (d ∷ l) h k = go (eqb c 0)
  where
    go : (b : Bool) → IsRefusal (cond b (first (d ∷ l)) c)
    go true = k
    go false = h
