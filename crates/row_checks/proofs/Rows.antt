-- The checks of rows one after the other: the first that refuses decides. Assumes nothing.
use mathlib.Core.Path.{◌≡◌, refl, sym, ap, ◌∙◌}
use Prim.Native.Nat.{ℕ, ◌+◌, ◌≤◌, ◌<◌}
use native.Mathlib.Omega.{arith}
use native.Mathlib.Decide.{le_ind}
use native.Mathlib.Numerals.{add-one}
use borrow.Author.Tests.{eq-eqb, ne_eqb}
use Rattle.std.specs.Prelude.{Result, Ok, Err}
use Rattle.codes.specs.Steps as Steps
use Rattle.rules.specs.declared.Refusal.{Refusal}
use Rattle.rules.specs.Numbers.{code, number_of}
use Rattle.rules.specs.Tables.{Table}
use Rattle.rules.specs.Calls.{row_code, rows_code}

-- no refusal's number is 0
some : (e : Refusal) → number_of e ≡ 0 → ⊥
some e z = omega (arith, simp z at (Steps.stopped {A = ℕ} (number_of e) 1 (Err e) e refl refl))

-- rows that follow one that is refused
stays : (t : Table) (a i m : ℕ) → i ≤ m → (rows_code t a i ≡ 0 → ⊥) → rows_code t a m ≡ rows_code t a i
unfolding rows_code
stays t a i m l k =
    le_ind (λ (j : ℕ). rows_code t a j ≡ rows_code t a i) refl
    (λ j l ih. rw (ne_eqb (rows_code t a j) 0 (λ z. k (sym ih ∙ z))) ih) m l

module _ {A : Type 0} (t : Table) (a i : ℕ) (r : Result A Refusal) where
  -- where no row before is refused, the row at hand decides
  here : rows_code t a i ≡ 0 → code r ≡ row_code t (a + i) → rows_code t a (i + 1) ≡ code r
  unfolding rows_code
  here h e = rw (add-one, eq-eqb (rows_code t a i) 0 h) (sym e)

  pub passed : (x : A) → rows_code t a i ≡ 0 → r ≡ Ok x → code r ≡ row_code t (a + i) → rows_code t a (i + 1) ≡ 0
  passed x h was e = here h e ∙ ap code was

  -- one that is refused decides for all that follow
  pub stopped : (e : Refusal) (m : ℕ) → i < m → rows_code t a i ≡ 0 → r ≡ Err e → code r ≡ row_code t (a + i)
      → rows_code t a m ≡ number_of e
  stopped e m l h was k =
      let now = here h k ∙ ap code was in
      stays t a (i + 1) m (omega arith) (λ z. some e (sym now ∙ z)) ∙ now

-- the steps of one row's checks, and of row after row
pub ruleset row_steps = (Steps.passed, Steps.stopped)

pub ruleset rows_steps = (passed, stopped)
