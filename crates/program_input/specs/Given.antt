-- What the program is asked: the input, as it reads it. Assumes nothing.
use Rattle.std.specs.Prelude.{◌≡◌, refl, Bool, true, false, cond, List, [], ◌∷◌, ℕ, eqb, length, Result, Ok, Err}
use Rattle.std.proofs.Common.{sym, eq-eqb, eqb-true}
use Rattle.rules.specs.declared.Query.{Query}
use Rattle.rules.specs.declared.Refusal.{Refusal}
use Rattle.rules.specs.declared.Refusal.TheVariants.{CutFile, BadColumn}
use Rattle.rules.specs.Numbers.{refusal_of, code}
use Rattle.rules.specs.Numbered.{Known, known, known_none, tests}
use Rattle.rules.specs.Session.{weights, exact_query}
use Rattle.rules.specs.Query.{input_length, input_fits, input_code, input_query}

-- a query of one weight for both tables, and no tolerance
abbrev pub evenly : ℕ → ℕ → ℕ → ℕ → Query
evenly k block radius weight = exact_query k block radius (weights weight weight)

-- the query, or the refusal
unfoldable pub input_held : List ℕ → Result Query Refusal
input_held input = cond (eqb (input_code input) 0) (Ok (input_query input)) (Err (refusal_of (input_code input)))

module _ (input : List ℕ) where
  known_code : Known (input_code input)
  unfolding input_code
  known_code =
      tests Known known_none known
      ((eqb (length input) input_length, CutFile) ∷ (input_fits input, BadColumn) ∷ [])

  -- the code is the rules', and what is read is the query that they read
  pub held_code : code (input_held input) ≡ input_code input
  unfolding input_held
  held_code = go (eqb (input_code input) 0) refl
    where
      go : (t : Bool) → eqb (input_code input) 0 ≡ t
          → code (cond t (Ok (input_query input)) (Err (refusal_of (input_code input)))) ≡ input_code input
      go true e = sym (eqb-true (input_code input) 0 e)
      go false e = known_code e

  pub held_given : (q : Query) → input_held input ≡ Ok q → q ≡ input_query input
  unfolding input_held
  held_given q = go (eqb (input_code input) 0)
    where
      go : (t : Bool) → cond t (Ok (input_query input)) (Err (refusal_of (input_code input))) ≡ Ok q
          → q ≡ input_query input
      go true e = cc
      go false e = cc

pub held_query : (input : List ℕ) → input_code input ≡ 0 → input_held input ≡ Ok (input_query input)
unfolding input_held
held_query input h = rw (eq-eqb (input_code input) 0 h)
