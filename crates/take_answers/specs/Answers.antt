-- A take's answer, of the code that its checks gave, and the record that goes with it. Assumes nothing.
use Rattle.std.specs.Prelude.{◌≡◌, Bool, ℕ, Result, Ok, Err}
use Rattle.std.proofs.Math.Path.{refl}
use Rattle.std.proofs.Common.{ap, ◌∙◌, eqb-true}
use Rattle.std.proofs.Math.Bool.{true, false, cond}
use Rattle.std.proofs.Math.Dec.{eqb}
use Rattle.lists.specs.Bools.{clash}
use Rattle.rules.specs.declared.Session.{Session}
use Rattle.rules.specs.declared.Answer.{Answer}
use Rattle.rules.specs.declared.Answer.TheVariants.{Given, NotYet, Finished}
use Rattle.rules.specs.Take.{first_held, gives_pair, moved_out, finished}
use Rattle.rules.specs.Query.{was_given}
use Rattle.rules.specs.Calls.{call_code, step, take_call_by, take_call}
use Rattle.rules.specs.Tables.{Table}
use Rattle.rules.specs.Numbers.{code, refused}

unfoldable pub take_answer : ℕ → Table → Table → Session → Answer
take_answer code f t s =
    cond (eqb code 0) (cond (gives_pair f t s) (Given (first_held s)) (cond (finished f t s) Finished NotYet))
    (refused code)

-- an answer, if a check passed; else what it refused by
abbrev pub if_passed : {A B R : Type 0} → Result A R → B → Result B R
if_passed (Ok x) a = Ok a
if_passed (Err r) a = Err r

-- the record that goes with an answer: only a pair that is given changes it
module _ (f t : Table) (s : Session) where
  abbrev pub after_take : Answer → Session
  after_take a = cond (was_given a) (moved_out s) s

  take_is : step (take_answer (call_code f t s) f t s) (after_take (take_answer (call_code f t s) f t s))
      ≡ take_call f t s
  unfolding take_call_by take_answer
  take_is = go (call_code f t s) (eqb (call_code f t s) 0) (gives_pair f t s) (finished f t s)
    where
      go : (code : ℕ) (a b c : Bool)
          → let x = cond a (cond b (Given (first_held s)) (cond c Finished NotYet)) (refused code) in
          step x (after_take x)
          ≡ cond a (cond b (step (Given (first_held s)) (moved_out s)) (cond c (step Finished s) (step NotYet s)))
          (step (refused code) s)
      go code false b c = refl
      go code true true c = refl
      go code true false true = refl
      go code true false false = refl

  pub take_ends : (code : ℕ) (a : Answer) → code ≡ call_code f t s → a ≡ take_answer code f t s
      → step a (after_take a) ≡ take_call f t s
  take_ends code a e h = ap (λ (x : Answer). step x (after_take x)) (h ∙ ap (λ (n : ℕ). take_answer n f t s) e)
      ∙ take_is

-- a pair is given: the checks passed, and the first held pair was secured
module _ (code : ℕ) (f t : Table) (s : Session) where
  pub take_asked : was_given (take_answer code f t s) ≡ true → (code ≡ 0) × (gives_pair f t s ≡ true)
  unfolding take_answer
  take_asked e = go (eqb code 0) refl (gives_pair f t s) refl (finished f t s) e
    where
      go : (a : Bool) → eqb code 0 ≡ a → (b : Bool) → gives_pair f t s ≡ b → (c : Bool)
          → was_given (cond a (cond b (Given (first_held s)) (cond c Finished NotYet)) (refused code)) ≡ true
          → (code ≡ 0) × (gives_pair f t s ≡ true)
      go false h b k c e = clash e refl
      go true h true k c e = (eqb-true code 0 h, k)
      go true h false k true e = clash e refl
      go true h false k false e = clash e refl
