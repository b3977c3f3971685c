-- A take that gives nothing changes no lent number. Assumes nothing.
use Rattle.std.specs.Prelude.{◌≡◌, refl, true, false, List, ℕ, eqb}
use Rattle.std.proofs.Math.Bool.{Bool, cond}
use Rattle.lists.specs.Bools.{clash}
use Rattle.rules.specs.declared.Answer.TheVariants.{Given, NotYet, Finished}
use Rattle.rules.specs.declared.Session.{Session}
use Rattle.rules.specs.declared.Step.{Step}
use Rattle.rules.specs.Tables.{Table}
use Rattle.rules.specs.Take.{first_held, gives_pair, moved_out, finished}
use Rattle.rules.specs.Query.{was_given}
use Rattle.rules.specs.Calls.{call_code, step, take_call_by, take_call}
use Rattle.rules.specs.Numbers.{refused}
use Rattle.flat_calls.specs.Calls.{left_in}

module _ (l : List ℕ) (f t : Table) (s : Session) where
  pub take_left : was_given (take_call f t s).answer ≡ false → left_in l (take_call f t s) ≡ l
  unfolding take_call_by left_in
  take_left = go (eqb (call_code f t s) 0) (gives_pair f t s) (finished f t s)
    where
      none : Bool → Step
      none c = cond c (step Finished s) (step NotYet s)

      called : Bool → Bool → Bool → Step
      called a b c =
          cond a (cond b (step (Given (first_held s)) (moved_out s)) (none c)) (step (refused (call_code f t s)) s)

      go : (a b c : Bool) → was_given (called a b c).answer ≡ false → left_in l (called a b c) ≡ l
      go true true c h = clash refl h
      go true false true h = refl
      go true false false h = refl
      go false b c h = refl
