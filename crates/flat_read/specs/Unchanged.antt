-- A read that reads nothing changes no lent number. Assumes nothing.
use Rattle.std.specs.Prelude.{◌≡◌, refl, true, false, List, ℕ, eqb}
use Rattle.std.proofs.Math.Bool.{Bool, cond}
use Rattle.lists.specs.Bools.{clash}
use Rattle.rules.specs.declared.Answer.TheVariants.{Read, Settled}
use Rattle.rules.specs.declared.Session.{Session}
use Rattle.rules.specs.declared.Step.{Step}
use Rattle.rules.specs.Tables.{Table}
use Rattle.rules.specs.Session.{settled}
use Rattle.rules.specs.Read.{read_block}
use Rattle.rules.specs.Query.{was_read}
use Rattle.rules.specs.Calls.{call_code, new_block_code, step, read_call_by, read_call}
use Rattle.rules.specs.Numbers.{refused}
use Rattle.flat_calls.specs.Calls.{left_in}

module _ (l : List ℕ) (f t : Table) (s : Session) where
  pub read_left : was_read (read_call f t s).answer ≡ false → left_in l (read_call f t s) ≡ l
  unfolding read_call_by left_in
  read_left = go (eqb (call_code f t s) 0) (settled f t s) (eqb (new_block_code f t s) 0)
    where
      read : Bool → Step
      read c = cond c (step Read (read_block f t s)) (step (refused (new_block_code f t s)) s)

      called : Bool → Bool → Bool → Step
      called a b c = cond a (cond b (step Settled s) (read c)) (step (refused (call_code f t s)) s)

      go : (a b c : Bool) → was_read (called a b c).answer ≡ false → left_in l (called a b c) ≡ l
      go true true c h = refl
      go true false true h = clash refl h
      go true false false h = refl
      go false b c h = refl
