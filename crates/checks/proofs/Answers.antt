-- Answers of another kind than the one that is looked for. Assumes nothing.
use Rattle.std.proofs.Common.{◌≡◌, refl, sym, Bool, true, false, cond, eqb}
use Rattle.rules.specs.declared.Answer.{Answer}
use Rattle.rules.specs.declared.Answer.TheVariants.{Refused, Opened, Read, Settled, Given, NotYet, Finished}
use Rattle.rules.specs.declared.Pair.{Pair}
use Rattle.rules.specs.declared.Session.{Session}
use Rattle.rules.specs.declared.Step.{Step}
use Rattle.rules.specs.Tables.{Table}
use Rattle.rules.specs.Session.{settled}
use Rattle.rules.specs.Read.{read_block}
use Rattle.rules.specs.Calls.{call_code, new_block_code, step, read_call_by, read_call}
use Rattle.rules.specs.Query.{was_read, was_given}
use Rattle.rules.specs.Numbers.{refused}

-- a read never answers that a session was opened
not_opened : (f t : Table) (s : Session) → (read_call f t s).answer ≡ Opened → ⊥
unfolding read_call_by
not_opened f t s = go (eqb (call_code f t s) 0) (settled f t s) (eqb (new_block_code f t s) 0)
  where
    unread : Step
    unread = step (refused (new_block_code f t s)) s

    go : (a b c : Bool)
        → (cond a (cond b (step Settled s) (cond c (step Read (read_block f t s)) unread))
        (step (refused (call_code f t s)) s)).answer
        ≡ Opened
        → ⊥
    go true true c e = cc
    go true false true e = cc
    go true false false e = cc
    go false b c e = cc

-- a read's answer of another kind
pub not_read : (f t : Table) (s : Session) (a : Answer) → a ≡ (read_call f t s).answer → (a ≡ Read → ⊥)
    → was_read a ≡ false
not_read f t s (Refused n) e h = refl
not_read f t s Opened e h = absurd (not_opened f t s (sym e))
not_read f t s Read e h = absurd (h refl)
not_read f t s Settled e h = refl
not_read f t s (Given p) e h = refl
not_read f t s NotYet e h = refl
not_read f t s Finished e h = refl

pub not_given : (a : Answer) → ((p : Pair) → a ≡ Given p → ⊥) → was_given a ≡ false
not_given (Refused n) h = refl
not_given Opened h = refl
not_given Read h = refl
not_given Settled h = refl
not_given (Given p) h = absurd (h p refl)
not_given NotYet h = refl
not_given Finished h = refl
