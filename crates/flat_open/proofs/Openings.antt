-- An opening's answer of another kind than the one that is looked for. Assumes nothing.
use Rattle.std.proofs.Common.{◌≡◌, ap, Bool, true, false, cond, eqb}
use Rattle.rules.specs.declared.Answer.{Answer}
use Rattle.rules.specs.declared.Answer.TheVariants.{Opened}
use Rattle.rules.specs.declared.Query.{Query}
use Rattle.rules.specs.Session.{two_tables, opened, zeros}
use Rattle.rules.specs.Tables.{Table}
use Rattle.rules.specs.Numbers.{said}
use Rattle.rules.specs.Calls.{step, open_code, open_call}
use Rattle.rules.specs.Numbers.{refused}

-- an opening that does not answer that a session was opened is refused
pub not_opened : (q : Query) (f t : Table) (a : Answer) → a ≡ (open_call q f t).answer → (a ≡ Opened → ⊥)
    → (said a).accepted ≡ false
unfolding open_call
not_opened q f t a e h = go (eqb (open_code q f t) 0) e
  where
    go : (b : Bool)
        → a
        ≡ (cond b (step Opened (opened q (two_tables f t)))
        (step (refused (open_code q f t)) zeros)).answer
        → (said a).accepted ≡ false
    go true e = absurd (h e)
    go false e = ap (λ (x : Answer). (said x).accepted) e
