-- What read and take know once their checks have given a code. Assumes nothing.
use mathlib.Core.Path.{◌≡◌, sym, ap, ◌∙◌}
use mathlib.Core.Bool.{Bool}
use mathlib.Core.List.{List}
use Prim.Native.Nat.{ℕ, ◌+◌, ◌-◌, ◌%◌}
use native.Mathlib.Omega.{arith}
use lib.IntN.{ℤ}
use lib.ListN.{get_or}
use Rattle.rules.specs.declared.Session.{Session}
use Rattle.rules.specs.Tables.{Table}
use Rattle.rules.specs.Session.{lent_table, no_pair}
use Rattle.rules.specs.Calls.{record_fits, call_code}
use Rattle.session_laws.specs.Calls.{Accepted, call_out}
use Rattle.checks.specs.Codes.{call_of, call_is}
use Rattle.checks.specs.Codes.{LastHeld}

-- the code is the rule's; where it is 0, the record and the tables are accepted, and the last held pair, if one is
-- held, stands where read looks for it
pub record Checked (f t : Table) (s : Session) (code : ℕ) : Type 0 where
  pub code_is : code ≡ call_code f t s
  pub known : code ≡ 0 → Accepted f t s
  pub last_known : code ≡ 0 → LastHeld s (get_or s.pairs ((s.held + 63) % 64) no_pair)

pub call_checked : (f t : List ℤ) (s : Session) (fits : Bool) (code : ℕ) → fits ≡ record_fits s
    → code ≡ call_of fits s.rows s.depth f t
    → Checked (lent_table s f) (lent_table s t) s code
call_checked f t s fits code looked found = record { code_is = is; known = accepted; last_known = last }
  where
    is : code ≡ call_code (lent_table s f) (lent_table s t) s
    is = found ∙ ap (λ (b : Bool). call_of b s.rows s.depth f t) looked ∙ call_is f t s

    accepted : code ≡ 0 → Accepted (lent_table s f) (lent_table s t) s
    accepted e = call_out (lent_table s f) (lent_table s t) s (sym is ∙ e)

    last : code ≡ 0 → LastHeld s (get_or s.pairs ((s.held + 63) % 64) no_pair)
    last e some =
        let k = (accepted e).lent.fits in
        let here : (s.held + 63) % 64 ≡ s.held - 1 = omega (arith, some, k.room, k.query.k.1) in
        ap (λ (i : ℕ). get_or s.pairs i no_pair) here
