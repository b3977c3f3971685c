-- Whether a call's answer is a refusal, and which. Assumes nothing.
use Rattle.std.specs.Prelude.{◌≡◌, refl, Result, Ok, Err}
use Rattle.rules.specs.declared.Answer.{Answer}
use Rattle.rules.specs.declared.Answer.TheVariants.{Refused, Opened, Read, Settled, Given, NotYet, Finished}
use Rattle.rules.specs.declared.Refusal.{Refusal}
use Rattle.rules.specs.Numbers.{code, said, refusal}

abbrev pub checked : Answer → Result Unit Refusal
checked (Refused r) = Err r
checked Opened = Ok tt
checked Read = Ok tt
checked Settled = Ok tt
checked (Given p) = Ok tt
checked NotYet = Ok tt
checked Finished = Ok tt

-- its number is the one that the answer says
pub checked_says : (a : Answer) → code (checked a) ≡ refusal (said a)
checked_says (Refused r) = refl
checked_says Opened = refl
checked_says Read = refl
checked_says Settled = refl
checked_says (Given p) = refl
checked_says NotYet = refl
checked_says Finished = refl
