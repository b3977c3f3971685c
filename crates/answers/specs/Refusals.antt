-- Every number that a call of the session is refused by is one of the table's. Assumes nothing.
use Rattle.std.specs.Prelude.{◌≡◌, true, false, List, ℕ, ℤ, eqb, Ok}
use Rattle.std.proofs.Common.{arith}
use Rattle.rules.specs.declared.Answer.{Answer}
use Rattle.rules.specs.declared.Answer.TheVariants.{Refused, Opened, Read, Settled, Given, NotYet, Finished}
use Rattle.rules.specs.declared.Query.{Query}
use Rattle.rules.specs.declared.Session.{Session}
use Rattle.rules.specs.declared.Step.{Step}
use Rattle.rules.specs.Tables.{Table, terms}
use Rattle.rules.specs.Session.{settled}
use Rattle.rules.specs.File.{head_code, check_file, file_row_code, and_row}
use Rattle.rules.specs.Numbers.{IsRefusal, said, said_of, refusal}
use Rattle.rules.specs.Numbered.{number_range, known_opening, known_call, known_new_block, known_head, known_file_row}
use Rattle.rules.specs.Calls.{open_code, open_call, call_code, new_block_code, read_call_by, read_call}
use Rattle.rules.specs.Calls.{take_call_by, take_call}

-- a step that is refused, if it is, by a number of the table
abbrev pub Numbered : Step → Type 0
Numbered s = IsRefusal (refusal (said s.answer))

numbered : (a : Answer) → IsRefusal (refusal (said a))
numbered (Refused r) = (number_range r).0
numbered Opened = omega arith
numbered Read = omega arith
numbered Settled = omega arith
numbered (Given p) = omega arith
numbered NotYet = omega arith
numbered Finished = omega arith

pub open_refusal : (q : Query) (f t : Table) → Numbered (open_call q f t)
open_refusal q f t = numbered (open_call q f t).answer

pub read_refusal : (f t : Table) (s : Session) → Numbered (read_call f t s)
read_refusal f t s = numbered (read_call f t s).answer

pub take_refusal : (f t : Table) (s : Session) → Numbered (take_call f t s)
take_refusal f t s = numbered (take_call f t s).answer

-- ---- A refused call, and a refused file, says its code

module _ (f t : Table) (s : Session) where
  pub read_says : eqb (call_code f t s) 0 ≡ false → refusal (said (read_call f t s).answer) ≡ call_code f t s
  unfolding read_call_by
  read_says e = rw e (known_call f t s e)

  pub block_says : eqb (call_code f t s) 0 ≡ true → settled f t s ≡ false → eqb (new_block_code f t s) 0 ≡ false
      → refusal (said (read_call f t s).answer) ≡ new_block_code f t s
  unfolding read_call_by
  block_says e h k = rw (e, h, k) (known_new_block terms f t s k)

  pub take_says : eqb (call_code f t s) 0 ≡ false → refusal (said (take_call f t s).answer) ≡ call_code f t s
  unfolding take_call_by
  take_says e = rw e (known_call f t s e)

pub open_says : (q : Query) (f t : Table) → eqb (open_code q f t) 0 ≡ false
    → refusal (said (open_call q f t).answer) ≡ open_code q f t
unfolding open_call
open_says q f t e = rw e (known_opening q f t e)

pub head_says : (bytes : List ℕ) (kind : ℤ) → eqb (head_code bytes kind) 0 ≡ false
    → refusal (said_of (check_file bytes kind)) ≡ head_code bytes kind
unfolding check_file
head_says bytes kind e = rw e (known_head bytes kind e)

pub row_says : (bytes : List ℕ) (t : Table) (n m : ℕ) → eqb (file_row_code bytes t n) 0 ≡ false
    → refusal (said_of (and_row bytes t n (Ok m))) ≡ file_row_code bytes t n
unfolding and_row
row_says bytes t n m e = rw e (known_file_row bytes t n e)
