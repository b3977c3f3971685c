-- What a call of a sequence did. Definitions only. Assumes nothing.
use Rattle.std.specs.Prelude.{ℕ, ◌≡◌, true, false, []}
use Rattle.rules.specs.declared.Session.{Session}
use Rattle.rules.specs.declared.Step.{Step}
use Rattle.rules.specs.declared.Refusal.{Refusal}
use Rattle.rules.specs.declared.Answer.{Answer}
use Rattle.rules.specs.declared.Answer.TheVariants.{Refused, Opened, Read, Settled, Given, NotYet, Finished}
use Rattle.rules.specs.Session.{settled}
use Rattle.rules.specs.Read.{read_block}
use Rattle.rules.specs.Take.{first_held, gives_pair, moved_out, finished}
use Rattle.rules.specs.Calls.{call_code, new_block_code, step}
use Rattle.rules.specs.Query.{given}
use Rattle.demand.specs.Demand.{Call, reading, taking}
use Rattle.rules.specs.Tables.{Table}

-- the call c, given record s, gave g: refused it gave s back; else it was lent tables f and t, and did one of five
pub data Happened (f t : Table) (s : Session) (c : Call) (g : Step) : Type 0 where
  refused : (r : Refusal) → g ≡ step (Refused r) s → Happened f t s c g
  settling : c ≡ reading → call_code f t s ≡ 0 → settled f t s ≡ true → g ≡ step Settled s → Happened f t s c g
  going : c ≡ reading → call_code f t s ≡ 0 → settled f t s ≡ false → new_block_code f t s ≡ 0
      → g ≡ step Read (read_block f t s) → Happened f t s c g
  giving : c ≡ taking → call_code f t s ≡ 0 → gives_pair f t s ≡ true → g ≡ step (Given (first_held s)) (moved_out s)
      → Happened f t s c g
  finishing : c ≡ taking → call_code f t s ≡ 0 → gives_pair f t s ≡ false → finished f t s ≡ true → g ≡ step Finished s
      → Happened f t s c g
  waiting : c ≡ taking → call_code f t s ≡ 0 → gives_pair f t s ≡ false → finished f t s ≡ false → g ≡ step NotYet s
      → Happened f t s c g

-- 1 for a call that read a block
abbrev pub reads_of : Answer → ℕ
reads_of (Refused r) = 0
reads_of Opened = 0
reads_of Read = 1
reads_of Settled = 0
reads_of (Given p) = 0
reads_of NotYet = 0
reads_of Finished = 0

-- the same as far as the record goes: it stayed as it was, or a block was read, or a pair came out
pub data Changed (f t : Table) (s : Session) (g : Step) : Type 0 where
  kept : g.session ≡ s → given g.answer ≡ [] → reads_of g.answer ≡ 0 → Changed f t s g
  deeper : settled f t s ≡ false → g ≡ step Read (read_block f t s) → Changed f t s g
  fewer : gives_pair f t s ≡ true → g ≡ step (Given (first_held s)) (moved_out s) → Changed f t s g
