-- What is told to C: what a call answered, or a number that it is refused by, handed on as it comes. Definitions only.
-- Assumes nothing.
use Rattle.std.specs.Prelude.{ℕ, false, [], Result, Ok, Err}
use Rattle.rules.specs.declared.Answer.{Answer}
use Rattle.rules.specs.Numbers.{Said, said}

abbrev pub said_or_refused : Result Answer ℕ → Said
said_or_refused (Ok a) = said a
said_or_refused (Err n) = record { accepted = false; number = n; values = [] }

-- the number that is handed on as it comes; 0 where none is
abbrev pub handed_on : Result Answer ℕ → ℕ
handed_on (Ok a) = 0
handed_on (Err n) = n
