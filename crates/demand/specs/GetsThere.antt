-- Fact 6, said of a whole sequence: it is never refused, and it gets to its end. Definitions only; the proof is in
-- Ends.antt. Assumes nothing.
use Rattle.std.specs.Prelude.{◌+◌, ◌≤◌, ◌≡◌, true, List, [], ◌∷◌, ◌++◌}
use Rattle.lists.specs.Words.{total}
use Rattle.rules.specs.declared.Query.{Query}
use Rattle.rules.specs.declared.Session.{Session}
use Rattle.rules.specs.declared.Step.{Step}
use Rattle.rules.specs.declared.Answer.TheVariants.{NotYet}
use Rattle.rules.specs.Tables.{Table, row_count}
use Rattle.rules.specs.Session.{settled}
use Rattle.demand.specs.Demand.{Call, Line, promised, is_accepted, last_record}
use Rattle.demand.specs.Steps.{reads_of}

pub record GetsThere (q : Query) (f t : Table) (opening : Step) (lines : List Line) : Type 0 where
  -- a call that is lent the two tables is not refused
  pub unrefused : (before after : List Line) (l : Line) → lines ≡ before ++ l ∷ after → l.field ≡ f.numbers
      → l.trim ≡ t.numbers
      → is_accepted l ≡ true
  -- no more blocks are read than there are rows
  pub few_reads : total (λ l. reads_of l.gave.answer) lines ≤ row_count f + row_count t
  -- in a settled session no take says "not yet"
  pub never_waits : (before after : List Line) (l : Line) → lines ≡ before ++ l ∷ after
      → settled f t (last_record opening.session before) ≡ true → l.gave.answer ≡ NotYet → ⊥

-- the transcript of these calls, each lent the two tables
unfoldable pub run_of : Table → Table → Session → List Call → List Line
run_of f t s [] = []
run_of f t s (c ∷ calls) =
    let gave = promised c f.numbers t.numbers s in
    record { call = c; field = f.numbers; trim = t.numbers; gave = gave } ∷ run_of f t gave.session calls
