-- `put_parts` meets its contract. Assumes nothing.
use Rattle.rules.specs.Tables.{table}
use Rattle.rules.specs.Query.{list}
use Rattle.printing.specs.Laid.{Writing}
use Rattle.query_numbers.specs.Parts.{part_length}
use Rattle.query_numbers.proofs.Steps.{part_at}
use Rattle.query_numbers.proofs.put_parts.Given as goal

abbrev pub invariant-loop-i : goal.invariant-loop-i
invariant-loop-i l = Writing (part_at l.part (table l.n l.f) (table l.n l.t)) (part_length l.part) l.at
    (list l.run.query (table l.n l.f) (table l.n l.t)) l.initial.out l.i l.out
