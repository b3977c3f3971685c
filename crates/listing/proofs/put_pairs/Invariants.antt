-- `put_pairs` meets its contract. Assumes nothing.
use Rattle.rules.specs.Tables.{table}
use Rattle.rules.specs.Query.{list}
use Rattle.printing.specs.Laid.{Writing}
use Rattle.pair_line.specs.Line.{line_length}
use Rattle.listing.proofs.Lines.{line_at}
use Rattle.listing.proofs.put_pairs.Given as goal

abbrev pub invariant-loop-i : goal.invariant-loop-i
invariant-loop-i l = Writing (line_at (table l.n l.f) (table l.n l.t)) line_length l.at
    (list l.run.query (table l.n l.f) (table l.n l.t)) l.initial.out l.i l.out
