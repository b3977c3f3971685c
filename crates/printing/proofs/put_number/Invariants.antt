-- `put_number` meets its contract: the columns written so far stand behind what is left of the number. Assumes nothing.
use Rattle.std.proofs.Common.{◌≡◌}
use Rattle.rules.specs.Query.{decimal}
use Rattle.printing.specs.Put.{put_at}
use Rattle.printing.specs.Numbers.{left}
use Rattle.printing.proofs.put_number.Given as goal

abbrev pub invariant-loop-w : goal.invariant-loop-w
invariant-loop-w l = put_at l.at (left l.more l.w l.rest) l.out ≡ put_at l.at (decimal l.width l.n) l.initial.out
