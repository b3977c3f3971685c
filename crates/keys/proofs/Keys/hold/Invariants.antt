-- The keys so far are those of the pairs so far.
use Rattle.std.proofs.Common.{take}
use Rattle.keys.specs.Held.{Keyed}
use Rattle.keys.proofs.Keys.hold.Given as goal

abbrev pub invariant-loop-p : goal.invariant-loop-p
invariant-loop-p l = Keyed (take l.p-index l.pairs) l.self
