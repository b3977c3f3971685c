-- `pack` meets its contract: after i turns the first i pairs are laid down. Assumes nothing.
use mathlib.Core.Path.{◌≡◌}
use Rattle.record_layout.proofs.Places.{laid_to}
use Rattle.record_packed.proofs.pack.Given as goal

abbrev pub invariant-loop-i : goal.invariant-loop-i
invariant-loop-i l = l.out ≡ laid_to l.initial.out l.p-items l.i
