-- `small_square_at` meets its contract: what it reads are the shades' own numbers. Assumes nothing.
use Rattle.std.proofs.Common.{arith}
use Rattle.std.proofs.lemmas.Grind.{common_steps}
use Rattle.rules.specs.Tables.{gap}
use Rattle.rules.specs.Squares.{square_at}
use Rattle.distance.proofs.Square.{square_small}
use Rattle.distance.proofs.small_square_at.Goals as goal

pub returns : goal.returns
unfolding square_at gap
returns c = grind (arith, common_steps, square_small)
