-- `row_bytes` meets its contract: the columns passed end where the next begins. Assumes nothing.
use Rattle.std.proofs.Common.{arith}
use Rattle.std.proofs.lemmas.Grind.{common_steps}
use Rattle.rules.specs.File.{row_bytes}
use Rattle.row_columns.proofs.row_bytes.Goals as goal

pub returns : goal.returns
unfolding row_bytes
returns c = grind (arith, common_steps)
