-- What is known of a query, and of a table's counts, once their checks have passed. Assumes nothing.
use Rattle.std.specs.Prelude.{◌≡◌, refl, eqb, Result, Ok, Err}
use Rattle.std.proofs.Common.{arith}
use Rattle.std.specs.Result.{is_ok}
use Rattle.rules.specs.declared.Refusal.{Refusal}
use Rattle.rules.specs.Numbers.{code}
use Rattle.codes.specs.Steps.{coded}
use Rattle.session_laws.specs.Record.{query_out, counts_out}

pub ruleset passing = (coded, query_out, counts_out)
