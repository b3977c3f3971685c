-- `any_beside_at` meets its contract: after i turns none of the first i rows lies near any. Assumes nothing.
use mathlib.Core.Path.{◌≡◌}
use mathlib.Core.Bool.{false}
use Rattle.rules.specs.Tables.{table, terms}
use Rattle.near_rows.specs.Near.{NoneOf}
use Rattle.near_rows.proofs.any_beside_at.Given as goal

abbrev pub invariant-loop-i : goal.invariant-loop-i
invariant-loop-i l = l.seen ≡ false → NoneOf (terms l.q) (table l.n l.x) l.i (table l.n l.y) l.m
