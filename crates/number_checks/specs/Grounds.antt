-- Grounds of 5 that look at numbers, over those and not the whole record. Definitions only. Assumes nothing.
use Rattle.std.specs.Prelude.{ℕ, ◌+◌, ◌*◌, Bool, ◌&&◌, leb, eqb}
use Rattle.rules.specs.declared.Counts.{Counts}
use Rattle.rules.specs.declared.TwoTables.{TwoTables}
use Rattle.rules.specs.declared.Query.{Query}
use Rattle.rules.specs.Read.{block_count}
use Rattle.rules.specs.Calls.{query_code, counts_fit, is_card}
use Rattle.depth_checks.specs.Grounds.{mark_of, depths_of}

-- all grounds but those of the pair places
unfoldable pub numbers_fit : Query → TwoTables → Counts → ℕ → ℕ → ℕ → ℕ → Bool
numbers_fit q rows depth last out held joined =
    eqb (query_code q) 0
    && (counts_fit q.block rows.field.0 depth.field.0
    && (counts_fit q.block rows.trim.0 depth.trim.0
    && (leb (out + held) q.k
    && (mark_of last depth
    && (leb joined (block_count q.block depth.field.0 * block_count q.block depth.trim.0)
    && (is_card rows.card && depths_of q rows.card depth))))))
