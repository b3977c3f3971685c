-- What the ceiling and the securing of a pair ask of a session: its card, row counts, depths and weights. Assumes
-- nothing.
use Rattle.std.specs.Prelude.{◌≡◌, refl, [], ℕ}
use Rattle.rules.specs.declared.Counts.{Counts}
use Rattle.rules.specs.declared.Pair.{Pair}
use Rattle.rules.specs.declared.Session.{Session}
use Rattle.rules.specs.declared.Weights.{Weights}
use Rattle.rules.specs.Tables.{Table}
use Rattle.rules.specs.Session.{exact_query, ceiling_by, secured_by, secured}

-- a session of these alone
abbrev pub bare : ℕ → Counts → Counts → Weights → Session
bare n rows depth weights =
    record {
      query = exact_query 0 0 0 weights;
      rows = record { field = rows.field; trim = rows.trim; card = n };
      depth = depth;
      last = 0;
      out = 0;
      held = 0;
      pairs = [];
      joined = 0;
    }

-- a session's row counts
abbrev pub row_counts : Session → Counts
row_counts s = record { field = s.rows.field; trim = s.rows.trim }

-- it secures what the session does
pub secured_bare : (f t : Table) (s : Session) (p : Pair)
    → secured f t (bare s.rows.card (row_counts s) s.depth s.query.weights) p ≡ secured f t s p
unfolding secured_by ceiling_by
secured_bare f t s p = refl
