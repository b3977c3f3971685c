-- docs/RULES.md, "Take and show". Definitions only. Assumes nothing.
use Rattle.std.specs.Prelude.{ℕ, ◌+◌, ◌*◌, ◌-◌, ◌/◌, Bool, cond, ◌&&◌, ◌||◌, List, [], ◌∷◌, ◌++◌, ltb, eqb, ℤ, get_or}
use Rattle.std.specs.Prelude.{drop}
use Rattle.rules.specs.declared.Pair.{Pair}
use Rattle.rules.specs.declared.Query.{Query}
use Rattle.rules.specs.declared.Session.{Session}
use Rattle.rules.specs.Tables.{Table, Terms, terms, part}
use Rattle.rules.specs.Session.{no_pair, secured_by, nothing_qualifies, a_table_is_empty, both_read_out}

-- "the first held pair"
abbrev pub first_held : Session → Pair
first_held s = get_or s.pairs 0 no_pair

-- "the first held pair, if secured"
unfoldable pub gives_pair_by : (Query → Terms) → Table → Table → Session → Bool
gives_pair_by g f t s = ltb 0 s.held && secured_by g f t s (first_held s)

abbrev pub gives_pair : Table → Table → Session → Bool
gives_pair = gives_pair_by terms

-- "and moves it out": the held pairs move up one place, and the place that is freed becomes zeros
unfoldable pub moved_out : Session → Session
moved_out s =
    record {
      query = s.query;
      rows = s.rows;
      depth = s.depth;
      last = s.last;
      out = s.out + 1;
      held = s.held - 1;
      pairs = drop 1 s.pairs ++ (no_pair ∷ []);
      joined = s.joined;
    }

-- ""Finished" if k are out, a table is empty, or both are read out and none is held."; or nothing can qualify: "taking
-- answers "finished""
unfoldable pub finished : Table → Table → Session → Bool
finished f t s =
    eqb s.out s.query.k
    || (nothing_qualifies s || (a_table_is_empty f t s || (both_read_out f t s && eqb s.held 0)))

-- "the rows last read": from the first to the last row of the last block down to a depth
abbrev pub last_block : ℕ → ℕ → ℕ
last_block block depth = (depth - 1) / block * block

-- "the rows last read as a part of the table that they came from", of a record and tables that are not refused
unfoldable pub shown_rows : Table → Table → Session → List ℤ
shown_rows f t s =
    let d = s.depth.field.0 in
    let e = s.depth.trim.0 in
    let b = s.query.block in
    cond (eqb s.last 1) (part f (last_block b d) (d - last_block b d)).numbers
    (cond (eqb s.last 2) (part t (last_block b e) (e - last_block b e)).numbers [])
