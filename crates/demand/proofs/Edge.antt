-- The row limit is met exactly: by a sure reading of one field row and two trim rows, and with blocks of two rows by
-- one of one row of each table. Assumes nothing.
use Rattle.std.specs.Prelude.{◌≡◌, refl, true, List, [], ◌∷◌, pos}
use Rattle.lists.specs.Lists.{at_least}
use Rattle.rules.specs.declared.Query.{Query}
use Rattle.rules.specs.declared.Session.{Session}
use Rattle.rules.specs.Tables.{Table, legal}
use Rattle.rules.specs.Sure.{Sure, qualifying_sums}
use Rattle.rules.specs.Calls.{query_code, open_call}
use Rattle.rules.specs.Run.{run}
use Rattle.tables_join.specs.Sure.{is_sure, read_out_by, empty_by, ceiling_at, sure_is_test}
use Rattle.session_laws.specs.Calls.{OneCard}
use Rattle.demand.specs.Demand.{Call, reading, Line, Demand3, last_record}
use Rattle.demand.specs.Sequences.{DepthsUpTo}
use Rattle.demand.specs.Proved.{demand3}
use Rattle.demand.specs.GetsThere.{run_of}
use Rattle.demand.specs.Ends.{run_sequence}
use Rattle.demand.specs.Transcript.{no_rows, row_then, top_one, field_rows, trim_rows}

-- four reads, and the record after them
abbrev four : List Call
four = reading ∷ reading ∷ reading ∷ reading ∷ []

abbrev four_reads : Query → Table → Table → List Line
four_reads q f t = run_of f t (open_call q f t).session four

abbrev last_of : Query → Table → Table → Session
last_of q f t = last_record (open_call q f t).session (four_reads q f t)

keeps : (q : Query) (f t : Table) → OneCard f t → legal f ≡ true → legal t ≡ true
    → query_code q ≡ 0 → Demand3 q f t (open_call q f t) (four_reads q f t)
keeps q f t cards g h k = demand3 q f t (open_call q f t) (four_reads q f t) (run_sequence q f t cards g h k four)

-- ---- One field row and two trim rows are sure: of each table the greater number is read

abbrev fields : Table
fields = row_then (pos 5) (pos 0) (row_then (pos 4) (pos 7) (row_then (pos 3) (pos 7) no_rows))

abbrev trims : Table
trims = row_then (pos 5) (pos 9) (row_then (pos 5) (pos 0) (row_then (pos 3) (pos 9) no_rows))

sure_uneven : Sure (top_one 1) fields trims (field_rows 1) (trim_rows 2)
unfolding run is_sure read_out_by empty_by ceiling_at qualifying_sums at_least
sure_uneven = (sure_is_test (top_one 1) refl fields trims refl refl (field_rows 1) (trim_rows 2) refl).1 refl

pub limit_uneven : DepthsUpTo 2 (last_of (top_one 1) fields trims)
unfolding run
limit_uneven = (keeps (top_one 1) fields trims (record { known = refl; same = refl }) refl refl refl).row_limit_lem
    (field_rows 1) (trim_rows 2) sure_uneven

pub at_uneven : ((last_of (top_one 1) fields trims).depth.field.0 ≡ 2)
    × ((last_of (top_one 1) fields trims).depth.trim.0 ≡ 2)
unfolding run run_of
at_uneven = (refl, refl)

-- ---- Blocks of two rows: one row of each table is sure, and ends neither

abbrev table : Table
table = row_then (pos 5) (pos 0) (row_then (pos 4) (pos 0) (row_then (pos 3) (pos 0) no_rows))

sure_one : Sure (top_one 2) table table (field_rows 1) (trim_rows 1)
unfolding run is_sure read_out_by empty_by ceiling_at qualifying_sums at_least
sure_one = (sure_is_test (top_one 2) refl table table refl refl (field_rows 1) (trim_rows 1) refl).1 refl

pub limit_two : DepthsUpTo 2 (last_of (top_one 2) table table)
unfolding run
limit_two = (keeps (top_one 2) table table (record { known = refl; same = refl }) refl refl refl).row_limit_lem
    (field_rows 1) (trim_rows 1) sure_one

pub at_two : ((last_of (top_one 2) table table).depth.field.0 ≡ 2)
    × ((last_of (top_one 2) table table).depth.trim.0 ≡ 2)
unfolding run run_of
at_two = (refl, refl)
