-- Wrong rules, each a twin of the right one, and the part of demand 3 that it breaks on tables of a few rows. Assumes
-- nothing.
use Rattle.std.specs.Prelude.{◌≡◌, refl, Bool, true, false, cond, [], ℕ, zero, suc, ◌+◌, ◌-◌, ◌≤◌, ◌<◌, max, eqb, ltb}
use Rattle.std.specs.Prelude.{leb, pos}
use Rattle.std.proofs.Common.{arith, lit<, lit≤}
use Rattle.lists.specs.Lists.{at_least}
use Rattle.rules.specs.declared.Query.{Query}
use Rattle.rules.specs.declared.Session.{Session}
use Rattle.rules.specs.Tables.{Table, terms}
use Rattle.rules.specs.Session.{last_score, field_read_out, trim_read_out, settled}
use Rattle.rules.specs.Read.{score_drop, field_next, read_table, read_to}
use Rattle.rules.specs.Take.{first_held}
use Rattle.rules.specs.Sure.{Sure, qualifying_sums}
use Rattle.rules.specs.Calls.{open_call, read_call}
use Rattle.rules.specs.Run.{run}
use Rattle.tables_join.specs.Sure.{is_sure, read_out_by, empty_by, ceiling_at, sure_is_test}
use Rattle.demand.specs.Demand.{Qualifying, Brought}
use Rattle.demand.specs.Transcript.{no_rows, row_then, top_one, field_rows, trim_rows}

-- ---- Rules for the table that is read next

-- a rule in place of the drops, both tables having been read and neither to its end
abbrev chosen_by : (Table → Table → Session → Bool) → Table → Table → Session → Bool
chosen_by rule f t s =
    cond (eqb s.depth.field.0 0) true
    (cond (eqb s.depth.trim.0 0) false (cond (trim_read_out t s) true (cond (field_read_out f s) false (rule f t s))))

-- Qi, Bouros and Mamoulis (2020) as printed: the table whose last score is higher
abbrev by_last_score : Table → Table → Session → Bool
by_last_score f t s =
    let w = terms s.query in
    leb (last_score w.trim t s.depth.trim.0) (last_score w.field f s.depth.field.0)

-- the drops of the two tables
abbrev field_drop : Table → Session → ℕ
field_drop f s = score_drop (terms s.query).field f s.depth.field.0

abbrev trim_drop : Table → Session → ℕ
trim_drop t s = score_drop (terms s.query).trim t s.depth.trim.0

-- at equal drops always the field table
abbrev equal_drops_field : Table → Table → Session → Bool
equal_drops_field f t s = leb (field_drop f s) (trim_drop t s)

-- the rule itself in this form
abbrev by_drops : Table → Table → Session → Bool
by_drops f t s =
    let x = field_drop f s in
    let y = trim_drop t s in
    cond (ltb x y) true (cond (ltb y x) false (leb s.depth.field.0 s.depth.trim.0))

-- reading until settled by such a rule, at most n reads
abbrev read_by : ℕ → (Table → Table → Session → Bool) → Table → Table → Session → Session
read_by zero rule f t s = s
read_by (suc n) rule f t s = cond (settled f t s) s (read_by n rule f t (read_table (chosen_by rule f t s) f t s))

-- how many rows such a rule reads of the two tables
abbrev rows_by : (Table → Table → Session → Bool) → Query → Table → Table → ℕ
rows_by rule q f t =
    let s = read_by 12 rule f t (open_call q f t).session in
    max s.depth.field.0 s.depth.trim.0

-- the pair that matters is field row 1 with trim row 2, and trim scores lie below all field scores
abbrev high_fields : Table
high_fields =
    row_then (pos 100) (pos 0)
    (row_then (pos 90) (pos 7) (row_then (pos 80) (pos 7) (row_then (pos 70) (pos 7) no_rows)))

abbrev low_trims : Table
low_trims = row_then (pos 10) (pos 9) (row_then (pos 9) (pos 0) (row_then (pos 8) (pos 9) no_rows))

sure_low : Sure (top_one 1) high_fields low_trims (field_rows 2) (trim_rows 2)
unfolding run is_sure read_out_by empty_by ceiling_at qualifying_sums at_least
sure_low = (sure_is_test (top_one 1) refl high_fields low_trims refl refl (field_rows 2) (trim_rows 2) refl).1 refl

-- the row limit, here 2, is broken by the last-score rule and kept by the rule itself
pub last_score_breaks_limit : Sure (top_one 1) high_fields low_trims (field_rows 2) (trim_rows 2)
    × (max 2 2 + 1 - 1 < rows_by by_last_score (top_one 1) high_fields low_trims)
    × (rows_by by_drops (top_one 1) high_fields low_trims ≡ 2)
unfolding run
last_score_breaks_limit = (sure_low, lit< tt, refl)

-- a plateau of equal scores in the field table
abbrev plateau : Table
plateau = row_then (pos 5) (pos 0)
    (row_then (pos 5) (pos 7) (row_then (pos 5) (pos 7) (row_then (pos 5) (pos 7) no_rows)))

abbrev level : Table
level = row_then (pos 5) (pos 9) (row_then (pos 5) (pos 0) (row_then (pos 5) (pos 9) no_rows))

sure_level : Sure (top_one 1) plateau level (field_rows 2) (trim_rows 2)
unfolding run is_sure read_out_by empty_by ceiling_at qualifying_sums at_least
sure_level = (sure_is_test (top_one 1) refl plateau level refl refl (field_rows 2) (trim_rows 2) refl).1 refl

pub equal_drops_break_limit : Sure (top_one 1) plateau level (field_rows 2) (trim_rows 2)
    × (max 2 2 + 1 - 1 < rows_by equal_drops_field (top_one 1) plateau level)
    × (rows_by by_drops (top_one 1) plateau level ≡ 2)
unfolding run
equal_drops_break_limit = (sure_level, lit< tt, refl)

-- ---- Reading everything at the first read

-- all rows that remain in place of one block: the field depth after the first read
abbrev reads_all : Query → Table → Table → ℕ
reads_all q f t =
    let s = (open_call q f t).session in
    (read_to (field_next f t s) s.rows.field.0 s).depth.field.0

sure_first : Sure (top_one 1) plateau plateau (field_rows 1) (trim_rows 1)
unfolding run is_sure read_out_by empty_by ceiling_at qualifying_sums at_least
sure_first = (sure_is_test (top_one 1) refl plateau plateau refl refl (field_rows 1) (trim_rows 1) refl).1 refl

pub reading_all_breaks_limit : Sure (top_one 1) plateau plateau (field_rows 1) (trim_rows 1)
    × (max 1 1 + 1 - 1 < reads_all (top_one 1) plateau plateau)
    × (rows_by by_drops (top_one 1) plateau plateau ≡ 1)
unfolding run
reading_all_breaks_limit = (sure_first, lit< tt, refl)

-- ---- Taking the best held pair before the ceiling is down to it

abbrev crossed : Table
crossed = row_then (pos 10) (pos 1) (row_then (pos 1) (pos 2) no_rows)

abbrev crossing : Table
crossing = row_then (pos 10) (pos 2) (row_then (pos 9) (pos 1) no_rows)

abbrev after : Session → Session
after s = (read_call crossed crossing s).session

abbrev read3 : Session
read3 = after (after (after (open_call (top_one 1) crossed crossing).session))

-- after three reads the best held pair has sum 11, and a qualifying pair that is not out has sum 19
higher : Qualifying (top_one 1) crossed crossing 1 2
unfolding run
higher = record { field_row = (lit≤ tt, lit≤ tt); trim_row = (lit≤ tt, lit≤ tt); near = refl }

pub too_early_breaks_highest : Brought (top_one 1) crossed crossing [] (first_held read3) → ⊥
unfolding run
too_early_breaks_highest b =
    let k : 19 ≤ 11 = b.highest 1 2 higher (λ o. o) in omega arith
