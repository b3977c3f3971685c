-- Rules run on small numbers, where a slip would not show in the rules' worked query. Assumes nothing.
use Rattle.std.specs.Prelude.{ℕ, ◌≡◌, refl, true, false, List, [], ◌∷◌, map, ℤ, pos, negsuc, set, replicate}
use Prim.Native.String.{String}
use Rattle.rules.specs.declared.Query.{Query}
use Rattle.rules.specs.declared.Session.{Session}
use Rattle.rules.specs.Tables.{Table, old_table, part}
use Rattle.lists.specs.Lists.{each}
use Rattle.rules.specs.Session.{weights, exact_query, places, zeros, read_out, is_empty, ceiling}
use Rattle.rules.specs.Read.{field_next, skipped, rows_between}
use Rattle.rules.specs.Take.{last_block}
use Rattle.rules.specs.Numbers.{said_of, refusal}
use Rattle.rules.specs.Calls.{query_code, size_code, rows_code, record_code, call_code, open_code, open_call, show_call}
use Rattle.rules.specs.File.{load_answer, load_numbers}
use Rattle.rules.specs.Root.{root, remainder}
use Rattle.rules.specs.Query.{read_until_settled, settled_session, list, pair_line, whole_query, refusal_line}
use Rattle.rules.specs.Run.{run}
use Rattle.rules.proofs.Example.{bytes, field_file, fields, trims, query, after_reads}

-- ---- Where the last block begins: a whole one, and a short one

pub last_block_whole : last_block 2 4 ≡ 2
last_block_whole = refl

pub last_block_short : last_block 2 3 ≡ 2
last_block_short = refl

-- ---- Show at the worked query

pub show_first : show_call fields trims (after_reads 1) ≡ (part fields 0 1).numbers
unfolding run after_reads
show_first = refl

pub show_fifth : show_call fields trims (after_reads 5) ≡ (part fields 2 1).numbers
unfolding run after_reads
show_fifth = refl

pub show_sixth : show_call fields trims (after_reads 6) ≡ (part trims 2 1).numbers
unfolding run after_reads
show_sixth = refl

pub show_nothing_read : show_call fields trims (after_reads 0) ≡ []
unfolding run after_reads
show_nothing_read = refl

-- a field table whose first score, which was read, is out of its range
abbrev bad_fields : Table
bad_fields = old_table (set fields.numbers 1 (pos 10000))

-- read and take refuse it; show, which checks 5 and 4 only, shows its rows
pub bad_row_refused : call_code bad_fields trims (after_reads 1) ≡ 6
unfolding run after_reads
bad_row_refused = refl

pub bad_row_shown : show_call bad_fields trims (after_reads 1) ≡ (part bad_fields 0 1).numbers
unfolding run after_reads
bad_row_shown = refl

-- ---- A last-read mark of 3

abbrev marked : ℕ → Session → Session
marked n s =
    record {
      query = s.query;
      rows = s.rows;
      depth = s.depth;
      last = n;
      out = s.out;
      held = s.held;
      pairs = s.pairs;
      joined = s.joined;
    }

-- a record with another query
abbrev pub with_query : Query → Session → Session
with_query q s =
    record {
      query = q;
      rows = s.rows;
      depth = s.depth;
      last = s.last;
      out = s.out;
      held = s.held;
      pairs = s.pairs;
      joined = s.joined;
    }

pub mark_2_accepted : record_code (marked 2 (after_reads 2)) ≡ 0
unfolding run after_reads
mark_2_accepted = refl

pub mark_3_refused : record_code (marked 3 (after_reads 2)) ≡ 5
unfolding run after_reads
mark_3_refused = refl

-- ---- The program's order: a trim file's number before that of the input

pub trim_file_first : whole_query field_file (bytes "     0     2") (bytes "") ≡ refusal_line 8
unfolding run
trim_file_first = refl

pub trim_row_first : whole_query field_file (bytes "     0     x\n") (bytes "") ≡ refusal_line 9
unfolding run
trim_row_first = refl

-- ---- Each refusal once, by its number

abbrev pub asked : ℕ → ℕ → ℕ → Query
asked k block radius = exact_query k block radius (weights 1 1)

-- the same with other weights
abbrev pub weighing : ℕ → ℕ → Query → Query
weighing v w q = exact_query q.k q.block q.radius (weights v w)

abbrev pub loaded : String → ℕ → ℕ
loaded file room = refusal (said_of (load_answer (bytes file) (pos 1) (replicate room (pos 0))))

abbrev pub refusals : List ℕ
refusals =
    query_code (asked 0 1 5)
    ∷ query_code (asked 2 0 5)
    ∷ query_code (asked 2 1 40001)
    ∷ size_code (old_table (pos 1 ∷ []))
    ∷ record_code zeros
    ∷ rows_code bad_fields 0 1
    ∷ rows_code (old_table (set fields.numbers 5 (pos 91))) 0 2
    ∷ loaded "     1     1\n" 4
    ∷ loaded "    01     1\n" 4
    ∷ loaded "     0     2\n" 4
    ∷ loaded "     1     1\n     1     1      0      0\n" 3
    ∷ query_code (weighing 10 1 (asked 2 1 5))
    ∷ []

pub each_by_its_number : refusals ≡ 1 ∷ 2 ∷ 3 ∷ 4 ∷ 5 ∷ 6 ∷ 7 ∷ 8 ∷ 9 ∷ 10 ∷ 11 ∷ 12 ∷ []
unfolding run
each_by_its_number = refl

-- 6 before 7: a second row whose a is too large and whose score is higher than the first's
pub limit_before_order : rows_code (old_table (set (set fields.numbers 6 (pos 12701)) 5 (pos 91))) 0 2 ≡ 6
unfolding run
limit_before_order = refl

-- ---- Weights: 1 to 9 each, asked after the radius

abbrev weight_codes : List ℕ
weight_codes =
    query_code (weighing 9 9 (asked 2 1 5))
    ∷ query_code (weighing 0 1 (asked 2 1 5))
    ∷ query_code (weighing 1 0 (asked 2 1 5))
    ∷ query_code (weighing 1 10 (asked 2 1 5))
    ∷ query_code (weighing 0 0 (asked 2 1 40001))
    ∷ open_code (weighing 0 0 (asked 2 1 5)) (old_table (pos 1 ∷ [])) (old_table [])
    ∷ []

pub weights_in_order : weight_codes ≡ 0 ∷ 12 ∷ 12 ∷ 12 ∷ 3 ∷ 12 ∷ []
unfolding run
weights_in_order = refl

-- the worked query at other weights: the sums of its list, and what it reads
abbrev weighed_sums : ℕ → ℕ → List ℕ
weighed_sums v w = map (λ p. p.sum) (list (weighing v w query) fields trims)

pub sums_3_1 : weighed_sums 3 1 ≡ 320 ∷ 270 ∷ []
unfolding run
sums_3_1 = refl

pub sums_1_3 : weighed_sums 1 3 ≡ 240 ∷ 170 ∷ []
unfolding run
sums_1_3 = refl

-- Three rows each, no two of which qualify, a trim score counting twice. Two of each are read: the field table's score
-- dropped by 10, the trim table's by 6, which is 12.
abbrev apart : ℤ → List ℤ → Table
apart a scores = old_table (each (λ score. pos 1 ∷ score ∷ a ∷ pos 0 ∷ []) scores)

abbrev tens : Table
tens = apart (pos 0) (pos 20 ∷ pos 10 ∷ pos 0 ∷ [])

abbrev sixes_at : ℤ → Table
sixes_at a = apart a (pos 20 ∷ pos 14 ∷ pos 0 ∷ [])

abbrev sixes : Table
sixes = sixes_at (pos 9)

abbrev read_twice : Session
read_twice =
    let q = weighing 1 2 (asked 1 1 0) in
    read_until_settled 4 tens sixes (open_call q tens sixes).session

-- the field table is next: its drop, 10, is the smaller one
pub drops_weighted : field_next tens sixes read_twice ≡ true
unfolding run
drops_weighted = refl

-- 20 and twice 14, or 10 and twice 20
pub ceiling_weighted : ceiling tens sixes read_twice ≡ 50
unfolding run
ceiling_weighted = refl

-- at one place, 10 and twice 14 is not below a held sum of 30, though 10 and 14 is
abbrev one_held : Session
one_held =
    let s = read_twice in
    record {
      query = s.query;
      rows = s.rows;
      depth = s.depth;
      last = s.last;
      out = 0;
      held = 1;
      pairs = places (record { sum = 30; field = 1; trim = 1 } ∷ []);
      joined = s.joined;
    }

pub skipping_weighted : skipped one_held (rows_between tens 1 2) (rows_between (sixes_at (pos 0)) 1 2) ≡ false
unfolding run
skipping_weighted = refl

-- ---- Withdrawn rows

-- three rows at one place, by their scores
abbrev together : List ℤ → Table
together scores = old_table (each (λ score. pos 1 ∷ score ∷ pos 0 ∷ pos 0 ∷ []) scores)

abbrev one_live : Table
one_live = together (pos 5 ∷ pos 0 ∷ pos 0 ∷ [])

abbrev all_live : Table
all_live = together (pos 4 ∷ pos 3 ∷ pos 2 ∷ [])

abbrev none_live : Table
none_live = together (pos 0 ∷ pos 0 ∷ [])

-- no pair with a withdrawn row is listed
pub withdrawn_unlisted : map (λ p. p.sum) (list (asked 64 1 0) one_live all_live) ≡ 9 ∷ 8 ∷ 7 ∷ []
unfolding run
withdrawn_unlisted = refl

-- a table is read out once a withdrawn row is read, wherever it stands, and empty once it is the first
pub second_reads_out : read_out one_live 3 1 ∷ read_out one_live 3 2 ∷ is_empty one_live 3 2 ∷ [] ≡ false ∷ true
    ∷ false ∷ []
unfolding run
second_reads_out = refl

pub first_empties : is_empty none_live 2 0 ∷ is_empty none_live 2 1 ∷ read_out none_live 2 1 ∷ [] ≡ false ∷ true ∷ true
    ∷ []
unfolding run
first_empties = refl

-- two field rows and one trim row read: only an unread trim row with the first field row is left to fear
pub ceiling_past_withdrawn : ceiling one_live all_live (read_until_settled 3 one_live all_live
    (open_call (asked 64 1 0) one_live all_live).session)
    ≡ 9
unfolding run
ceiling_past_withdrawn = refl

-- a field table that begins with a withdrawn row: not settled at opening, settled after one block, no trim read
abbrev depths_of : Session → List ℕ
depths_of s = s.depth.field.0 ∷ s.depth.trim.0 ∷ []

pub begins_withdrawn : depths_of (settled_session (asked 1 1 0) none_live all_live)
    ∷ depths_of (settled_session (asked 1 1 0) all_live none_live)
    ∷ depths_of (settled_session (asked 1 1 0) none_live (old_table []))
    ∷ [] ≡ (1 ∷ 0 ∷ []) ∷ (1 ∷ 1 ∷ []) ∷ (0 ∷ 0 ∷ []) ∷ []
unfolding run
begins_withdrawn = refl

-- ---- Blocks of far shades: of one block each, a list that is not full and radius 5, how many block pairs are joined

abbrev pub joined_at5 : Table → Table → ℕ
joined_at5 x y = (settled_session (asked 1 2 5) x y).joined

abbrev at : ℤ → ℤ → Table
at a b = old_table (pos 1 ∷ pos 9 ∷ a ∷ b ∷ [])

-- by both gaps at once, joined at equality, by either gap alone; a skipped block pair is not counted
pub both_gaps : map (joined_at5 (at (pos 0) (pos 0)))
    (at (pos 3) (pos 4)
    ∷ at (pos 4) (pos 4)
    ∷ at (pos 5) (pos 0)
    ∷ at (pos 6) (pos 0)
    ∷ at (pos 0) (pos 5)
    ∷ at (pos 0) (pos 6)
    ∷ [])
    ≡ 1 ∷ 0 ∷ 1 ∷ 0 ∷ 1 ∷ 0 ∷ []
unfolding run
both_gaps = refl

-- two rows at 20 and 0, the second of this score: beside the second, between the two and beside the first
abbrev two : ℤ → Table
two score = old_table (pos 1 ∷ pos 9 ∷ pos 20 ∷ pos 0 ∷ pos 1 ∷ score ∷ pos 0 ∷ pos 0 ∷ [])

abbrev beside : List Table
beside = map (λ a. at a (pos 0)) (negsuc 5 ∷ negsuc 4 ∷ pos 10 ∷ pos 25 ∷ pos 26 ∷ [])

pub all_rows : map (joined_at5 (two (pos 8))) beside ≡ 0 ∷ 1 ∷ 1 ∷ 1 ∷ 0 ∷ []
unfolding run
all_rows = refl

pub withdrawn_too : map (joined_at5 (two (pos 0))) beside ≡ 0 ∷ 1 ∷ 1 ∷ 1 ∷ 0 ∷ []
unfolding run
withdrawn_too = refl

pub trims_too : map (λ x. joined_at5 x (two (pos 0))) beside ≡ 0 ∷ 1 ∷ 1 ∷ 1 ∷ 0 ∷ []
unfolding run
trims_too = refl

-- ---- What a refused reading leaves in the oldTable numbers: a bad column in the second row, and too short a slice

abbrev two_rows : String
two_rows = "     2     1\n     7     9      0      0\n     8     9      0     -0\n"

abbrev one_row : String
one_row = "     1     1\n     7     9      0      0\n"

pub refused_leaves :
    load_numbers (bytes two_rows) (pos 1) (replicate 8 (pos 5))
    ∷ load_numbers (bytes one_row) (pos 1) (replicate 3 (pos 5))
    ∷ []
    ≡ replicate 8 (pos 5) ∷ replicate 3 (pos 5) ∷ []
unfolding run
refused_leaves = refl

-- ---- Distance in whole steps

abbrev squares : List ℕ
squares = 0 ∷ 1 ∷ 2 ∷ 3 ∷ 4 ∷ 24 ∷ 25 ∷ 26 ∷ 35 ∷ 36 ∷ []

pub roots : map root squares ≡ 0 ∷ 1 ∷ 1 ∷ 1 ∷ 2 ∷ 4 ∷ 5 ∷ 5 ∷ 5 ∷ 6 ∷ []
unfolding run
roots = refl

pub remainders : map remainder squares ≡ 0 ∷ 0 ∷ 1 ∷ 2 ∷ 0 ∷ 8 ∷ 0 ∷ 1 ∷ 10 ∷ 0 ∷ []
unfolding run
remainders = refl

abbrev one : Table
one = old_table (pos 7 ∷ pos 90 ∷ pos 0 ∷ pos 0 ∷ [])

abbrev near : Table
near = old_table (pos 8 ∷ pos 50 ∷ pos 1 ∷ pos 5 ∷ [])

-- "For 25 it prints 5 and 0" stands in the worked query; "for 26, 5 and 1"
pub prints_26 :
    pair_line one near 1 (record { sum = 140; field = 1; trim = 1 })
    ≡ bytes "     1   140     7     8       5       1\n"
unfolding run
prints_26 = refl
