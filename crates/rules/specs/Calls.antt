-- docs/RULES.md, "Refusals": the grounds of each refusal, the order of checks, and with them the calls:
-- opening, read, take, show. Definitions only. Assumes nothing.
use Rattle.std.specs.Prelude.{ℕ, zero, suc, ◌+◌, ◌*◌, ◌-◌, ◌%◌, Bool, false, cond, ◌&&◌, ◌||◌, not, List, [], ◌∷◌, leb}
use Rattle.std.specs.Prelude.{ltb, eqb, ℤ, drop}
use Rattle.lists.specs.Lists.{every, all, ranked}
use Rattle.rules.specs.declared.Card.TheVariants.{Old, New}
use Rattle.rules.specs.declared.Pair.{Pair}
use Rattle.rules.specs.declared.Query.{Query}
use Rattle.rules.specs.declared.Session.{Session}
use Rattle.rules.specs.declared.Step.{Step}
use Rattle.rules.specs.declared.Answer.{Answer}
use Rattle.rules.specs.declared.Answer.TheVariants.{Opened, Read, Settled, Given, NotYet, Finished}
use Rattle.rules.specs.Tables.{Table, coordinates, Terms, terms, width, most_rows, row_count, row_in_range}
use Rattle.rules.specs.Tables.{row_in_order}
use Rattle.rules.specs.Tables.{size_fits, ahead}
use Rattle.rules.specs.Session.{two_tables, opened, zeros, held_pairs, nothing_qualifies, settled_by}
use Rattle.rules.specs.Read.{block_count, field_next_by, old_depth, new_depth, read_block_by}
use Rattle.rules.specs.Take.{first_held, gives_pair_by, moved_out, finished, last_block, shown_rows}
use Rattle.rules.specs.Numbers.{list_length, block_size, radius_range, weight_range, table_size, bad_record, row_limit}
use Rattle.rules.specs.Numbers.{row_order, wrong_kind, other_card, tolerance_range, unless, first, refused}

abbrev pub between : ℕ → ℕ → ℕ → Bool
between low high n = leb low n && leb n high

-- "a tolerance, 0 to 500"
abbrev pub most_tolerance : ℕ
most_tolerance = 500

-- 1, 2, 3, 12, 16: the query's numbers
unfoldable pub query_code : Query → ℕ
query_code q =
    first
    (unless (between 1 64 q.k) list_length
    ∷ unless (between 1 1024 q.block) block_size
    ∷ unless (leb q.radius 40000) radius_range
    ∷ unless (between 1 9 q.weights.field.0) weight_range
    ∷ unless (between 1 9 q.weights.trim.0) weight_range
    ∷ unless (leb q.tolerances.field.0 most_tolerance) tolerance_range
    ∷ unless (leb q.tolerances.trim.0 most_tolerance) tolerance_range
    ∷ [])

-- 4, at opening: "slice length not a multiple of" a row's numbers, "more than 65,535 rows"
unfoldable pub size_code : Table → ℕ
size_code t = unless (size_fits t) table_size

-- 4, later: "or a row count other than at opening"
unfoldable pub same_size_code : ℕ → Table → ℕ
same_size_code rows t = unless (size_fits t && eqb (row_count t) rows) table_size

-- 6 and 7 for row i + 1: "6 before 7"
unfoldable pub row_code : Table → ℕ → ℕ
row_code t i = first (unless (row_in_range t i) row_limit ∷ unless (row_in_order t i) row_order ∷ [])

-- "6 and 7 .. row by row": rows a + 1 to a + n
unfoldable pub rows_code : Table → ℕ → ℕ → ℕ
rows_code t a zero = 0
rows_code t a (suc n) = first (rows_code t a n ∷ row_code t (a + n) ∷ [])

-- 5, table by table: "a row count exceeds 65,535, a depth exceeds its rows or is neither a multiple of the block nor
-- all rows"
unfoldable pub counts_fit : ℕ → ℕ → ℕ → Bool
counts_fit block rows depth =
    leb rows most_rows && (leb depth rows && (eqb (depth % block) 0 || eqb depth rows))

-- "the largest held sum is 179,982", whatever the weights
abbrev pub most_sum : ℕ
most_sum = 179982

-- 5, pair by pair: "a held pair's row is outside 1 to the depth", or its sum
unfoldable pub pair_fits : Session → Pair → Bool
pair_fits s p =
    between 1 s.depth.field.0 p.field
    && (between 1 s.depth.trim.0 p.trim && leb p.sum most_sum)

-- 5: "the last-read mark isn't 0 to 2, names a table of depth 0 or is 0 though a depth isn't"
unfoldable pub mark_fits : Session → Bool
mark_fits s =
    cond (eqb s.last 0) (eqb s.depth.field.0 0 && eqb s.depth.trim.0 0)
    (cond (eqb s.last 1) (ltb 0 s.depth.field.0)
    (cond (eqb s.last 2) (ltb 0 s.depth.trim.0) false))

abbrev pub is_zeros : Pair → Bool
is_zeros p = eqb p.sum 0 && (eqb p.field 0 && eqb p.trim 0)

-- 5: "a card that is neither of the two", by the number of its coordinates
abbrev pub is_card : ℕ → Bool
is_card n = eqb n (coordinates Old) || eqb n (coordinates New)

-- 5: of a query that nothing can meet "a record of it with rows read"
unfoldable pub depths_fit : Session → Bool
depths_fit s = not (nothing_qualifies s) || (eqb s.depth.field.0 0 && eqb s.depth.trim.0 0)

-- 5: its grounds, in the rules' order, as tests that must all pass
abbrev pub record_grounds : Session → List Bool
record_grounds s =
    eqb (query_code s.query) 0
    ∷ counts_fit s.query.block s.rows.field.0 s.depth.field.0
    ∷ counts_fit s.query.block s.rows.trim.0 s.depth.trim.0
    ∷ leb (s.out + s.held) s.query.k
    ∷ every (pair_fits s) (held_pairs s)
    ∷ ranked ahead (held_pairs s)
    ∷ mark_fits s
    ∷ every is_zeros (drop s.held s.pairs)
    ∷ leb s.joined
    (block_count s.query.block s.depth.field.0 * block_count s.query.block s.depth.trim.0)
    ∷ is_card s.rows.card
    ∷ depths_fit s
    ∷ []

unfoldable pub record_fits : Session → Bool
record_fits s = all (record_grounds s)

unfoldable pub record_code : Session → ℕ
record_code s = unless (record_fits s) bad_record

-- 5, 4: what show looks at, and read and take look at first
unfoldable pub lent_code : Table → Table → Session → ℕ
lent_code f t s =
    first (record_code s ∷ same_size_code s.rows.field.0 f ∷ same_size_code s.rows.trim.0 t ∷ [])

-- "Read and take check 5, 4, then 6 and 7 over the rows up to the depths, field first"
unfoldable pub call_code : Table → Table → Session → ℕ
call_code f t s =
    first (lent_code f t s ∷ rows_code f 0 s.depth.field.0 ∷ rows_code t 0 s.depth.trim.0 ∷ [])

-- "else it checks its new block by 6 and 7"
unfoldable pub new_block_code_by : (Query → Terms) → Table → Table → Session → ℕ
new_block_code_by g f t s =
    let field = field_next_by g f t s in
    rows_code (cond field f t) (old_depth field s) (new_depth field s - old_depth field s)

abbrev pub new_block_code : Table → Table → Session → ℕ
new_block_code = new_block_code_by terms

abbrev pub step : Answer → Session → Step
step a s = record { answer = a; session = s }

-- 10: a kind that is not the table's has no card
unfoldable pub kind_code : Table → ℕ
kind_code t = unless (is_card t.coordinates) wrong_kind

-- 15, "the two tables opened .. are on different cards"
unfoldable pub cards_code : Table → Table → ℕ
cards_code f t = unless (eqb f.coordinates t.coordinates) other_card

-- "Opening checks 1, 2, 3, 4 (field, then trim), 12 after 3", 16 "between 12 and 10", 10 "just before 4", of both
-- tables, 15 "after the 4 of both"; "refused, its record is all zeros."
unfoldable pub open_code : Query → Table → Table → ℕ
open_code q f t = first (query_code q ∷ kind_code f ∷ kind_code t ∷ size_code f ∷ size_code t ∷ cards_code f t ∷ [])

unfoldable pub open_call : Query → Table → Table → Step
open_call q f t =
    cond (eqb (open_code q f t) 0) (step Opened (opened q (two_tables f t)))
    (step (refused (open_code q f t)) zeros)

-- Read. "A refused read or take returns the record it was given." "In a settled session it answers "settled", reads
-- nothing and gives back the same record."
unfoldable pub read_call_by : (Query → Terms) → Table → Table → Session → Step
read_call_by g f t s =
    let new = new_block_code_by g f t s in
    cond (eqb (call_code f t s) 0)
    (cond (settled_by g f t s) (step Settled s)
    (cond (eqb new 0) (step Read (read_block_by g f t s)) (step (refused new) s)))
    (step (refused (call_code f t s)) s)

abbrev pub read_call : Table → Table → Session → Step
read_call = read_call_by terms

-- Take. "It answers the first held pair, if secured, and moves it out. "Finished" if .. Else "not yet". Only an
-- answered pair changes the record."
unfoldable pub take_call_by : (Query → Terms) → Table → Table → Session → Step
take_call_by g f t s =
    cond (eqb (call_code f t s) 0)
    (cond (gives_pair_by g f t s) (step (Given (first_held s)) (moved_out s))
    (cond (finished f t s) (step Finished s) (step NotYet s)))
    (step (refused (call_code f t s)) s)

abbrev pub take_call : Table → Table → Session → Step
take_call = take_call_by terms

-- Show. "Nothing read, or a refusal by 5 or 4: the empty part at the front of the field table, and no number goes with
-- it."
unfoldable pub show_call : Table → Table → Session → List ℤ
show_call f t s = cond (eqb (lent_code f t s) 0) (shown_rows f t s) []

-- a place in memory, as block and byte, moved on by n numbers of four bytes each
abbrev pub moved_on : ℕ × ℕ → ℕ → ℕ × ℕ
moved_on place n = (place.0, n * 4 + place.1)

-- where what show returns stands in memory, of the places where the two lent tables stand: it is a part of one of them
unfoldable pub show_place : Table → Table → ℕ × ℕ → ℕ × ℕ → Session → ℕ × ℕ
show_place f t atField atTrim s =
    let b = s.query.block in
    cond (eqb (lent_code f t s) 0)
    (cond (eqb s.last 1) (moved_on atField (width f.coordinates * last_block b s.depth.field.0))
    (cond (eqb s.last 2) (moved_on atTrim (width t.coordinates * last_block b s.depth.trim.0)) atField))
    atField
