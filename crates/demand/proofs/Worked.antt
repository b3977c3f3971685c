-- Demand 3 at the rules' worked query: five reads, a take, a call that is lent other slices and refused, three
-- reads, a take, and a take that says finished. What each part says there, with its numbers. Assumes nothing.
use Rattle.std.specs.Prelude.{ℕ, ◌≤◌, ◌≡◌, refl, true, List, [], ◌∷◌, map, ℤ, pos, length, get_or, take, drop}
use Rattle.std.proofs.Common.{sym, ap, ◌∙◌, inl, inr, ⊎_elim, arith, lit≤}
use Rattle.lists.specs.Lists.{at_least, best}
use Rattle.rules.specs.declared.Query.{Query}
use Rattle.rules.specs.declared.Pair.{Pair}
use Rattle.rules.specs.declared.Session.{Session}
use Rattle.rules.specs.declared.Step.{Step}
use Rattle.rules.specs.declared.Answer.{Answer}
use Rattle.rules.specs.declared.Answer.TheVariants.{Opened, Read, Given, Finished}
use Rattle.rules.specs.Tables.{Table, old_table, nat_of, Row, row, rows_qualify}
use Rattle.rules.specs.Session.{weights, exact_query}
use Rattle.rules.specs.Sure.{Sure, qualifying_sums}
use Rattle.rules.specs.Calls.{open_call}
use Rattle.rules.specs.Run.{run}
use Rattle.rules.specs.Numbers.{refused}
use Rattle.rules.proofs.Example as Example
use Rattle.tables_join.specs.Sure.{is_sure, read_out_by, empty_by, ceiling_at, sure_is_test}
use Rattle.demand.specs.Demand.{reading, taking, Line, Sequence, Qualifying, sum_of, outs, IsIn, Out, last_record}
use Rattle.demand.specs.Demand.{by_rules, over, answers_over, Alike, Brought, Demand3}
use Rattle.demand.specs.Proved.{demand3}
use Rattle.demand.proofs.Uses.{finished_highest}
use Rattle.demand.specs.Transcript.{field_rows, trim_rows, Asked, own, astray, ruled_line, transcript, lending}
use Rattle.demand.specs.Transcript.{lent, follows}

abbrev pub four_numbers : ℤ → ℤ → ℤ → ℤ → List ℤ → List ℤ
four_numbers n s a b rest = n ∷ s ∷ a ∷ b ∷ rest

-- the rules' two tables, but for the fifth rows
abbrev fields_to : List ℤ → Table
fields_to rest =
    old_table
    (four_numbers (pos 101) (pos 90) (pos 0) (pos 0)
    (four_numbers (pos 102) (pos 80) (pos 100) (pos 0)
    (four_numbers (pos 103) (pos 60) (pos 0) (pos 300) (four_numbers (pos 104) (pos 40) (pos 500) (pos 500) rest))))

abbrev trims_to : List ℤ → Table
trims_to rest =
    old_table
    (four_numbers (pos 201) (pos 70) (pos 400) (pos 0)
    (four_numbers (pos 202) (pos 50) (pos 3) (pos 4)
    (four_numbers (pos 203) (pos 30) (pos 100) (pos 5) (four_numbers (pos 204) (pos 20) (pos 0) (pos 300) rest))))

abbrev pub fields : Table
fields = fields_to (four_numbers (pos 105) (pos 10) (pos 0) (pos 0) [])

abbrev pub trims : Table
trims = trims_to (four_numbers (pos 205) (pos 15) (pos 500) (pos 500) [])

-- they are the files' tables
pub same_tables : (fields ≡ Example.fields) × (trims ≡ Example.trims)
unfolding run
same_tables = (refl, refl)

abbrev pub query : Query
query = exact_query 2 1 5 (weights 1 1)

abbrev pub begun : Session
begun = (open_call query fields trims).session

abbrev reads : Asked
reads = own reading

abbrev takes : Asked
takes = own taking

-- lent no field table at all
abbrev strays : Asked
strays = astray taking [] trims.numbers

abbrev pub calls : List Asked
calls =
    reads ∷ reads ∷ reads ∷ reads ∷ reads ∷ takes ∷ strays ∷ reads ∷ reads ∷ reads ∷ takes ∷ takes ∷ []

abbrev pub lines : List Line
lines = transcript begun (map (lent fields trims) calls)

pub sequence : Sequence query fields trims (open_call query fields trims) lines
unfolding run
sequence =
    record {
      field_legal = refl;
      trim_legal = refl;
      opening_promised = refl;
      opening_accepted = refl;
      calls = follows fields trims begun calls refl;
    }

abbrev first : Pair
first = record { sum = 140; field = 1; trim = 2 }

abbrev second : Pair
second = record { sum = 110; field = 2; trim = 3 }

-- what the sequence is: its answers, the pairs out, the depths
abbrev twelve : List Answer
twelve =
    Read ∷ Read ∷ Read ∷ Read ∷ Read ∷ Given first ∷ refused 4 ∷ Read ∷ Read ∷ Read ∷ Given second ∷ Finished ∷ []

pub answers : map (λ l. l.gave.answer) lines ≡ twelve
unfolding run
answers = refl

pub out : outs lines ≡ first ∷ second ∷ []
unfolding run
out = refl

pub last_depths : ((last_record begun lines).depth.field.0 ≡ 4) × ((last_record begun lines).depth.trim.0 ≡ 4)
unfolding run
last_depths = (refl, refl)

-- ---- The theorem at this sequence, and what each of its parts says here

pub worked_demand : Demand3 query fields trims (open_call query fields trims) lines
worked_demand = demand3 query fields trims (open_call query fields trims) lines sequence

-- the first n lines, and line n + 1
abbrev first_lines : ℕ → List Line
first_lines n = take n lines

abbrev line_at : ℕ → Line
line_at n = get_or lines n (ruled_line begun (lent fields trims reads))

-- the sixth call brings out the first pair, nothing being out; the eleventh the second, the first being out
first_brought : Brought query fields trims (first_lines 5) first
unfolding run
first_brought = worked_demand.brought (first_lines 5) (drop 6 lines) (line_at 5) first refl refl

second_brought : Brought query fields trims (first_lines 10) second
unfolding run
second_brought = worked_demand.brought (first_lines 10) (drop 11 lines) (line_at 10) second refl refl

abbrev pattern_at : ℕ → ℕ → ℤ → ℤ → Row
pattern_at number score a b = record { pattern = number; score = score; shade = a ∷ b ∷ [] }

-- "Each pair brought out qualifies,"
pub qualify : (rows_qualify query (pattern_at 101 90 (pos 0) (pos 0)) (pattern_at 202 50 (pos 3) (pos 4)) ≡ true)
    × (rows_qualify query (pattern_at 102 80 (pos 100) (pos 0)) (pattern_at 203 30 (pos 100) (pos 5)) ≡ true)
unfolding row
qualify = (first_brought.qualifying.near, second_brought.qualifying.near)

-- "carries its own sum"
pub own_sums : (140 ≡ sum_of query fields trims 1 2) × (110 ≡ sum_of query fields trims 2 3)
own_sums = (first_brought.own_sum, second_brought.own_sum)

-- "and wasn't out already."
pub both_new : (Out (first_lines 5) 1 2 → ⊥) × (Out (first_lines 10) 2 3 → ⊥)
both_new = (first_brought.new, second_brought.new)

-- "no qualifying pair that is not yet out has a higher sum, unread rows included"
pub none_higher : ((i j : ℕ) → Qualifying query fields trims i j → sum_of query fields trims i j ≤ 140)
    × ((i j : ℕ) → Qualifying query fields trims i j → ((1 ≡ i) × (2 ≡ j) → ⊥) → sum_of query fields trims i j ≤ 110)
unfolding run
none_higher = (
  λ i j k. first_brought.highest i j k (λ o. o),
  λ i j k other. second_brought.highest i j k (⊎_elim other (λ o. o)),
)

-- "When a call says finished, as many pairs as wanted are out or every qualifying pair is": the pair of rows 3 and 4
-- qualifies and is not out, so two are out
third : Qualifying query fields trims 3 4
unfolding run
third = record { field_row = (lit≤ tt, lit≤ tt); trim_row = (lit≤ tt, lit≤ tt); near = refl }

third_left : IsIn (first ∷ second ∷ []) 3 4 → ⊥
third_left (inl e) = omega (arith, e.0)
third_left (inr (inl e)) = omega (arith, e.0)
third_left (inr (inr m)) = elim m [ ]

pub wanted_out : length (outs (first_lines 11)) ≡ 2
unfolding run
wanted_out =
    ⊎_elim (λ e. e) (λ all. absurd (third_left (all 3 4 third)))
    (worked_demand.finished (first_lines 11) [] (line_at 11) refl refl)

-- so their sums are the two highest
pub highest_two : 140 ∷ 110 ∷ [] ≡ best 2 (qualifying_sums query fields trims)
unfolding run
highest_two = finished_highest worked_demand refl refl (first_lines 11) [] (line_at 11) refl refl

-- "After the sequence no more than max(p, q) + block - 1 rows of either table have been read": four of each are sure
sure : Sure query fields trims (field_rows 4) (trim_rows 4)
unfolding run is_sure read_out_by empty_by ceiling_at qualifying_sums at_least
sure = (sure_is_test query refl fields trims refl refl (field_rows 4) (trim_rows 4) refl).1 refl

pub at_most_four : ((last_record begun lines).depth.field.0 ≤ 4) × ((last_record begun lines).depth.trim.0 ≤ 4)
at_most_four = worked_demand.row_limit_lem (field_rows 4) (trim_rows 4) sure

-- "Each answer and record, the opening's included, is the one that document 01 gives."
pub rules_answers : map (λ g. g.answer) (by_rules begun lines) ≡ twelve
unfolding run
rules_answers = ap (map (λ g. g.answer)) (sym worked_demand.by_rules_lem.1)

-- rows read of each table and pairs out
abbrev counts : Step → ℕ × ℕ × ℕ
counts g = (g.session.depth.field.0, g.session.depth.trim.0, g.session.out)

pub rules_records : map counts (by_rules begun lines) ≡
    (1, 0, 0) ∷ (1, 1, 0) ∷ (2, 1, 0) ∷ (2, 2, 0) ∷ (3, 2, 0) ∷ (3, 2, 1) ∷ (3, 2, 1)
    ∷ (3, 3, 1) ∷ (4, 3, 1) ∷ (4, 4, 1) ∷ (4, 4, 2) ∷ (4, 4, 2) ∷ []
unfolding run
rules_records = ap (map counts) (sym worked_demand.by_rules_lem.1)

-- ---- Two other tables, unlike in the fifth rows, which were not read; both of these would qualify with a row above

abbrev other_fields : Table
other_fields = fields_to (four_numbers (pos 106) (pos 40) (pos 100) (pos 0) [])

abbrev other_trims : Table
other_trims = trims_to (four_numbers (pos 206) (pos 20) (pos 100) (pos 0) [])

fields_alike : Alike fields other_fields (last_record begun lines).depth.field.0
unfolding run
fields_alike = record { lawful = refl; count = refl; rows = refl }

trims_alike : Alike trims other_trims (last_record begun lines).depth.trim.0
unfolding run
trims_alike = record { lawful = refl; count = refl; rows = refl }

-- the same calls there: each lent the other tables, but for the one that was refused
pub calls_there : map (λ l. lending (over other_fields other_trims l)) lines ≡ map (lent other_fields other_trims) calls
unfolding run
calls_there = refl

-- "Legal tables alike in their row counts and in the rows read get the same answers."
pub opened_there : (open_call query other_fields other_trims).answer ≡ Opened
unfolding run
opened_there = (worked_demand.same_answers other_fields other_trims fields_alike trims_alike).0

pub answers_there : answers_over query other_fields other_trims lines ≡ twelve
answers_there = (worked_demand.same_answers other_fields other_trims fields_alike trims_alike).1 ∙ answers

-- they are other tables
pub unlike : (other_fields ≡ fields → ⊥) × (other_trims ≡ trims → ⊥)
unlike = (
  λ e. omega (arith, ap (λ t. nat_of (get_or t.numbers 16 (pos 0))) e),
  λ e. omega (arith, ap (λ t. nat_of (get_or t.numbers 16 (pos 0))) e),
)
