-- docs/RULES.md, "The session". Definitions only. Assumes nothing.
use Rattle.std.specs.Prelude.{ℕ, zero, suc, ◌+◌, ◌-◌, max, Bool, true, false, cond, ◌&&◌, ◌||◌, not, List, [], ◌++◌}
use Rattle.std.specs.Prelude.{leb, ltb, eqb, ℤ, length, take, replicate}
use Rattle.lists.specs.Lists.{every}
use Rattle.rules.specs.declared.TwoTables.{TwoTables}
use Rattle.rules.specs.declared.Meaning.TheVariants.{Possibly}
use Rattle.rules.specs.declared.Pair.{Pair}
use Rattle.rules.specs.declared.Tolerances.{Tolerances}
use Rattle.rules.specs.declared.Weights.{Weights}
use Rattle.rules.specs.declared.Query.{Query}
use Rattle.rules.specs.declared.Session.{Session}
use Rattle.rules.specs.Tables.{Table, table, row_count, unsatisfiable, Row, row, withdrawn, Terms, terms}

abbrev pub no_pair : Pair
no_pair = record { sum = 0; field = 0; trim = 0 }

-- "Of its 64 pair places"
abbrev pub place_count : ℕ
place_count = 64

-- the pair places with these pairs in front: "those beyond the held pairs are zeros"
unfoldable pub places : List Pair → List Pair
places l = l ++ replicate (place_count - length l) no_pair

-- what opening fixes of two tables: their row counts, and "keeps the card in the record"
abbrev pub two_tables : Table → Table → TwoTables
two_tables f t =
    record { field = record { 0 = row_count f }; trim = record { 0 = row_count t }; card = f.coordinates }

-- lent numbers as a table, on a record's card
abbrev pub lent_table : Session → List ℤ → Table
lent_table s l = table s.rows.card l

-- "Opening gives a record with nothing read": of a query and two tables
unfoldable pub opened : Query → TwoTables → Session
opened q tables =
    record {
      query = q;
      rows = tables;
      depth = record { field = record { 0 = 0 }; trim = record { 0 = 0 } };
      last = 0;
      out = 0;
      held = 0;
      pairs = places [];
      joined = 0;
    }

-- a weight of the field table and one of the trim table
abbrev pub weights : ℕ → ℕ → Weights
weights v w = record { field = record { 0 = v }; trim = record { 0 = w } }

-- a tolerance of each
abbrev pub tolerances : ℕ → ℕ → Tolerances
tolerances u v = record { field = record { 0 = u }; trim = record { 0 = v } }

-- a query of shades that are known: "0 in the programs". What is made of tolerances 0 and 0 is all the same.
abbrev pub exact_query : ℕ → ℕ → ℕ → Weights → Query
exact_query k block radius w =
    record {
      k = k;
      block = block;
      radius = radius;
      weights = w;
      tolerances = tolerances 0 0;
      meaning = Possibly;
    }

-- "its record is all zeros"
unfoldable pub zeros : Session
zeros =
    opened (exact_query 0 0 0 (weights 0 0))
    (record { field = record { 0 = 0 }; trim = record { 0 = 0 }; card = 0 })

-- "pairs held (at most k less those out, ranked ..)": those in the first places
abbrev pub held_pairs : Session → List Pair
held_pairs s = take s.held s.pairs

-- Scores below are what a row adds to a sum: of one table's rows, by its terms.

-- "HF and HT are the scores of the first rows"
abbrev pub first_score : (Row → ℕ) → Table → ℕ
first_score score t = score (row t 0)

-- "LF and LT those of the last rows read"
abbrev pub last_score : (Row → ℕ) → Table → ℕ → ℕ
last_score score t depth = score (row t (depth - 1))

-- whether a withdrawn row is among the first n of a table
unfoldable pub withdrawn_within : Table → ℕ → Bool
withdrawn_within t zero = false
withdrawn_within t (suc n) = withdrawn_within t n || withdrawn (row t n)

-- "read out", of a table, its row count and a depth: all its rows are read; "Because scores fall, a table counts as
-- read out .. once a row of score 0 has been read"
unfoldable pub read_out : Table → ℕ → ℕ → Bool
read_out t rows depth = eqb depth rows || withdrawn_within t depth

-- "empty", of the same: it has no rows; "and as empty once such a first row has been read"
unfoldable pub is_empty : Table → ℕ → ℕ → Bool
is_empty t rows depth = eqb rows 0 || (ltb 0 depth && withdrawn (row t 0))

abbrev pub field_read_out : Table → Session → Bool
field_read_out f s = read_out f s.rows.field.0 s.depth.field.0

abbrev pub trim_read_out : Table → Session → Bool
trim_read_out t s = read_out t s.rows.trim.0 s.depth.trim.0

abbrev pub both_read_out : Table → Table → Session → Bool
both_read_out f t s = field_read_out f s && trim_read_out t s

abbrev pub a_table_is_empty : Table → Table → Session → Bool
a_table_is_empty f t s =
    is_empty f s.rows.field.0 s.depth.field.0 || is_empty t s.rows.trim.0 s.depth.trim.0

-- no pair of the tables can meet the query: it "is settled at opening"
abbrev pub nothing_qualifies : Session → Bool
nothing_qualifies s = unsatisfiable s.query s.rows.card

abbrev pub a_depth_is_zero : Session → Bool
a_depth_is_zero s = eqb s.depth.field.0 0 || eqb s.depth.trim.0 0

-- A rule that looks at scores is stated over the terms that a query comes to, under a name that ends in By; the rule
-- itself is it at `terms`.

-- "Ceiling: the higher of HF + LT, if trim rows are unread, and LF + HT, if field rows are unread."
-- The threshold that a held pair is judged by; a part that is not there counts as 0.
unfoldable pub ceiling_by : (Query → Terms) → Table → Table → Session → ℕ
ceiling_by g f t s =
    let w = g s.query in
    max
    (cond (trim_read_out t s) 0 (first_score w.field f + last_score w.trim t s.depth.trim.0))
    (cond (field_read_out f s) 0 (last_score w.field f s.depth.field.0 + first_score w.trim t))

abbrev pub ceiling : Table → Table → Session → ℕ
ceiling = ceiling_by terms

-- "While a depth is 0 and both tables have rows, nothing is secured. When both are read out, everything held is
-- secured. Otherwise a held pair is secured if its sum is at least the ceiling."
unfoldable pub secured_by : (Query → Terms) → Table → Table → Session → Pair → Bool
secured_by g f t s p =
    cond (a_depth_is_zero s && not (a_table_is_empty f t s)) false
    (cond (both_read_out f t s) true (leb (ceiling_by g f t s) p.sum))

abbrev pub secured : Table → Table → Session → Pair → Bool
secured = secured_by terms

-- "Settled: a table is empty, or both are read out, or k pairs are out, or out plus held is k and every held pair
-- is secured."; or nothing can qualify
unfoldable pub settled_by : (Query → Terms) → Table → Table → Session → Bool
settled_by g f t s =
    nothing_qualifies s
    || (a_table_is_empty f t s
    || (both_read_out f t s
    || (eqb s.out s.query.k
    || (eqb (s.out + s.held) s.query.k && every (secured_by g f t s) (held_pairs s)))))

abbrev pub settled : Table → Table → Session → Bool
settled = settled_by terms
