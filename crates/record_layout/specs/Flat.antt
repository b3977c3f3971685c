-- The session's record laid out flat: 210 numbers of 32 bits, as include/furzeladle.h lists them. Definitions only.
-- Assumes nothing.
use Rattle.std.specs.Prelude.{ℕ, ◌+◌, ◌*◌, ◌/◌, ◌%◌, List, [], ◌∷◌, ◌++◌, map, length, get_or, take, drop}
use Rattle.lists.specs.Lists.{range, each}
use Rattle.rules.specs.declared.Pair.{Pair}
use Rattle.rules.specs.declared.Kinds.{Kinds}
use Rattle.rules.specs.declared.Meaning.{Meaning}
use Rattle.rules.specs.declared.Query.{Query}
use Rattle.rules.specs.declared.Tolerances.{Tolerances}
use Rattle.rules.specs.declared.Weights.{Weights}
use Rattle.rules.specs.declared.Session.{Session}
use Rattle.rules.specs.declared.Answer.TheVariants.{Given}
use Rattle.rules.specs.Session.{place_count, weights, tolerances}
use Rattle.rules.specs.Numbers.{said}
pub use Rattle.rules.specs.Numbers.{meaning_number, meaning_of}

-- Where a record's numbers stand: first three of the query's
abbrev pub k_at : ℕ
k_at = 0

abbrev pub block_rows_at : ℕ
block_rows_at = 1

abbrev pub radius_at : ℕ
radius_at = 2

abbrev pub field_rows_at : ℕ
field_rows_at = 3

abbrev pub trim_rows_at : ℕ
trim_rows_at = 4

abbrev pub field_depth_at : ℕ
field_depth_at = 5

abbrev pub trim_depth_at : ℕ
trim_depth_at = 6

abbrev pub last_at : ℕ
last_at = 7

abbrev pub out_at : ℕ
out_at = 8

abbrev pub held_at : ℕ
held_at = 9

-- block pairs joined: its low 32 bits, and the rest
abbrev pub joined_at : ℕ
joined_at = 10

abbrev pub joined_high_at : ℕ
joined_high_at = 11

-- the pair places
abbrev pub pairs_at : ℕ
pairs_at = 12

-- a lent query: k, block, radius as in a record, then its two weights, the tables' two kinds, its two tolerances and
-- its meaning, which need not be lent
abbrev pub field_weight_in_query : ℕ
field_weight_in_query = 3

abbrev pub trim_weight_in_query : ℕ
trim_weight_in_query = 4

abbrev pub field_kind_in_query : ℕ
field_kind_in_query = 5

abbrev pub trim_kind_in_query : ℕ
trim_kind_in_query = 6

abbrev pub field_tolerance_in_query : ℕ
field_tolerance_in_query = 7

abbrev pub trim_tolerance_in_query : ℕ
trim_tolerance_in_query = 8

abbrev pub meaning_in_query : ℕ
meaning_in_query = 9

-- how many numbers a lent query is at least
abbrev pub query_size : ℕ
query_size = 3

-- a pair: sum, field row, trim row
abbrev pub pair_size : ℕ
pair_size = 3

-- pair place i + 1
abbrev pub pair_place : ℕ → ℕ
pair_place i = pairs_at + pair_size * i

-- behind the pair places the query's two weights
abbrev pub field_weight_at : ℕ
field_weight_at = pair_place place_count

abbrev pub trim_weight_at : ℕ
trim_weight_at = field_weight_at + 1

-- then the tables' card, by the number of its coordinates
abbrev pub card_at : ℕ
card_at = trim_weight_at + 1

-- and last the query's two tolerances and its meaning
abbrev pub field_tolerance_at : ℕ
field_tolerance_at = card_at + 1

abbrev pub trim_tolerance_at : ℕ
trim_tolerance_at = field_tolerance_at + 1

abbrev pub meaning_at : ℕ
meaning_at = trim_tolerance_at + 1

-- a record: 210
abbrev pub flat_size : ℕ
flat_size = meaning_at + 1

-- the first number above 32 bits
abbrev pub word : ℕ
word = 4294967296

-- numbers laid over a list from place o on, the rest untouched
abbrev pub laid_at : ℕ → List ℕ → List ℕ → List ℕ
laid_at o vs l = take o l ++ vs ++ drop (o + length vs) l

-- a pair's numbers are the values that go with it in an answer
unfoldable pub flat_pair : Pair → List ℕ
flat_pair p = (said (Given p)).values

-- the numbers in front of the pair places; joined stands last of them, its low 32 bits first
unfoldable pub flat_head : Session → List ℕ
flat_head s =
    s.query.k
    ∷ s.query.block
    ∷ s.query.radius
    ∷ s.rows.field.0
    ∷ s.rows.trim.0
    ∷ s.depth.field.0
    ∷ s.depth.trim.0
    ∷ s.last
    ∷ s.out
    ∷ s.held
    ∷ s.joined % word
    ∷ s.joined / word
    ∷ []

-- the numbers behind the pair places
unfoldable pub flat_tail : Session → List ℕ
flat_tail s =
    s.query.weights.field.0
    ∷ s.query.weights.trim.0
    ∷ s.rows.card
    ∷ s.query.tolerances.field.0
    ∷ s.query.tolerances.trim.0
    ∷ meaning_number s.query.meaning
    ∷ []

unfoldable pub flatten : Session → List ℕ
flatten s = flat_head s ++ each flat_pair s.pairs ++ flat_tail s

-- a record laid out at the front of a lent slice, the rest untouched
abbrev pub laid_in : List ℕ → Session → List ℕ
laid_in l s = flatten s ++ drop flat_size l

-- The way back: number i, of a query and of a record

-- the query that the first three numbers are, with these weights, tolerances and this meaning
unfoldable pub query_with : List ℕ → Weights → Tolerances → Meaning → Query
query_with l w t m =
    record {
      k = get_or l k_at 0;
      block = get_or l block_rows_at 0;
      radius = get_or l radius_at 0;
      weights = w;
      tolerances = t;
      meaning = m;
    }

-- a lent query: a weight that is not lent is 1, a tolerance and the meaning 0
unfoldable pub query_in : List ℕ → Query
query_in l =
    query_with l (weights (get_or l field_weight_in_query 1) (get_or l trim_weight_in_query 1))
    (tolerances (get_or l field_tolerance_in_query 0) (get_or l trim_tolerance_in_query 0))
    (meaning_of (get_or l meaning_in_query 0))

-- the kinds that go with it: a kind that is not lent is the old card's, 1 for field and 2 for trim
unfoldable pub kinds_in : List ℕ → Kinds
kinds_in l =
    record {
      field = record { 0 = get_or l field_kind_in_query 1 };
      trim = record { 0 = get_or l trim_kind_in_query 2 };
    }

unfoldable pub pair_in : List ℕ → ℕ → Pair
pair_in l i =
    record {
      sum = get_or l (pair_place i) 0;
      field = get_or l (pair_place i + 1) 0;
      trim = get_or l (pair_place i + 2)
          0;
    }

-- the first n pair places
unfoldable pub pairs_in : List ℕ → ℕ → List Pair
pairs_in l n = map (pair_in l) (range 0 n)

-- the record that the numbers in front of the pair places and behind them are, with these pairs in its places
unfoldable pub with_pairs : List ℕ → List Pair → Session
with_pairs l pairs =
    record {
      query =
          query_with l (weights (get_or l field_weight_at 0) (get_or l trim_weight_at 0))
          (tolerances (get_or l field_tolerance_at 0) (get_or l trim_tolerance_at 0))
          (meaning_of (get_or l meaning_at 0));
      rows =
          record {
            field = record { 0 = get_or l field_rows_at 0 };
            trim = record { 0 = get_or l trim_rows_at 0 };
            card = get_or l card_at 0;
          };
      depth = record {
        field = record { 0 = get_or l field_depth_at 0 };
        trim = record { 0 = get_or l trim_depth_at 0 };
      };
      last = get_or l last_at 0;
      out = get_or l out_at 0;
      held = get_or l held_at 0;
      pairs = pairs;
      joined = get_or l joined_at 0 + get_or l joined_high_at 0 * word;
    }

unfoldable pub unflatten : List ℕ → Session
unflatten l = with_pairs l (pairs_in l place_count)
