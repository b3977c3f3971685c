-- Demand 3: what is promised of a whole sequence of calls. Definitions only; the proof is in Proved.antt, and Uses.antt
-- says what the parts come to. Assumes nothing.
use Rattle.std.specs.Prelude.{ℕ, ◌+◌, ◌-◌, ◌≤◌, max, ◌≡◌, Bool, true, cond, List, [], ◌∷◌, ◌++◌, map, ◌⊎◌, ℤ, length}
use Rattle.rules.specs.declared.FieldRows.{FieldRows}
use Rattle.rules.specs.declared.TrimRows.{TrimRows}
use Rattle.rules.specs.declared.Pair.{Pair}
use Rattle.rules.specs.declared.Query.{Query}
use Rattle.rules.specs.declared.Session.{Session}
use Rattle.rules.specs.declared.Step.{Step}
use Rattle.rules.specs.declared.Answer.{Answer}
use Rattle.rules.specs.declared.Answer.TheVariants.{Opened, Given, Finished}
use Rattle.rules.specs.Tables.{Table, row_count, legal, row, terms, pair_sum, first_rows}
use Rattle.rules.specs.Session.{lent_table}
use Rattle.rules.specs.Sure.{Sure}
use Rattle.rules.specs.Numbers.{said}
use Rattle.rules.specs.Calls.{open_call, read_call, take_call}
use Rattle.rules.specs.Query.{given}

-- ---- A sequence of calls, as a transcript

pub data Call : Type 0 where
  reading : Call
  taking : Call

-- one line of a transcript: the call, the two slices lent to it, and what it gave back, its answer and the record
pub record Line : Type 0 where
  pub call : Call
  pub field : List ℤ
  pub trim : List ℤ
  pub gave : Step

-- what the rules give of a call over two tables
abbrev pub ruled : Call → Table → Table → Session → Step
ruled reading f t s = read_call f t s
ruled taking f t s = take_call f t s

-- what the promise of the call, the `ensures` of its code, says that it gives, of the record that it was given: the
-- lent slices are tables on the record's card
abbrev pub promised : Call → List ℤ → List ℤ → Session → Step
promised c f t s = ruled c (lent_table s f) (lent_table s t) s

abbrev pub is_accepted : Line → Bool
is_accepted l = (said l.gave.answer).accepted

-- "Each call gets the record that the call before it gave", the first one s, and gives what is promised of it. "Each
-- accepted call is lent those two tables; one that is refused may have been lent other slices."
abbrev pub Follows : Table → Table → Session → List Line → Type 0
Follows f t s [] = Unit {0}
Follows f t s (l ∷ lines) =
    (l.gave ≡ promised l.call l.field l.trim s)
    × (is_accepted l ≡ true → (l.field ≡ f.numbers) × (l.trim ≡ t.numbers))
    × Follows f t l.gave.session lines

-- what demand 3 is about: calls "that follow an opening which document 01 accepts, over two legal tables which stay the
-- same"
pub record Sequence (q : Query) (f t : Table) (opening : Step) (lines : List Line) : Type 0 where
  pub field_legal : legal f ≡ true
  pub trim_legal : legal t ≡ true
  pub opening_promised : opening ≡ open_call q f t
  pub opening_accepted : opening.answer ≡ Opened
  pub calls : Follows f t opening.session lines

-- ---- The words of demand 3

-- a field row and a trim row, numbered from 1, that qualify
pub record Qualifying (q : Query) (f t : Table) (i j : ℕ) : Type 0 where
  pub field_row : (1 ≤ i) × (i ≤ row_count f)
  pub trim_row : (1 ≤ j) × (j ≤ row_count t)
  pub near : (terms q).near (row f (i - 1)) (row t (j - 1)) ≡ true

-- the sum of a pair of rows
abbrev pub sum_of : Query → Table → Table → ℕ → ℕ → ℕ
sum_of q f t i j = pair_sum (terms q) (row f (i - 1)) (row t (j - 1))

-- the pairs that the takes of a transcript answered
abbrev pub outs : List Line → List Pair
outs [] = []
outs (l ∷ lines) = given l.gave.answer ++ outs lines

-- "A pair, named by its two rows, is out once a take of the sequence has answered it"
abbrev pub IsIn : List Pair → ℕ → ℕ → Type 0
IsIn [] i j = ⊥
IsIn (p ∷ l) i j = ((p.field ≡ i) × (p.trim ≡ j)) ⊎ IsIn l i j

abbrev pub Out : List Line → ℕ → ℕ → Type 0
Out lines i j = IsIn (outs lines) i j

-- the record last given back
abbrev pub last_record : Session → List Line → Session
last_record s [] = s
last_record s (l ∷ lines) = last_record l.gave.session lines

-- What the rules give: found "by its rules from the same opening and calls, each step going on from the record that
-- those rules gave last"
abbrev pub by_rules : Session → List Line → List Step
by_rules s [] = []
by_rules s (l ∷ lines) =
    promised l.call l.field l.trim s
    ∷ by_rules (promised l.call l.field l.trim s).session lines

-- the same calls over two other tables, lent to the calls that were accepted
abbrev pub over : Table → Table → Line → Line
over f t l =
    record {
      call = l.call;
      field = cond (is_accepted l) f.numbers l.field;
      trim = cond (is_accepted l) t.numbers l.trim;
      gave = l.gave;
    }

-- the answers that the rules give over those
abbrev pub answers_over : Query → Table → Table → List Line → List Answer
answers_over q f t lines = map (λ g. g.answer) (by_rules (open_call q f t).session (map (over f t) lines))

-- "legal tables with the same row counts and the same rows up to those depths"
pub record Alike (t u : Table) (depth : ℕ) : Type 0 where
  pub lawful : legal u ≡ true
  pub count : row_count u ≡ row_count t
  pub rows : first_rows depth u ≡ first_rows depth t

-- ---- Demand 3

-- of a call that answered pair p, the pairs in `before` being out
pub record Brought (q : Query) (f t : Table) (before : List Line) (p : Pair) : Type 0 where
  -- "Each pair brought out qualifies,"
  pub qualifying : Qualifying q f t p.field p.trim
  -- "carries its own sum"
  pub own_sum : p.sum ≡ sum_of q f t p.field p.trim
  -- "and wasn't out already."
  pub new : Out before p.field p.trim → ⊥
  -- "When it comes out, no qualifying pair that is not yet out has a higher sum, unread rows included."
  pub highest : (i j : ℕ) → Qualifying q f t i j → (Out before i j → ⊥) → sum_of q f t i j ≤ p.sum

-- of a call that said finished
abbrev pub Complete : Query → Table → Table → List Line → Type 0
Complete q f t before = (length (outs before) ≡ q.k) ⊎ ((i j : ℕ) → Qualifying q f t i j → Out before i j)

pub record Demand3 (q : Query) (f t : Table) (opening : Step) (lines : List Line) : Type 0 where
  pub brought : (before after : List Line) (l : Line) (p : Pair) →
      lines ≡ before ++ l ∷ after → l.gave.answer ≡ Given p → Brought q f t before p
  -- "When a call says finished, as many pairs as wanted are out or every qualifying pair is."
  pub finished : (before after : List Line) (l : Line) →
      lines ≡ before ++ l ∷ after → l.gave.answer ≡ Finished → Complete q f t before
  -- "After the sequence no more than max(p, q) + block - 1 rows of either table have been read, for every reading of p
  -- field rows and q trim rows that is sure of the wanted best sums."
  pub row_limit_lem : (m : FieldRows) (n : TrimRows) → Sure q f t m n →
      ((last_record opening.session lines).depth.field.0 ≤ max m.0 n.0 + q.block - 1)
      × ((last_record opening.session lines).depth.trim.0 ≤ max m.0 n.0 + q.block - 1)
  -- "Legal tables alike in their row counts and in the rows read get the same answers."
  pub same_answers : (f' t' : Table) →
      Alike f f' (last_record opening.session lines).depth.field.0 →
      Alike t t' (last_record opening.session lines).depth.trim.0 →
      ((open_call q f' t').answer ≡ opening.answer)
      × (answers_over q f' t' lines ≡ map (λ l. l.gave.answer) lines)
  -- "Each answer and record, the opening's included, is the one that document 01 gives."
  pub by_rules_lem : (opening ≡ open_call q f t) × (map (λ l. l.gave) lines ≡ by_rules (open_call q f t).session lines)

-- the statement: every sequence keeps demand 3
abbrev pub Statement : Type 0
Statement =
    (q : Query) (f t : Table) (opening : Step) (lines : List Line) →
    Sequence q f t opening lines →
    Demand3 q f t opening lines
