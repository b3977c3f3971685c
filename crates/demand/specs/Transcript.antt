-- Transcripts that the checker computes, and when they are sequences of demand 3. Assumes nothing.
use Rattle.std.specs.Prelude.{ℕ, ◌≡◌, refl, Bool, true, not, ◌&&◌, List, [], ◌∷◌, map, ℤ, pos}
use Rattle.std.proofs.Common.{sym, ap, ◌∙◌}
use Rattle.std.proofs.lemmas.Bool.{not-true}
use Rattle.lists.specs.Bools.{clash, and_out}
use Rattle.rules.specs.declared.FieldRows.{FieldRows}
use Rattle.rules.specs.declared.TrimRows.{TrimRows}
use Rattle.rules.specs.declared.Query.{Query}
use Rattle.rules.specs.declared.Session.{Session}
use Rattle.rules.specs.Session.{weights, exact_query}
use Rattle.demand.specs.Demand.{Call, Line, promised, is_accepted, Follows, by_rules}
use Rattle.rules.specs.Tables.{Table, old_table}

-- ---- Small tables and queries

-- a table of no rows; a row at a place of the a axis, and the rows after it
abbrev pub no_rows : Table
no_rows = old_table []

abbrev pub row_then : ℤ → ℤ → Table → Table
row_then score a rest = old_table (pos 1 ∷ score ∷ a ∷ pos 0 ∷ rest.numbers)

-- the best pair of rows at one place, by blocks of so many rows
abbrev pub top_one : ℕ → Query
top_one block = exact_query 1 block 0 (weights 1 1)

abbrev pub field_rows : ℕ → FieldRows
field_rows n = record { 0 = n }

abbrev pub trim_rows : ℕ → TrimRows
trim_rows n = record { 0 = n }

-- ---- Transcripts

-- a call with the two slices lent to it
pub record Lending : Type 0 where
  pub call : Call
  pub field : List ℤ
  pub trim : List ℤ

-- the line that the rules give of a call on record s
abbrev pub ruled_line : Session → Lending → Line
ruled_line s c =
    record {
      call = c.call;
      field = c.field;
      trim = c.trim;
      gave = promised c.call c.field c.trim s;
    }

abbrev pub transcript : Session → List Lending → List Line
transcript s [] = []
transcript s (c ∷ calls) = ruled_line s c ∷ transcript (ruled_line s c).gave.session calls

-- what a line asked
abbrev pub lending : Line → Lending
lending l = record { call = l.call; field = l.field; trim = l.trim }

-- what the rules give goes by what was asked
rules_asked : (s : Session) (lines : List Line)
    → by_rules s lines ≡ map (λ l. l.gave) (transcript s (map lending lines))
rules_asked s [] = refl
rules_asked s (l ∷ lines) =
    ap (λ r. promised l.call l.field l.trim s ∷ r)
    (rules_asked (promised l.call l.field l.trim s).session lines)

pub same_rules : (s : Session) (lines others : List Line) → map lending lines ≡ map lending others
    → by_rules s lines ≡ by_rules s others
same_rules s lines others e =
    rules_asked s lines ∙ ap (λ asked. map (λ l. l.gave) (transcript s asked)) e ∙ sym (rules_asked s others)

-- ---- Sequences of demand 3

-- a call that is lent the two tables, or other slices
pub data Asked : Type 0 where
  own : Call → Asked
  astray : Call → List ℤ → List ℤ → Asked

module _ (f t : Table) where
  abbrev pub lent : Asked → Lending
  lent (own c) = record { call = c; field = f.numbers; trim = t.numbers }
  lent (astray c f₁ t₁) = record { call = c; field = f₁; trim = t₁ }

  -- whether all calls that are lent other slices are refused
  abbrev pub strays_refused : Session → List Asked → Bool
  strays_refused s [] = true
  strays_refused s (own c ∷ calls) = strays_refused (promised c f.numbers t.numbers s).session calls
  strays_refused s (astray c f₁ t₁ ∷ calls) =
      not (is_accepted (ruled_line s (lent (astray c f₁ t₁)))) && strays_refused (promised c f₁ t₁ s).session calls

  pub follows : (s : Session) (calls : List Asked) → strays_refused s calls ≡ true
      → Follows f t s (transcript s (map lent calls))
  follows s [] h = tt
  follows s (own c ∷ calls) h =
      (refl, λ e. (refl, refl), follows (promised c f.numbers t.numbers s).session calls h)
  follows s (astray c f₁ t₁ ∷ calls) h =
      let accepted = is_accepted (ruled_line s (lent (astray c f₁ t₁))) in
      let rest = (promised c f₁ t₁ s).session in
      let k = and_out (not accepted) (strays_refused rest calls) h in
      (refl, λ e. clash e (not-true accepted k.0), follows rest calls k.1)
