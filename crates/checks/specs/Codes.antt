-- The numbers that a call is refused by, of what the checks look at: whether 5 has passed, row counts and depths, and
-- the two slices. Assumes nothing.
use Rattle.std.specs.Prelude.{◌≡◌, Bool, true, false, List, [], ◌∷◌, ℕ, ◌-◌, ◌≤◌, ◌<◌, eqb, ℤ, get_or}
use Rattle.std.specs.Prelude.{Result, Ok, Err}
use Rattle.std.proofs.Math.Path.{refl}
use Rattle.std.proofs.Common.{sym, ap, ◌∙◌, arith}
use Rattle.std.specs.Result.{is_ok}
use borrow.Author.Tests.{ne_eqb}
use Rattle.rules.specs.declared.Answer.TheVariants.{Refused}
use Rattle.rules.specs.declared.Refusal.{Refusal}
use Rattle.rules.specs.declared.Counts.{Counts}
use Rattle.rules.specs.declared.TwoTables.{TwoTables}
use Rattle.rules.specs.declared.Pair.{Pair}
use Rattle.rules.specs.declared.Session.{Session}
use Rattle.rules.specs.Tables.{table, most_rows}
use Rattle.rules.specs.Numbers.{bad_record, unless, first, code, number_of, refusal_of, refused}
use Rattle.rules.specs.Session.{lent_table, no_pair}
use Rattle.rules.specs.Calls.{same_size_code, rows_code, record_fits, record_code, lent_code, call_code}
use Rattle.rules.specs.Checks.{first_out, unless_out}
use Rattle.codes.specs.Steps.{passed, stopped, coded}
use Rattle.session_laws.specs.Record.{record_out}
use Rattle.session_laws.specs.Calls.{SameSize, same_size_out}

-- no table is read beyond its rows, of which there are at most 65,535
pub record DepthsFit (rows : TwoTables) (depth : Counts) : Type 0 where
  pub field : (depth.field.0 ≤ rows.field.0) × (rows.field.0 ≤ most_rows)
  pub trim : (depth.trim.0 ≤ rows.trim.0) × (rows.trim.0 ≤ most_rows)

-- a record that passed 5 keeps them
pub depths_fit_lem : (s : Session) → record_fits s ≡ true → DepthsFit s.rows s.depth
depths_fit_lem s h =
    let k = record_out s h in
    record { field = (k.field.within, k.field.few); trim = (k.trim.within, k.trim.few) }

-- the slices are tables on the record's card
unfoldable pub lent_of : Bool → TwoTables → List ℤ → List ℤ → ℕ
lent_of fits rows f t =
    let n = rows.card in
    first
    (unless fits bad_record
    ∷ same_size_code rows.field.0 (table n f)
    ∷ same_size_code rows.trim.0 (table n t)
    ∷ [])

unfoldable pub call_of : Bool → TwoTables → Counts → List ℤ → List ℤ → ℕ
call_of fits rows depth f t =
    let n = rows.card in
    first
    (lent_of fits rows f t ∷ rows_code (table n f) 0 depth.field.0 ∷ rows_code (table n t) 0 depth.trim.0 ∷ [])

-- they are the rules'
module _ (f t : List ℤ) (s : Session) where
  pub lent_is : lent_of (record_fits s) s.rows f t ≡ lent_code (lent_table s f) (lent_table s t) s
  unfolding lent_of lent_code record_code
  lent_is = refl

  pub call_is : call_of (record_fits s) s.rows s.depth f t ≡ call_code (lent_table s f) (lent_table s t) s
  unfolding call_of call_code lent_of lent_code record_code
  call_is = refl

-- neither 5 nor 4
pub lent_of_out : (fits : Bool) (rows : TwoTables) (f t : List ℤ) → lent_of fits rows f t ≡ 0
    → (fits ≡ true)
    × (SameSize rows.field.0 (table rows.card f) × SameSize rows.trim.0 (table rows.card t))
unfolding lent_of
lent_of_out fits rows f t h =
    let x = table rows.card f in
    let y = table rows.card t in
    let sizes = same_size_code rows.field.0 x ∷ same_size_code rows.trim.0 y ∷ [] in
    let passes = first_out (unless fits bad_record ∷ sizes) h in (
      unless_out fits bad_record (omega arith) (passes 0),
      (same_size_out rows.field.0 x (passes 1), same_size_out rows.trim.0 y (passes 2)),
    )

-- the check of 5 and 4 passes just where the rules' code is 0
pub lent_passes : {A : Type 0} (f t : List ℤ) (s : Session) (fits : Bool) (r : Result A Refusal) → fits ≡ record_fits s
    → code r ≡ lent_of fits s.rows f t
    → eqb (lent_code (lent_table s f) (lent_table s t) s) 0 ≡ is_ok r
lent_passes f t s fits r looked found =
    ap (λ (n : ℕ). eqb n 0) (sym (found ∙ ap (λ (b : Bool). lent_of b s.rows f t) looked ∙ lent_is f t s)) ∙ coded r

-- the pair in the last held place, where one is held
abbrev pub LastHeld : Session → Pair → Type 0
LastHeld s p = 0 < s.held → p ≡ get_or s.pairs (s.held - 1) no_pair

-- one check after the other
pub ruleset steps = (passed, stopped)
