-- What a whole query comes to: what its calls refuse, the record when it is settled, the list. Assumes nothing.
use Rattle.std.specs.Prelude.{◌≡◌, Bool, cond, ℕ, Result, Err}
use Rattle.std.proofs.Math.Path.{refl, sym, ap, ap₂}
use Rattle.std.proofs.Common.{subst, ◌∙◌, eqb-true}
use Rattle.std.proofs.Math.Bool.{true, false}
use mathlib.Core.List.{List, []}
use Rattle.std.proofs.Math.Dec.{eqb}
use Rattle.std.proofs.Math.ListN.{length}
use Rattle.rules.specs.declared.Pair.{Pair}
use Rattle.rules.specs.declared.Query.{Query}
use Rattle.rules.specs.declared.Session.{Session}
use Rattle.rules.specs.declared.Step.{Step}
use Rattle.rules.specs.declared.Answer.TheVariants.{Opened}
use Rattle.rules.specs.declared.Refusal.{Refusal}
use Rattle.rules.specs.declared.Refusal.TheVariants.{BadRecord}
use Rattle.rules.specs.Numbers.{said, refusal, refused, code}
use Rattle.rules.specs.Numbered.{Known, known, known_none, of_opening}
use Rattle.rules.specs.Tables.{Table}
use Rattle.rules.specs.Session.{lent_table, place_count, places, two_tables, opened, zeros}
use Rattle.rules.specs.Calls.{step, open_code, open_call, read_call}
use Rattle.rules.specs.Query.{was_read, was_given, take_until_finished, settled_session, list}
use Rattle.outcomes.specs.Checked.{checked, checked_says}
use Rattle.outcomes.specs.declared.ReadEnd.{ReadEnd}
use Rattle.outcomes.specs.declared.TakenOut.{TakenOut}
use Rattle.outcomes.specs.declared.Outcome.{Outcome}
use Rattle.outcomes.specs.Until.{read_on, read_ends, take_ends, settled_on, list_taken}
use Rattle.session_laws.specs.Zeros.{zeros_read, zeros_take, refused_zeros}
use Rattle.session_laws.specs.Cards.{lent_again, settled_again}

-- what a read of a record is refused by
abbrev pub refused_by : Table → Table → Session → Result Unit Refusal
refused_by f t s = checked (read_call f t s).answer

-- what the reading of a query ends with: 0 where it settles
abbrev pub read_code : Query → Table → Table → ℕ
read_code q f t = refusal (said (read_call f t (settled_session q f t)).answer)

unfoldable pub read_end : Table → Table → Session → ReadEnd
read_end f t s = record { end = refused_by f t (read_on f t s); session = read_on f t s }

unfoldable pub taken_out : Table → Table → Session → TakenOut
taken_out f t s =
    let l = take_until_finished place_count f t s in
    record { pairs = places l; count = length l }

unfoldable pub query_outcome : Query → Table → Table → Outcome
query_outcome q f t =
    record {
      query = q;
      opening = checked (open_call q f t).answer;
      reading = refused_by f t (settled_session q f t);
      session = settled_session q f t;
      pairs = places (list q f t);
      count = length (list q f t);
    }

-- what the opening answers is its code
pub opening_code : (q : Query) (f t : Table) → refusal (said (open_call q f t).answer) ≡ open_code q f t
unfolding open_call
opening_code q f t = go (eqb (open_code q f t) 0) refl
  where
    go : (b : Bool) → eqb (open_code q f t) 0 ≡ b →
        (let made = step Opened (opened q (two_tables f t)) in
        let s : Step = cond b made (step (refused (open_code q f t)) zeros) in refusal (said s.answer))
        ≡ open_code q f t
    go true e = sym (eqb-true (open_code q f t) 0 e)
    go false e = of_opening Known known_none known q f t e

-- so the outcome's check of the opening, and of the reading, is of its code
pub opening_checked : (q : Query) (f t : Table) → code (query_outcome q f t).opening ≡ open_code q f t
unfolding query_outcome
opening_checked q f t = checked_says (open_call q f t).answer ∙ opening_code q f t

pub reading_checked : (q : Query) (f t : Table) → code (query_outcome q f t).reading ≡ read_code q f t
unfolding query_outcome
reading_checked q f t = checked_says (read_call f t (settled_session q f t)).answer

-- an outcome over these tables
abbrev pub OutcomeOf : Table → Table → Outcome → Type 0
OutcomeOf f t r = r ≡ query_outcome r.query f t

pub is_outcome : (q : Query) (f t : Table) (r : Outcome) → r ≡ query_outcome q f t → (r.query ≡ q) × OutcomeOf f t r
unfolding query_outcome
is_outcome q f t r e =
    let same = ap (λ (x : Outcome). x.query) e in (same, e ∙ ap (λ (x : Query). query_outcome x f t) (sym same))

-- ---- A record that an opening gave: its slices are the tables, or it is zeros, which no table changes

module _ (q : Query) (f t : Table) where
  abbrev begun : Session
  begun = (open_call q f t).session

  -- the two tables, as slices lent to it
  abbrev own : Table
  own = lent_table begun f.numbers

  abbrev other : Table
  other = lent_table begun t.numbers

  zeros_on : (x y : Table) → read_on x y zeros ≡ zeros
  zeros_on x y = sym (read_ends x y zeros (ap (λ (s : Step). was_read s.answer) (zeros_read x y)))

  zeros_none : (x y : Table) → take_until_finished place_count x y zeros ≡ []
  zeros_none x y = take_ends place_count x y zeros (ap (λ (s : Step). was_given s.answer) (zeros_take x y))

  pub read_begun : read_end own other begun ≡ read_end f t begun
  unfolding read_end
  read_begun = go (eqb (open_code q f t) 0) refl
    where
      go : (b : Bool) → eqb (open_code q f t) 0 ≡ b → read_end own other begun ≡ read_end f t begun
      go true e =
          let same = lent_again q f t (eqb-true (open_code q f t) 0 e) begun refl in
          ap₂ (λ x y. read_end x y begun) same.0 same.1
      go false e =
          let z = refused_zeros q f t e in
          let ends : (x y : Table) → read_end x y zeros ≡ record { end = Err BadRecord; session = zeros } =
          λ x y.
          ap (λ (s : Session). record { end = refused_by x y s; session = s }) (zeros_on x y)
          ∙ ap (λ (s : Step). record { end = checked s.answer; session = zeros }) (zeros_read x y) in
          ap (read_end own other) z ∙ ends own other ∙ sym (ends f t) ∙ ap (read_end f t) (sym z)

  -- and of the record when it is settled
  abbrev done : Session
  done = settled_session q f t

  done_zeros : eqb (open_code q f t) 0 ≡ false → done ≡ zeros
  done_zeros e = sym (settled_on q f t) ∙ ap (read_on f t) (refused_zeros q f t e) ∙ zeros_on f t

  -- a refused opening lists nothing
  pub refused_none : eqb (open_code q f t) 0 ≡ false → list q f t ≡ []
  refused_none e =
      sym (list_taken q f t) ∙ ap (take_until_finished place_count f t) (done_zeros e) ∙ zeros_none f t

  pub take_done : taken_out (lent_table done f.numbers) (lent_table done t.numbers) done ≡ taken_out f t done
  unfolding taken_out
  take_done = go (eqb (open_code q f t) 0) refl
    where
      go : (b : Bool) → eqb (open_code q f t) 0 ≡ b
          → taken_out (lent_table done f.numbers) (lent_table done t.numbers) done ≡ taken_out f t done
      go true e =
          let same = settled_again q f t (eqb-true (open_code q f t) 0 e) in
          ap₂ (λ x y. taken_out x y done) same.0 same.1
      go false e =
          let z = done_zeros e in
          let ends : (x y : Table) → taken_out x y zeros ≡ record { pairs = places []; count = 0 } =
          λ x y. ap (λ (l : List Pair). record { pairs = places l; count = length l }) (zeros_none x y) in
          ap (λ (s : Session). taken_out (lent_table s f.numbers) (lent_table s t.numbers) s) z
          ∙ ends _ _
          ∙ sym (ends f t)
          ∙ ap (taken_out f t) (sym z)

-- of an outcome that was opened: the slices, lent to the record that its reading ended with, are the tables
pub lent_outcome : (q : Query) (f t : Table) (r : Outcome) → r ≡ query_outcome q f t → code r.opening ≡ 0
    → (lent_table r.session f.numbers ≡ f) × (lent_table r.session t.numbers ≡ t)
unfolding query_outcome
lent_outcome q f t r e z =
    let opened : open_code q f t ≡ 0 =
    sym (opening_checked q f t) ∙ sym (ap (λ (x : Outcome). code x.opening) e) ∙ z in
    let session : r.session ≡ settled_session q f t = ap (λ (x : Outcome). x.session) e in
    subst (λ (x : Session). (lent_table x f.numbers ≡ f) × (lent_table x t.numbers ≡ t)) (sym session)
    (settled_again q f t opened)
