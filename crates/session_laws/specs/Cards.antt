-- A record's tables stay as opening fixed them: slices lent to it are the tables that were opened. Assumes nothing.
use Rattle.std.specs.Prelude.{◌≡◌, Bool}
use Rattle.std.proofs.Math.Path.{refl, ap}
use Rattle.std.proofs.Common.{◌∙◌, eq-eqb}
use Rattle.std.proofs.Math.Bool.{true, false}
use Prim.Native.Nat.{ℕ, zero, suc}
use Rattle.rules.specs.declared.Query.{Query}
use Rattle.rules.specs.declared.Session.{Session}
use Rattle.rules.specs.declared.Step.{Step}
use Rattle.rules.specs.Tables.{Table, table}
use Rattle.rules.specs.Session.{two_tables, lent_table, opened}
use Rattle.rules.specs.Read.{field_next}
use Rattle.rules.specs.Take.{moved_out}
use Rattle.rules.specs.Calls.{open_code, open_call, read_call, take_call}
use Rattle.rules.specs.Query.{was_read, was_given, read_until_settled_by, read_until_settled, settled_session}
use Rattle.session_laws.specs.Calls.{open_out, was_read_out, read_keeps, was_given_out, take_keeps}
use Rattle.session_laws.specs.Read.{read_rows_kept}

module _ (f t : Table) where
  -- through a read, whatever it answers, and a take
  pub read_tables : (s : Session) → (read_call f t s).session.rows ≡ s.rows
  read_tables s = go (was_read (read_call f t s).answer) refl
    where
      go : (b : Bool) → was_read (read_call f t s).answer ≡ b → (read_call f t s).session.rows ≡ s.rows
      go true h =
          ap (λ (r : Step). r.session.rows) (was_read_out f t s h).after ∙ read_rows_kept (field_next f t s) f t s
      go false h = ap (λ (r : Session). r.rows) (read_keeps f t s h)

  pub take_tables : (s : Session) → (take_call f t s).session.rows ≡ s.rows
  unfolding moved_out
  take_tables s = go (was_given (take_call f t s).answer) refl
    where
      go : (b : Bool) → was_given (take_call f t s).answer ≡ b → (take_call f t s).session.rows ≡ s.rows
      go true h = ap (λ (r : Step). r.session.rows) (was_given_out f t s h).after
      go false h = ap (λ (r : Session). r.rows) (take_keeps f t s h)

  pub reads_tables : (n : ℕ) (s : Session) → (read_until_settled n f t s).rows ≡ s.rows
  unfolding read_until_settled_by
  reads_tables zero s = refl
  reads_tables (suc n) s = go (was_read (read_call f t s).answer) refl (reads_tables n (read_call f t s).session)
    where
      r : Session
      r = (read_call f t s).session

      go : (b : Bool) → was_read (read_call f t s).answer ≡ b → (read_until_settled n f t r).rows ≡ r.rows
          → (let x : Session = elim b [ true ↦ read_until_settled n f t r | false ↦ s ] in x.rows) ≡ s.rows
      go true e ih = ih ∙ read_tables s
      go false e ih = refl

-- from an opening on
module _ (q : Query) (f t : Table) (accepted : open_code q f t ≡ 0) where
  opened_tables : (open_call q f t).session.rows ≡ two_tables f t
  unfolding open_call opened
  opened_tables = rw (eq-eqb (open_code q f t) 0 accepted)

  -- the slices of the two tables, lent to a record that it came to, are the tables
  pub lent_again : (s : Session) → s.rows ≡ (open_call q f t).session.rows
      → (lent_table s f.numbers ≡ f) × (lent_table s t.numbers ≡ t)
  lent_again s e =
      let card : s.rows.card ≡ f.coordinates = ap (λ x. x.card) (e ∙ opened_tables) in (
        ap (λ n. table n f.numbers) card,
        ap (λ n. table n t.numbers) (card ∙ (open_out q f t accepted).cards.same),
      )

  pub settled_again : (lent_table (settled_session q f t) f.numbers ≡ f)
      × (lent_table (settled_session q f t) t.numbers ≡ t)
  unfolding settled_session
  settled_again = lent_again (settled_session q f t) (reads_tables f t _ (open_call q f t).session)
