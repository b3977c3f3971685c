-- The record of a whole query is the last of a sequence of reads, so the row limit holds of its depths. Assumes
-- nothing.
use Rattle.std.specs.Prelude.{◌≡◌, Bool, true, false, List, replicate}
use Rattle.std.proofs.Math.Path.{refl, ap}
use Rattle.std.proofs.Common.{ap₂, subst, ◌∙◌}
use Prim.Native.Nat.{ℕ, zero, suc, ◌+◌, ◌-◌, max}
use Rattle.rules.specs.declared.FieldRows.{FieldRows}
use Rattle.rules.specs.declared.TrimRows.{TrimRows}
use Rattle.rules.specs.declared.Query.{Query}
use Rattle.rules.specs.declared.Session.{Session}
use Rattle.rules.specs.declared.Step.{Step}
use Rattle.rules.specs.Tables.{Table, table, legal}
use Rattle.rules.specs.Session.{opened}
use Rattle.rules.specs.Calls.{query_code, open_call, read_call}
use Rattle.rules.specs.Query.{was_read, read_until_settled_by, read_until_settled, settled_session}
use Rattle.rules.specs.Sure.{Sure}
use Rattle.session_laws.specs.Calls.{OneCard, legal_opened, read_keeps}
use Rattle.session_laws.specs.Until.{reads_ended}
use Rattle.session_laws.specs.Cards.{read_tables}
use Rattle.demand.specs.Demand.{reading, Line, promised, last_record}
use Rattle.demand.specs.Sequences.{DepthsUpTo}
use Rattle.demand.specs.GetsThere.{run_of}
use Rattle.demand.specs.Ends.{run_sequence}
use Rattle.demand.specs.Proved.{demand3}

module _ (f t : Table) where
  -- so many reads, one after the other
  abbrev reads_from : ℕ → Session → List Line
  reads_from n s = run_of f t s (replicate n reading)

  last_read : (n : ℕ) (s : Session) → f.coordinates ≡ t.coordinates → s.rows.card ≡ f.coordinates
      → last_record s (reads_from n s) ≡ read_until_settled n f t s
  unfolding run_of read_until_settled_by
  last_read zero s cards card = refl
  last_read (suc n) s cards card =
      ap (λ (x : Step). last_record x.session (reads_from n x.session)) own
      ∙ go (was_read (read_call f t s).answer) refl
      (last_read n (read_call f t s).session cards (ap (λ x. x.card) (read_tables f t s) ∙ card))
    where
      r : Session
      r = (read_call f t s).session

      -- the tables' numbers, lent to the record, are the tables
      own : promised reading f.numbers t.numbers s ≡ read_call f t s
      own =
          ap₂ (λ x y. read_call x y s) (ap (λ c. table c f.numbers) card)
          (ap (λ c. table c t.numbers) (card ∙ cards))

      go : (b : Bool) → was_read (read_call f t s).answer ≡ b
          → last_record r (reads_from n r) ≡ read_until_settled n f t r
          → ◌≡◌ {A = Session} (last_record r (reads_from n r))
          (elim b [ true ↦ read_until_settled n f t r | false ↦ s ])
      go true e ih = ih
      go false e ih = ih ∙ ap (read_until_settled n f t) (read_keeps f t s e) ∙ reads_ended f t n s e

-- "no more than max(p, q) + block - 1 rows of either table have been read" for every sure reading of p and q rows
pub settled_within : (q : Query) (f t : Table) → OneCard f t → legal f ≡ true → legal t ≡ true → query_code q ≡ 0
    → (m : FieldRows) (n : TrimRows) → Sure q f t m n
    → DepthsUpTo (max m.0 n.0 + q.block - 1) (settled_session q f t)
unfolding settled_session opened
settled_within q f t cards g h k m n sure =
    let s = (open_call q f t).session in
    let count = s.rows.field.0 + s.rows.trim.0 + 1 in
    let card : s.rows.card ≡ f.coordinates =
    ap (λ (x : Step). x.session.rows.card) (legal_opened q f t k cards g h) in
    let w = run_sequence q f t cards g h k (replicate count reading) in
    subst (DepthsUpTo (max m.0 n.0 + q.block - 1)) (last_read f t count s cards.same card)
    ((demand3 q f t (open_call q f t) (reads_from f t count s) w).row_limit_lem m n sure)
