-- The opening of a sequence. Assumes nothing.
use Rattle.std.specs.Prelude.{ℕ, ◌≡◌, true, List}
use Rattle.std.proofs.Common.{sym, ap, subst, ◌∙◌}
use Rattle.rules.specs.declared.Query.{Query}
use Rattle.rules.specs.declared.Step.{Step}
use Rattle.rules.specs.declared.Answer.TheVariants.{Opened}
use Rattle.rules.specs.Tables.{Table}
use Rattle.rules.specs.Session.{two_tables, opened}
use Rattle.rules.specs.Calls.{query_code, is_card, step, open_call}
use Rattle.session_laws.specs.Calls.{OneCard, opened_query, opened_cards, legal_opened}
use Rattle.demand.specs.Demand.{Line, Sequence, Alike}

module _ {q : Query} {f t : Table} {opening : Step} {lines : List Line} (w : Sequence q f t opening lines) where
  pub opening_query : query_code q ≡ 0
  opening_query = opened_query q f t (ap (λ x. x.answer) (sym w.opening_promised) ∙ w.opening_accepted)

  pub opening_cards : OneCard f t
  opening_cards = opened_cards q f t (ap (λ x. x.answer) (sym w.opening_promised) ∙ w.opening_accepted)

  -- the record of tables with so many rows, on such a card
  abbrev opened_rows : ℕ → ℕ → ℕ → Step
  opened_rows n i j =
      step Opened (opened q (record { field = record { 0 = i }; trim = record { 0 = j }; card = n }))

  pub opening_is : opening ≡ step Opened (opened q (two_tables f t))
  opening_is = w.opening_promised ∙ legal_opened q f t opening_query opening_cards w.field_legal w.trim_legal

  -- tables alike are opened alike
  pub opens_alike : (f' t' : Table) {d e : ℕ} → Alike f f' d → Alike t t' e → open_call q f' t' ≡ opening
  opens_alike f' t' u v =
      let field = ap (λ x. x.coordinates) u.rows in
      let cards : OneCard f' t' =
      record {
        known = subst (λ n. is_card n ≡ true) (sym field) opening_cards.known;
        same = field ∙ opening_cards.same ∙ sym (ap (λ x. x.coordinates) v.rows);
      } in
      legal_opened q f' t' opening_query cards u.lawful v.lawful
      ∙ (λ i. opened_rows (field i) (u.count i) (v.count i))
      ∙ sym opening_is
