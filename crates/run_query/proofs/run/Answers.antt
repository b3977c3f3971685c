-- `run` meets its contract. Assumes nothing.
use Rattle.std.proofs.Common.{◌≡◌, ap, ◌∙◌, length, List}
use Rattle.rules.specs.declared.Pair.{Pair}
use Rattle.rules.specs.declared.Query.{Query}
use Rattle.rules.specs.declared.Session.{Session}
use Rattle.rules.specs.declared.Step.{Step}
use Rattle.rules.specs.Session.{lent_table, places}
use Rattle.rules.specs.Calls.{open_call}
use Rattle.rules.specs.Query.{settled_session, list}
use Rattle.outcomes.specs.declared.ReadEnd.{ReadEnd}
use Rattle.outcomes.specs.declared.TakenOut.{TakenOut}
use Rattle.outcomes.specs.Checked.{checked}
use Rattle.outcomes.specs.Until.{settled_on, list_taken}
use Rattle.outcomes.specs.Outcomes.{refused_by, read_end, taken_out, query_outcome, read_begun}
use Rattle.outcomes.specs.Outcomes.{take_done}
use Rattle.rules.specs.Tables.{Table, field_table, trim_table}
use Rattle.run_query.proofs.run.Goals as goal

module _ (q : Query) (f t : Table)
    (s : Step) (es : s ≡ open_call q f t) (r : ReadEnd)
    (er : r ≡ read_end (lent_table s.session f.numbers) (lent_table s.session t.numbers) s.session) where
  read_is : r ≡ record { end = refused_by f t (settled_session q f t); session = settled_session q f t }
  unfolding read_end
  read_is =
      er
      ∙ ap
      (λ (x : Step). read_end (lent_table x.session f.numbers) (lent_table x.session t.numbers) x.session)
      es
      ∙ read_begun q f t
      ∙ ap (λ (x : Session). record { end = refused_by f t x; session = x })
      (settled_on q f t)

  taken_is : (x : TakenOut)
      → x ≡ taken_out (lent_table r.session f.numbers) (lent_table r.session t.numbers) r.session →
      x ≡ record { pairs = places (list q f t); count = length (list q f t) }
  unfolding taken_out
  taken_is x ex =
      ex
      ∙ ap
      (λ (y : ReadEnd). taken_out (lent_table y.session f.numbers) (lent_table y.session t.numbers)
      y.session)
      read_is
      ∙ take_done q f t
      ∙ ap (λ (l : List Pair). record { pairs = places l; count = length l }) (list_taken q f t)

pub returns : goal.returns
unfolding query_outcome
returns c =
    let s = c.args in
    let start = c.start-opened in
    let f = field_table s.kinds s.f.now in
    let t = trim_table s.kinds s.t.now in
    let read = read_is s.q f t start.result start.ensures c.read_on-read.result c.read_on-read.ensures in
    let taken =
    taken_is s.q f t start.result start.ensures c.read_on-read.result c.read_on-read.ensures c.take_on-taken.result
    c.take_on-taken.ensures in
    let opening = c.check_answer.ensures.check ∙ ap (λ (x : Step). checked x.answer) start.ensures in
    λ i. record {
      query = s.q;
      opening = opening i;
      reading = (read i).end;
      session = (read i).session;
      pairs = (taken i).pairs;
      count = (taken i).count;
    }
