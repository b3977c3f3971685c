-- `read_on` meets its contract: the rows that are not read yet become fewer. Assumes nothing.
use Rattle.std.proofs.Common.{◌≡◌, refl, sym, ap, ◌∙◌, true, List, ℤ}
use Rattle.rules.specs.declared.Step.{Step}
use Rattle.rules.specs.declared.Answer.TheVariants.{Read}
use Rattle.rules.specs.declared.Session.{Session}
use Rattle.rules.specs.Tables.{table}
use Rattle.rules.specs.Session.{lent_table}
use Rattle.rules.specs.Calls.{read_call}
use Rattle.rules.specs.Query.{was_read}
use Rattle.session_laws.specs.Until.{fewer_unread}
use Rattle.session_laws.specs.Cards.{read_tables}
use Rattle.checks.proofs.Answers.{not_read}
use Rattle.outcomes.specs.declared.ReadEnd.{ReadEnd}
use Rattle.outcomes.specs.Checked.{checked}
use Rattle.outcomes.specs.Until.{read_on, read_more, read_ends}
use Rattle.outcomes.specs.Outcomes.{refused_by, read_end}
use Rattle.run_query.proofs.read_on.Goals as goal

-- what a turn's read gives, on the first record's tables
module _ (f t : List ℤ) (s at : Session) (rows : at.rows ≡ s.rows) (x : Step)
    (is : x ≡ read_call (lent_table at f) (lent_table at t) at) where
  called : x ≡ read_call (lent_table s f) (lent_table s t) at
  called = is ∙ ap (λ r. read_call (table r.card f) (table r.card t) at) rows

  -- a block was read
  read_so : x.answer ≡ Read → was_read (read_call (lent_table s f) (lent_table s t) at).answer ≡ true
  read_so e = ap (λ (y : Step). was_read y.answer) (sym called) ∙ ap was_read e

pub loop-at-init : goal.loop-at-init
loop-at-init c = (refl, refl)

pub returns-in_default : goal.returns-in_default
unfolding read_end
returns-in_default c =
    let s = c.args.s in
    let f = lent_table s c.args.f.now in
    let t = lent_table s c.args.t.now in
    let at = c.loop-at.at in
    let inv = c.loop-at.invariant in
    let answered =
    ap (λ (x : Step). x.answer)
    (called c.args.f.now c.args.t.now s at inv.1 c.read-r.result c.read-r.ensures) in
    let none = ap was_read (sym answered) ∙ not_read f t at c.read-r.result.answer answered c.in_default.not-Read in
    let ended : at ≡ read_on f t s = read_ends f t at none ∙ inv.0 in
    let end = c.check_answer.ensures.check ∙ ap checked answered in
    let told : ◌≡◌ {A = ReadEnd} (record { end = c.check_answer.result; session = at })
    (record { end = refused_by f t at; session = at }) =
    λ i. record { end = end i; session = at } in
    told ∙ ap (λ (s : Session). record { end = refused_by f t s; session = s }) ended

pub loop-at-smaller : goal.loop-at-smaller
loop-at-smaller c =
    let s = c.args.s in
    let at = c.loop-at.at in
    let rows = c.loop-at.invariant.1 in
    let is = called c.args.f.now c.args.t.now s at rows c.read-r.result c.read-r.ensures in
    let so = read_so c.args.f.now c.args.t.now s at rows c.read-r.result c.read-r.ensures c.in-Read.is in
    rw is (fewer_unread (lent_table s c.args.f.now) (lent_table s c.args.t.now) at so)

pub loop-at-preserved : goal.loop-at-preserved
loop-at-preserved c =
    let s = c.args.s in
    let f = lent_table s c.args.f.now in
    let t = lent_table s c.args.t.now in
    let at = c.loop-at.at in
    let inv = c.loop-at.invariant in
    let is = called c.args.f.now c.args.t.now s at inv.1 c.read-r.result c.read-r.ensures in
    let so = read_so c.args.f.now c.args.t.now s at inv.1 c.read-r.result c.read-r.ensures c.in-Read.is in (
      ap (λ (x : Step). read_on f t x.session) is ∙ read_more f t at so ∙ inv.0,
      ap (λ (x : Step). x.session.rows) is ∙ read_tables f t at ∙ inv.1,
    )
