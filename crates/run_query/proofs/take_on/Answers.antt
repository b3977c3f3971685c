-- `take_on` meets its contract: the pairs in their places and those still to come are all. Assumes nothing.
use Rattle.std.proofs.Common.{◌≡◌, refl, sym, ap, ◌∙◌, ◌<◌, arith, List, ℤ}
use Rattle.rules.specs.declared.Session.{Session}
use Rattle.rules.specs.declared.Step.{Step}
use Rattle.rules.specs.Tables.{table}
use Rattle.rules.specs.Session.{lent_table, place_count}
use Rattle.rules.specs.Calls.{take_call}
use Rattle.rules.specs.Query.{was_given}
use Rattle.checks.proofs.Answers.{not_given}
use Rattle.session_laws.specs.Cards.{take_tables}
use Rattle.run_query.proofs.Taking.{taking_starts, taking_on, taking_stops, taking_full}
use Rattle.run_query.proofs.take_on.Goals as goal

-- what a turn's take gives, on the first record's tables
called : (f t : List ℤ) (s left : Session) → left.rows ≡ s.rows → (x : Step)
    → x ≡ take_call (lent_table left f) (lent_table left t) left → x ≡ take_call (lent_table s f) (lent_table s t) left
called f t s left rows x is = is ∙ ap (λ r. take_call (table r.card f) (table r.card t) left) rows

pub loop-n-init : goal.loop-n-init
loop-n-init c = (
  taking_starts (lent_table c.args.s c.args.f.now) (lent_table c.args.s c.args.t.now) c.args.s,
  refl,
)

pub returns-in_default : goal.returns-in_default
returns-in_default c =
    let is = called c.args.f.now c.args.t.now c.args.s c.loop-n.left c.loop-n.invariant.1 c.take-r.result
    c.take-r.ensures in
    let k = c.in_default.not-Given in
    let none = ap (λ (x : Step). was_given x.answer) (sym is) ∙ not_given c.take-r.result.answer k in
    taking_stops c.loop-n.invariant.0 none

pub loop-n-preserved : goal.loop-n-preserved
loop-n-preserved c =
    let s = c.args.s in
    let l = c.loop-n in
    let is = called c.args.f.now c.args.t.now s l.left l.invariant.1 c.take-r.result c.take-r.ensures in
    let more : l.n < place_count = omega (arith, c.loop-n-test.true) in (
      taking_on l.invariant.0 more c.take-r.result c.in-Given.p is c.in-Given.is,
      ap (λ (x : Step). x.session.rows) is
          ∙ take_tables (lent_table s c.args.f.now) (lent_table s c.args.t.now) l.left
          ∙ l.invariant.1,
    )

pub returns : goal.returns
returns c = taking_full c.loop-n.invariant.0 c.loop-n-test.false
