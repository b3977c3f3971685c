-- `put_answer` meets its contract. Assumes nothing.
use Rattle.std.proofs.Common.{sym, ap, subst₂, ◌∙◌, ◌≡◌}
use Rattle.rules.specs.Tables.{field_table, trim_table}
use Rattle.rules.specs.Numbers.{code}
use Rattle.rules.specs.Session.{lent_table}
use Rattle.rules.specs.Calls.{open_code}
use Rattle.rules.specs.Query.{listing}
use Rattle.outcomes.specs.declared.Outcome.{Outcome}
use Rattle.outcomes.specs.Outcomes.{OutcomeOf, query_outcome, opening_checked, is_outcome, lent_outcome}
use Rattle.program.specs.Program.{Written}
use Rattle.program.proofs.Steps.{refuses, written_as}
use Rattle.program.proofs.put_answer.Goals as goal
use Rattle.program.proofs.put_answer.Goals.{After-run-run}

-- the check of the opening is of its code
opening_is : (c : After-run-run) → let s = c.args in
    code c.run-run.result.opening ≡ open_code s.q (field_table s.kinds s.f.now) (trim_table s.kinds s.t.now)
opening_is c =
    ap (λ (x : Outcome). code x.opening) c.run-run.ensures ∙ opening_checked c.args.q _ _

pub returns-in_err-run : goal.returns-in_err-run
returns-in_err-run c =
    let e = c.in_err-run.field-0.0 in
    refuses _ _ _ e c.from_residual.result c.from_residual.ensures.1
    (sym (ap code c.in_err-run.was) ∙ opening_is (goal.at.returns-in_err-run c).After-run-run)

-- the slices, on the card of the record that the reading ended with, are the tables
lents : (c : After-run-run) → code c.run-run.result.opening ≡ 0 → let s = c.args in
    let f = field_table s.kinds s.f.now in
    let t = trim_table s.kinds s.t.now in
    let end = c.run-run.result.session in
    (lent_table end s.f.now ≡ f) × (lent_table end s.t.now ≡ t)
lents c z =
    let s = c.args in
    lent_outcome s.q (field_table s.kinds s.f.now) (trim_table s.kinds s.t.now) c.run-run.result c.run-run.ensures z

pub put_listing-requires : goal.put_listing-requires
put_listing-requires c =
    let s = c.args in
    let run = c.run-run in
    let ran = is_outcome s.q (field_table s.kinds s.f.now) (trim_table s.kinds s.t.now) run.result run.ensures in
    let same = lents (goal.at.put_listing-requires c).After-run-run (ap code c.in_ok-run.was) in
    (c.requires, subst₂ (λ x y. OutcomeOf x y run.result) (sym same.0) (sym same.1) ran.1)

pub returns : goal.returns
unfolding query_outcome
returns c =
    let put = c.put_listing in
    let run = c.run-run in
    let s = c.args in
    let f = field_table s.kinds s.f.now in
    let t = trim_table s.kinds s.t.now in
    let here = (goal.at.returns c).After-run-run in
    let none = ap code c.in_ok-run.was in
    let same = lents here none in
    let asked = ap (λ (x : Outcome). listing x.query f t) run.ensures in (
      sym (opening_is here) ∙ none,
      written_as asked
          (subst₂ (λ x y. Written (listing run.result.query x y) s.out.now put.new.out put.result) same.0 same.1
          (record {
            count = put.ensures.upper_bound.1;
            short = put.ensures.upper_bound.0;
            front = put.ensures.out_after;
          })),
    )
