-- The rules' take.
use Rattle.std.proofs.Common.{◌≡◌, sym, ap, ◌∙◌, true, arith, ltb, ltb-true, ℕ, ◌<◌, ◌≤◌, List, set}
use Rattle.rules.specs.declared.Pair.{Pair}
use Rattle.lists.specs.Bools.{and_left}
use Rattle.rules.specs.declared.Session.{Session}
use Rattle.rules.specs.Numbers.{code}
use Rattle.rules.specs.Tables.{Table}
use Rattle.rules.specs.Session.{lent_table, secured, no_pair}
use Rattle.rules.specs.Take.{first_held, gives_pair_by, moved_out}
use Rattle.rules.specs.Query.{was_given}
use Rattle.rules.proofs.Places.{pairs_long}
use Rattle.checks.specs.Codes.{depths_fit_lem}
use Rattle.checks.proofs.Answers.{not_given}
use Rattle.checks.proofs.Checked.{Checked, call_checked}
use Rattle.take_answers.specs.Answers.{take_answer, take_asked, take_ends}
use Rattle.taking.proofs.Shift.{shifted_up}
use Rattle.taking.proofs.take.Goals as goal
use Rattle.taking.proofs.take.Goals.{After-check_call-check}

-- where a pair is given, one is held, and there is room for one more that is out
gives : (f t : Table) (s : Session) (code : ℕ) → Checked f t s code → was_given (take_answer code f t s) ≡ true
    → (0 < s.held) × (s.out ≤ 64)
unfolding gives_pair_by
gives f t s code k told =
    let asked = take_asked code f t s told in
    let some = ltb-true 0 s.held (and_left (ltb 0 s.held) (secured f t s (first_held s)) asked.1) in
    let fits = (k.known asked.0).lent.fits in
    (some, omega (arith, fits.room, fits.query.k.1))

passed : (c : After-check_call-check) → let a = c.args in
    Checked (lent_table a.s a.f.now) (lent_table a.s a.t.now) a.s (code c.check_call-check.result)
passed c = call_checked c.args.f.now c.args.t.now c.args.s c.fits.result _ c.fits.ensures c.check_call-check.ensures

pub check_call-check-requires : goal.check_call-check-requires
check_call-check-requires c h = depths_fit_lem c.args.s (sym c.fits.ensures ∙ h)

pub checked_answer-answer-requires : goal.checked_answer-answer-requires
checked_answer-answer-requires c e = (passed (goal.at.checked_answer-answer-requires c).After-check_call-check).known e

pub overflow_add-r : goal.overflow_add-r
overflow_add-r c =
    let told = sym (ap was_given c.checked_answer-answer.ensures) ∙ ap was_given c.in-Given.is in
    let k = gives _ _ c.args.s _ (passed (goal.at.overflow_add-r c).After-check_call-check) told in
    record { fits = omega (arith, k) }

pub overflow_sub-r : goal.overflow_sub-r
overflow_sub-r c =
    let told = sym (ap was_given c.checked_answer-answer.ensures) ∙ ap was_given c.in-Given.is in
    let k = gives _ _ c.args.s _ (passed (goal.at.overflow_sub-r c).After-check_call-check) told in
    omega (arith, k)

pub returns-in-Given : goal.returns-in-Given
unfolding moved_out
returns-in-Given c =
    let a = c.args in
    let k = passed (goal.at.returns-in-Given c).After-check_call-check in
    let ended =
    take_ends (lent_table a.s a.f.now) (lent_table a.s a.t.now) a.s _ c.checked_answer-answer.result k.code_is
    c.checked_answer-answer.ensures in
    let told : was_given c.checked_answer-answer.result ≡ true = ap was_given c.in-Given.is in
    let after = simp told at ended in
    let pairs =
    ap (λ (l : List Pair). set l 63 no_pair) c.copy_within.ensures.after
    ∙ shifted_up a.s.pairs 63 no_pair no_pair (pairs_long a.s _ c.well_formed.1.1.0) in
    cc (after, pairs)

pub returns-in_default : goal.returns-in_default
returns-in_default c =
    let a = c.args in
    let k = passed (goal.at.returns-in_default c).After-check_call-check in
    let ended =
    take_ends (lent_table a.s a.f.now) (lent_table a.s a.t.now) a.s _ c.checked_answer-answer.result k.code_is
    c.checked_answer-answer.ensures in
    simp (not_given c.checked_answer-answer.result c.in_default.not-Given) at ended
