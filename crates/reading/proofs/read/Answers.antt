-- `read` meets its contract: the rules' read. Assumes nothing.
use Rattle.std.proofs.Common.{◌≡◌, sym, ap, ◌∙◌, true, arith, length-take}
use Rattle.rules.specs.Numbers.{code}
use Rattle.rules.specs.Session.{lent_table}
use Rattle.rules.specs.declared.Step.{Step}
use Rattle.rules.specs.Query.{was_read}
use Rattle.checks.specs.Codes.{depths_fit_lem}
use Rattle.checks.proofs.Answers.{not_read}
use Rattle.checks.proofs.Checked.{Checked, call_checked}
use Rattle.reading.specs.Answers.{read_asked, read_ends}
use Rattle.next_block.specs.After.{with_keys}
use Rattle.reading.proofs.Keying.{held_narrow}
use Rattle.reading.proofs.read.Goals as goal
use Rattle.reading.proofs.read.Goals.{After-check_call-check}

passed : (c : After-check_call-check) → let a = c.args in
    Checked (lent_table a.s a.f.now) (lent_table a.s a.t.now) a.s (code c.check_call-check.result)
passed c = call_checked c.args.f.now c.args.t.now c.args.s c.fits.result _ c.fits.ensures c.check_call-check.ensures

pub check_call-check-requires : goal.check_call-check-requires
check_call-check-requires c h = depths_fit_lem c.args.s (sym c.fits.ensures ∙ h)

pub read_answer-answer-requires : goal.read_answer-answer-requires
read_answer-answer-requires c e =
    let k = passed (goal.at.read_answer-answer-requires c).After-check_call-check in (k.known e, k.last_known e)

pub shared_ref_as_front-hold : goal.shared_ref_as_front-hold
shared_ref_as_front-hold c =
    let s = c.args.s in
    let k = passed (goal.at.shared_ref_as_front-hold c).After-check_call-check in
    let asked =
    read_asked _ (lent_table s c.args.f.now) (lent_table s c.args.t.now) s
    (sym c.read_answer-answer.ensures ∙ c.in-Read.is) in
    let few = (held_narrow s (k.known asked.0).lent.fits).0 in
    omega (arith, few)

pub hold-requires : goal.hold-requires
hold-requires c =
    let s = c.args.s in
    let k = passed (goal.at.hold-requires c).After-check_call-check in
    let asked =
    read_asked _ (lent_table s c.args.f.now) (lent_table s c.args.t.now) s
    (sym c.read_answer-answer.ensures ∙ c.in-Read.is) in
    let narrow = held_narrow s (k.known asked.0).lent.fits in
    (omega (arith, narrow.0, length-take s.held s.pairs), narrow.1)

pub read_block-after-requires : goal.read_block-after-requires
read_block-after-requires c =
    let s = c.args.s in
    let k = passed (goal.at.read_block-after-requires c).After-check_call-check in
    let asked =
    read_asked _ (lent_table s c.args.f.now) (lent_table s c.args.t.now) s
    (sym c.read_answer-answer.ensures ∙ c.in-Read.is) in
    (k.known asked.0, asked.1, asked.2, c.hold.ensures)

pub returns-in-Read : goal.returns-in-Read
unfolding with_keys
returns-in-Read c =
    let s = c.args.s in
    let k = passed (goal.at.returns-in-Read c).After-check_call-check in
    let ended =
    read_ends (lent_table s c.args.f.now) (lent_table s c.args.t.now) s _ c.read_answer-answer.result k.code_is
    c.read_answer-answer.ensures in
    let told : was_read c.read_answer-answer.result ≡ true = ap was_read c.in-Read.is in
    let after = simp (told, ← c.read_block-after.ensures.0) at ended in
    cc (after, c.fill.ensures)

pub returns-in_default : goal.returns-in_default
returns-in_default c =
    let s = c.args.s in
    let f = lent_table s c.args.f.now in
    let t = lent_table s c.args.t.now in
    let k = passed (goal.at.returns-in_default c).After-check_call-check in
    let ended = read_ends f t s _ c.read_answer-answer.result k.code_is c.read_answer-answer.ensures in
    let is = ap (λ (r : Step). r.answer) ended in
    simp (not_read f t s c.read_answer-answer.result is c.in_default.not-Read) at ended
