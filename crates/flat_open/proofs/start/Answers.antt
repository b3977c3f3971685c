-- The opening over numbers laid out flat.
use Rattle.std.proofs.Common.{◌≡◌, sym, ap, ◌∙◌}
use mir.Syntax.{w32}
use mir.Facts.{to_z-of_z}
use borrow.Author.Rules.{sfits_of}
use Rattle.rules.specs.declared.Answer.{Answer}
use Rattle.rules.specs.declared.Step.{Step}
use Rattle.rules.specs.Numbers.{said, signed}
use Rattle.rules.specs.Tables.{field_table, trim_table}
use Rattle.rules.specs.Calls.{open_call}
use Rattle.record_layout.specs.Flat.{query_in, kinds_in}
use Rattle.flat_calls.specs.Calls.{is_new, left_in, open_step, open_number, open_leaves}
use Rattle.flat_calls.specs.Unchanged.{refused_left, new_left}
use Rattle.flat_open.proofs.Openings.{not_opened}
use Rattle.flat_open.proofs.start.Goals as goal
use Rattle.flat_open.proofs.start.Goals.{After-start-step, in-Opened, in_default}

pub returns-then-query-lent-clause-value : goal.returns-then-query-lent-clause-value
unfolding open_number open_step
returns-then-query-lent-clause-value c =
    simp c.if-query-lent.true (to_z-of_z {w = w32} {z = c.short.result} (sfits_of c.short.type_inv) ∙ c.short.ensures)

pub returns-then-query-lent-clause-lent_after : goal.returns-then-query-lent-clause-lent_after
unfolding open_leaves open_step left_in
returns-then-query-lent-clause-lent_after c = simp c.if-query-lent.true

-- what the opening answers is the rules' of the numbers lent
stepped : (c : After-start-step) → let a = c.args in
    let k = kinds_in a.query.now in
    c.start-step.result ≡ open_call (query_in a.query.now) (field_table k a.f.now) (trim_table k a.t.now)
stepped c = simp (c.query_in-q.ensures, c.kinds_in-kinds.ensures) at c.start-step.ensures

pub returns-clause-value : goal.returns-clause-value
unfolding open_number open_step
returns-clause-value c =
    let number = to_z-of_z {w = w32} {z = c.told.result} (sfits_of c.told.type_inv) in
    let e = stepped (goal.at.returns-clause-value c).After-start-step in
    simp c.if-query-lent.false (number ∙ c.told.ensures ∙ ap (λ (r : Step). signed (said r.answer)) e)

pub returns-clause-lent_after : goal.returns-clause-lent_after
unfolding open_leaves open_step
returns-clause-lent_after c =
    let l = c.args.lent.now in
    let r = c.start-step.result in
    let e = stepped (goal.at.returns-clause-lent_after c).After-start-step in
    let written : c.match-step.lent ≡ left_in l r =
    elim c.match-step.branch [
      | in-Opened w ↦
          w.lent-is ∙ w.pack.ensures ∙ sym (new_left l r (ap (λ (a : Answer). is_new a) w.in-Opened.is))
      | in_default w ↦
          w.lent-is
          ∙ sym
          (refused_left l r
          (not_opened _ _ _ r.answer (ap (λ (x : Step). x.answer) c.start-step.ensures) w.in_default.not-Opened))
    ] in
    simp c.if-query-lent.false (written ∙ ap (left_in l) e)
