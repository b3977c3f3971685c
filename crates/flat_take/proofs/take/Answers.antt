-- `take` meets its contract. Assumes nothing.
use Rattle.std.proofs.Common.{◌≡◌, sym, ap, ◌∙◌, List, ℕ, ℤ}
use mir.Syntax.{w32}
use mir.Facts.{to_z-of_z}
use borrow.Author.Rules.{sfits_of}
use Rattle.rules.specs.declared.Answer.{Answer}
use Rattle.rules.specs.declared.Session.{Session}
use Rattle.rules.specs.declared.Step.{Step}
use Rattle.rules.specs.Session.{lent_table}
use Rattle.rules.specs.Numbers.{said, signed}
use Rattle.rules.specs.Query.{was_given}
use Rattle.checks.proofs.Answers.{not_given}
use Rattle.rules.specs.Calls.{take_call}
use Rattle.record_layout.specs.Flat.{pair_size, flat_size, unflatten}
use Rattle.flat_calls.specs.Calls.{is_new, left_in, written_in, take_step, take_number, take_leaves, take_writes}
use Rattle.flat_calls.specs.Unchanged.{new_left}
use Rattle.flat_take.specs.Unchanged.{take_left}
use Rattle.flat_calls.specs.Lengths.{right_long}
use Rattle.flat_take.proofs.take.Goals as goal
use Rattle.flat_take.proofs.take.Goals.{in-Given, in_default}

-- what the take answers, of the record that stands in the slice
stepped : (f t : List ℤ) (l : List ℕ) (s : Session) (x : Step) → s ≡ unflatten l
    → x ≡ take_call (lent_table s f) (lent_table s t) s
    → let r = unflatten l in
    x ≡ take_call (lent_table r f) (lent_table r t) r
stepped f t l s x e is = is ∙ ap (λ (r : Session). take_call (lent_table r f) (lent_table r t) r) e

pub returns-then-lent-pair : goal.returns-then-lent-pair
unfolding take_number take_leaves take_writes take_step left_in
returns-then-lent-pair c =
    let short = c.if-lent-pair.true in
    let number = to_z-of_z {w = w32} {z = c.short.result} (sfits_of c.short.type_inv) in
    record {
      value = simp short (number ∙ c.short.ensures);
      lent_after = simp short;
      pair_after = simp short;
    }

pub put_given-requires : goal.put_given-requires
put_given-requires c = right_long flat_size pair_size c.args.lent.now c.args.pair.now c.if-lent-pair.false

pub returns : goal.returns
unfolding take_number take_leaves take_writes take_step
returns c =
    let l = c.args.lent.now in
    let p = c.args.pair.now in
    let s = unflatten l in
    let f = lent_table s c.args.f.now in
    let t = lent_table s c.args.t.now in
    let r = c.take-step.result in
    let number = to_z-of_z {w = w32} {z = c.told.result} (sfits_of c.told.type_inv) in
    let e = stepped c.args.f.now c.args.t.now l c.unpack-s.result r c.unpack-s.ensures c.take-step.ensures in
    let long = c.if-lent-pair.false in
    let written : c.match-step.lent ≡ left_in l (take_call f t s) =
    elim c.match-step.branch [
      | in-Given w ↦
          let new = ap (λ (a : Answer). is_new a) w.in-Given.is in
          w.lent-is ∙ w.pack.ensures ∙ sym (new_left l r new) ∙ ap (left_in l) e
      | in_default w ↦
          let quiet = sym (ap (λ (x : Step). was_given x.answer) e) ∙ not_given r.answer w.in_default.not-Given in
          w.lent-is ∙ sym (take_left l f t s quiet)
    ] in
    record {
      value = simp long (number ∙ c.told.ensures ∙ ap (λ (r : Step). signed (said r.answer)) e);
      lent_after = simp long written;
      pair_after = simp long (c.put_given.ensures ∙ ap (λ (r : Step). written_in p (said r.answer)) e);
    }
