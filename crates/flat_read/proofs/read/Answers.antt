-- `read` meets its contract. Assumes nothing.
use Rattle.std.proofs.Common.{◌≡◌, sym, ap, ◌∙◌, List, ℕ, ℤ}
use mir.Syntax.{w32}
use mir.Facts.{to_z-of_z}
use borrow.Author.Rules.{sfits_of}
use borrow.Author.Tests.{lt-ltb, le-ltb}
use Rattle.rules.specs.declared.Answer.{Answer}
use Rattle.rules.specs.declared.Session.{Session}
use Rattle.rules.specs.declared.Step.{Step}
use Rattle.rules.specs.Session.{lent_table}
use Rattle.rules.specs.Numbers.{said, signed}
use Rattle.rules.specs.Query.{was_read}
use Rattle.rules.specs.Calls.{read_call}
use Rattle.checks.proofs.Answers.{not_read}
use Rattle.record_layout.specs.Flat.{unflatten}
use Rattle.flat_calls.specs.Calls.{is_new, left_in, read_step, read_number, read_leaves}
use Rattle.flat_calls.specs.Unchanged.{new_left}
use Rattle.flat_read.specs.Unchanged.{read_left}
use Rattle.flat_read.proofs.read.Goals as goal
use Rattle.flat_read.proofs.read.Goals.{in-Read, in_default}

-- what the read answers, of the record that stands in the slice
stepped : (f t : List ℤ) (l : List ℕ) (s : Session) (x : Step) → s ≡ unflatten l
    → x ≡ read_call (lent_table s f) (lent_table s t) s
    → let r = unflatten l in
    x ≡ read_call (lent_table r f) (lent_table r t) r
stepped f t l s x e is = is ∙ ap (λ (r : Session). read_call (lent_table r f) (lent_table r t) r) e

pub returns-then-lent-lt-SIZE : goal.returns-then-lent-lt-SIZE
unfolding read_number read_leaves read_step left_in
returns-then-lent-lt-SIZE c =
    let short = lt-ltb _ _ c.if-lent-lt-SIZE.true in
    record {
      value = simp short (to_z-of_z {w = w32} {z = c.short.result} (sfits_of c.short.type_inv) ∙ c.short.ensures);
      lent_after = simp short;
    }

pub returns : goal.returns
unfolding read_number read_leaves read_step
returns c =
    let l = c.args.lent.now in
    let s = unflatten l in
    let f = lent_table s c.args.f.now in
    let t = lent_table s c.args.t.now in
    let r = c.read-step.result in
    let number = to_z-of_z {w = w32} {z = c.told.result} (sfits_of c.told.type_inv) in
    let e = stepped c.args.f.now c.args.t.now l c.unpack-s.result r c.unpack-s.ensures c.read-step.ensures in
    let long = le-ltb _ _ c.if-lent-lt-SIZE.false in
    let written : c.match-step.lent ≡ left_in l (read_call f t s) =
    elim c.match-step.branch [
      | in-Read w ↦
          let new = ap (λ (a : Answer). is_new a) w.in-Read.is in
          w.lent-is ∙ w.pack.ensures ∙ sym (new_left l r new) ∙ ap (left_in l) e
      | in_default w ↦
          let other = not_read f t s r.answer (ap (λ (x : Step). x.answer) e) w.in_default.not-Read in
          w.lent-is ∙ sym (read_left l f t s (sym (ap (λ (x : Step). was_read x.answer) e) ∙ other))
    ] in
    record {
      value = simp long (number ∙ c.told.ensures ∙ ap (λ (r : Step). signed (said r.answer)) e);
      lent_after = simp long written;
    }
