-- `whole` meets its contract. Assumes nothing.
use mathlib.Core.Path.{refl, sym, ap, ap₂, ◌∙◌}
use native.Mathlib.Omega.{arith}
use lib.IntN.{pos, neg_ℤ}
use lib.ListN.{length}
use mir.Syntax.{w32}
use mir.Facts.{to_z-of_z, to_z_pos}
use borrow.Author.Rules.{sfits_of}
use Rattle.rules.specs.declared.Query.{Query}
use Rattle.rules.specs.Query.{list}
use Rattle.listing.specs.ListShown.{count_is, count_few}
use Rattle.query_numbers.specs.Answers.{query_room, answered}
use Rattle.whole_query.specs.Asked.{asked_field, asked_trim, lent_query_answer, lent_query_numbers}
use Rattle.whole_query.proofs.Ends.{outcome_is, has_room, lents, outcome_lent, refused, found}
use Rattle.whole_query.proofs.whole.Goals as goal

pub returns-in-Err : goal.returns-in-Err
unfolding lent_query_answer lent_query_numbers
returns-in-Err c =
    let s = c.args in
    let f = asked_field s.query.now s.f.now in
    let t = asked_trim s.query.now s.t.now in
    let end =
    refused query_room s.query.now f t (length s.out.now) (λ (q : Query). length (list q f t))
    (λ (q : Query). answered q f t s.out.now) s.out.now c.in-Err.refusal c.in-Err.ensures.code in
    record {
      value =
          to_z-of_z {w = w32} {z = c.minus.result} (sfits_of c.minus.type_inv)
          ∙ c.minus.ensures
          ∙ ap (λ n. neg_ℤ (pos n)) c.from.ensures
          ∙ end.0;
      out_after = end.1;
    }

pub put_numbers-requires : goal.put_numbers-requires
put_numbers-requires c =
    let s = c.args in
    let l = s.query.now in
    let f = asked_field l s.f.now in
    let t = asked_trim l s.t.now in
    let ran = c.in-Ok.ensures.ran c.in-Ok.found refl in
    let z = sym c.in-Ok.ensures.code in (
      has_room query_room l f t (length s.out.now) c.in-Ok.found ran z,
      outcome_lent query_room l f t (length s.out.now) c.in-Ok.found ran z,
    )

pub overflow_cast-result : goal.overflow_cast-result
overflow_cast-result c =
    let s = c.args in
    let l = s.query.now in
    let f = asked_field l s.f.now in
    let t = asked_trim l s.t.now in
    let few =
    count_few f t c.in-Ok.found
    (outcome_is query_room l f t (length s.out.now) c.in-Ok.found (c.in-Ok.ensures.ran c.in-Ok.found refl)
    (sym c.in-Ok.ensures.code)) in
    record { sfits = omega arith }

pub returns-in-Ok : goal.returns-in-Ok
unfolding lent_query_answer lent_query_numbers
returns-in-Ok c =
    let s = c.args in
    let l = s.query.now in
    let f = asked_field l s.f.now in
    let t = asked_trim l s.t.now in
    let r = c.in-Ok.found in
    let ran = c.in-Ok.ensures.ran r refl in
    let z = sym c.in-Ok.ensures.code in
    let done = outcome_is query_room l f t (length s.out.now) r ran z in
    let same = lents query_room l f t (length s.out.now) r ran z in
    let written = c.put_numbers.ensures ∙ ap₂ (λ x y. answered r.query x y s.out.now) same.0 same.1 in
    let end =
    found query_room l f t (length s.out.now) (λ (q : Query). length (list q f t))
    (λ (q : Query). answered q f t s.out.now) s.out.now z r ran r.count c.put_numbers.new.out
    (count_is f t r done) written in
    record {
      value = to_z_pos w32 {n = r.count} (omega (arith, count_few f t r done)) ∙ end.0;
      out_after = end.1;
    }
