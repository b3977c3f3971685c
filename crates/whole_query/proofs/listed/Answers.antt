-- `listed` meets its contract. Assumes nothing.
use mathlib.Core.Path.{refl, sym, ap, ap₂, ◌∙◌}
use native.Mathlib.Omega.{arith}
use lib.IntN.{pos, neg_ℤ}
use lib.ListN.{length}
use mir.Syntax.{w32}
use mir.Facts.{to_z-of_z, to_z_pos}
use borrow.Author.Rules.{sfits_of}
use Rattle.rules.specs.declared.Query.{Query}
use Rattle.rules.specs.Query.{listing}
use Rattle.printing.specs.Put.{put_at}
use Rattle.listing.specs.Shown.{listing_room}
use Rattle.whole_query.specs.Asked.{asked_field, asked_trim, lent_listing_answer, lent_listing_bytes}
use Rattle.whole_query.proofs.Ends.{has_room, lents, outcome_lent, refused, found}
use Rattle.whole_query.proofs.listed.Goals as goal

pub returns-in-Err : goal.returns-in-Err
unfolding lent_listing_answer lent_listing_bytes
returns-in-Err c =
    let s = c.args in
    let f = asked_field s.query.now s.f.now in
    let t = asked_trim s.query.now s.t.now in
    let end =
    refused listing_room s.query.now f t (length s.out.now) (λ (q : Query). length (listing q f t))
    (λ (q : Query). put_at 0 (listing q f t) s.out.now) s.out.now c.in-Err.refusal c.in-Err.ensures.code in
    record {
      value =
          to_z-of_z {w = w32} {z = c.minus.result} (sfits_of c.minus.type_inv)
          ∙ c.minus.ensures
          ∙ ap (λ n. neg_ℤ (pos n)) c.from.ensures
          ∙ end.0;
      out_after = end.1;
    }

pub put_listing-requires : goal.put_listing-requires
put_listing-requires c =
    let s = c.args in
    let l = s.query.now in
    let f = asked_field l s.f.now in
    let t = asked_trim l s.t.now in
    let ran = c.in-Ok.ensures.ran c.in-Ok.found refl in
    let z = sym c.in-Ok.ensures.code in (
      has_room listing_room l f t (length s.out.now) c.in-Ok.found ran z,
      outcome_lent listing_room l f t (length s.out.now) c.in-Ok.found ran z,
    )

pub returns-in-Ok : goal.returns-in-Ok
unfolding lent_listing_answer lent_listing_bytes
returns-in-Ok c =
    let s = c.args in
    let l = s.query.now in
    let f = asked_field l s.f.now in
    let t = asked_trim l s.t.now in
    let r = c.in-Ok.found in
    let ran = c.in-Ok.ensures.ran r refl in
    let z = sym c.in-Ok.ensures.code in
    let put = c.put_listing in
    let same = lents listing_room l f t (length s.out.now) r ran z in
    let size = put.ensures.upper_bound.1 ∙ ap₂ (λ x y. length (listing r.query x y)) same.0 same.1 in
    let bytes = put.ensures.out_after ∙ ap₂ (λ x y. put_at 0 (listing r.query x y) s.out.now) same.0 same.1 in
    let end =
    found listing_room l f t (length s.out.now) (λ (q : Query). length (listing q f t))
    (λ (q : Query). put_at 0 (listing q f t) s.out.now) s.out.now z r ran put.result put.new.out size bytes in
    record {
      value = to_z_pos w32 {n = put.result} (omega (arith, put.ensures.upper_bound.0)) ∙ end.0;
      out_after = end.1;
    }
