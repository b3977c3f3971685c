-- `whole_query` meets its contract. Assumes nothing.
use mathlib.Core.Path.{subst}
use Prim.Native.Nat.{◌≤◌}
use lib.ListN.{length}
use Rattle.listing.specs.Shown.{listing_room}
use Rattle.program.specs.Program.{Written}
use Rattle.rules.specs.Query.{whole_query}
use Rattle.program.proofs.Steps.{to_front, written_as, whole_listed, whole_refused}
use borrow.Author.Rules.{rules}
use Rattle.program.proofs.whole_query.Goals as goal

pub returns-in-Ok-clause-upper_bound : goal.returns-in-Ok-clause-upper_bound
returns-in-Ok-clause-upper_bound c =
    let s = c.args in
    let long : listing_room ≤ length s.out.now = search rules in
    (to_front long
    (written_as (whole_listed s.field.now s.trim.now s.input.now c.in-Ok.ensures.0) c.in-Ok.ensures.1)).0

pub returns-in-Ok-clause-out_after : goal.returns-in-Ok-clause-out_after
returns-in-Ok-clause-out_after c =
    let s = c.args in
    let long : listing_room ≤ length s.out.now = search rules in
    (to_front long
    (written_as (whole_listed s.field.now s.trim.now s.input.now c.in-Ok.ensures.0) c.in-Ok.ensures.1)).1

pub returns-in-Err-clause-upper_bound : goal.returns-in-Err-clause-upper_bound
returns-in-Err-clause-upper_bound c =
    let s = c.args in
    let long : listing_room ≤ length s.out.now = search rules in
    let kept =
    subst (λ l. Written (whole_query s.field.now s.trim.now s.input.now) l c.refuse.new.out c.refuse.result)
    c.in-Err.ensures.1
    (written_as (whole_refused s.field.now s.trim.now s.input.now c.in-Err.refusal c.in-Err.ensures.0)
    c.refuse.ensures) in
    (to_front long kept).0

pub returns-in-Err-clause-out_after : goal.returns-in-Err-clause-out_after
returns-in-Err-clause-out_after c =
    let s = c.args in
    let long : listing_room ≤ length s.out.now = search rules in
    let kept =
    subst (λ l. Written (whole_query s.field.now s.trim.now s.input.now) l c.refuse.new.out c.refuse.result)
    c.in-Err.ensures.1
    (written_as (whole_refused s.field.now s.trim.now s.input.now c.in-Err.refusal c.in-Err.ensures.0)
    c.refuse.ensures) in
    (to_front long kept).1
