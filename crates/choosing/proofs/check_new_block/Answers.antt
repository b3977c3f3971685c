-- `new_block_code` meets its contract. Assumes nothing.
use mathlib.Core.Path.{◌≡◌, refl, sym, ap, subst, subst₂, ◌∙◌}
use native.Mathlib.Omega.{arith}
use Prim.Native.Nat.{ℕ, ◌+◌, ◌-◌, ◌≤◌}
use mathlib.Core.Bool.{Bool, cond}
use Rattle.rules.specs.Session.{lent_table}
use Rattle.rules.specs.Tables.{Table, most_rows, HasRows}
use Rattle.rules.specs.Read.{old_depth, new_depth}
use Rattle.rules.proofs.Places.{pairs_long}
use Rattle.choosing.specs.Due.{Due, due, new_inside, code_is}
use Rattle.choosing.proofs.check_new_block.Goals as goal
use Rattle.choosing.proofs.check_new_block.Goals.{After-field_next-field, After-next_depth-e}

-- what is known of the table that is read next
known : (c : After-field_next-field) → let s = c.args in
    Due c.field_next-field.result (lent_table s.s s.f.now) (lent_table s.s s.t.now) s.s
known c =
    let s = c.args in
    let long = pairs_long s.s _ c.well_formed.1.1.0 in
    due (lent_table s.s s.f.now) (lent_table s.s s.t.now) s.s c.requires.0.lent long c.requires.1
    c.field_next-field.result c.field_next-field.ensures

pub next_depth-e-requires : goal.next_depth-e-requires
next_depth-e-requires c =
    let k = known (goal.at.next_depth-e-requires c).After-field_next-field in
    (k.ready.query.block.1, omega (arith, c.pick-d.ensures, k.left, k.few))

-- the depths before and after
old : (c : After-next_depth-e) → c.pick-d.result ≡ old_depth c.field_next-field.result c.args.s
old c = c.pick-d.ensures

new : (c : After-next_depth-e) → c.next_depth-e.result ≡ new_depth c.field_next-field.result c.args.s
new c = simp (c.next_depth-e.ensures, c.pick-d.ensures, c.pick-rows.ensures) refl

-- the new block lies within its table
inside : (c : After-next_depth-e)
    → let s = c.args in
    (c.pick-d.result ≤ c.next_depth-e.result) × (c.next_depth-e.result ≤ most_rows)
    × HasRows (cond c.field_next-field.result (lent_table s.s s.f.now) (lent_table s.s s.t.now)) c.next_depth-e.result
inside c =
    let s = c.args in
    let b = c.field_next-field.result in
    let f = lent_table s.s s.f.now in
    let t = lent_table s.s s.t.now in
    let long = pairs_long s.s _ c.well_formed.1.1.0 in
    let k = new_inside f t s.s b (due f t s.s c.requires.0.lent long c.requires.1 b c.field_next-field.ensures) in (
      omega (arith, old c, new c, k.0),
      omega (arith, new c, k.1),
      subst (HasRows (cond b f t)) (sym (new c)) k.2,
    )

-- so its rows may be looked at
looked : (own t : Table) (d e : ℕ) → (d ≤ e) × (e ≤ most_rows) × HasRows own e → own ≡ t
    → (d + (e - d) ≤ most_rows) × HasRows t (d + (e - d))
looked own t d e k same =
    let end : e ≡ d + (e - d) = omega (arith, k.0) in
    (omega (arith, k.0, k.1), subst₂ HasRows same end k.2)

pub overflow_sub-n : goal.overflow_sub-n
overflow_sub-n c = (inside (goal.at.overflow_sub-n c).After-next_depth-e).0

pub check_rows-requires : goal.check_rows-requires
check_rows-requires c =
    let s = c.args in
    let f = lent_table s.s s.f.now in
    let t = lent_table s.s s.t.now in
    looked _ f _ _ (inside (goal.at.check_rows-requires c).After-next_depth-e)
    (ap (λ (b : Bool). cond b f t) c.if-field.true)

pub returns-then-field : goal.returns-then-field
returns-then-field c =
    let s = c.args in
    let f = lent_table s.s s.f.now in
    let t = lent_table s.s s.t.now in
    let here = (goal.at.returns-then-field c).After-next_depth-e in
    let same = sym (ap (λ (b : Bool). cond b f t) c.if-field.true) in
    c.check_rows.ensures
    ∙ code_is f t s.s c.field_next-field.result c.field_next-field.ensures f c.pick-d.result c.next_depth-e.result same
    (old here) (new here)

pub check_rows-requires-2 : goal.check_rows-requires-2
check_rows-requires-2 c =
    let s = c.args in
    let f = lent_table s.s s.f.now in
    let t = lent_table s.s s.t.now in
    looked _ t _ _ (inside (goal.at.check_rows-requires-2 c).After-next_depth-e)
    (ap (λ (b : Bool). cond b f t) c.if-field.false)

pub returns : goal.returns
returns c =
    let s = c.args in
    let f = lent_table s.s s.f.now in
    let t = lent_table s.s s.t.now in
    let here = (goal.at.returns c).After-next_depth-e in
    let same = sym (ap (λ (b : Bool). cond b f t) c.if-field.false) in
    c.check_rows-2.ensures
    ∙ code_is f t s.s c.field_next-field.result c.field_next-field.ensures t c.pick-d.result c.next_depth-e.result same
    (old here) (new here)
