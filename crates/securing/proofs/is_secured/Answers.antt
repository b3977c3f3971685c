-- `is_secured` meets its contract. Assumes nothing.
use mathlib.Core.Path.{◌≡◌, refl}
use mathlib.Core.Bool.{true, false}
use Rattle.rules.specs.Session.{lent_table, both_read_out}
use Rattle.ceiling.specs.Bare.{bare}
use Rattle.securing.specs.Last.{read_secured}
use Rattle.securing.proofs.is_secured.Goals as goal

pub returns-then-field_out-trim_out : goal.returns-then-field_out-trim_out
returns-then-field_out-trim_out c =
    let a = c.args in
    let b = bare a.n a.rows a.depth a.weights in
    let out : both_read_out (lent_table b a.f.now) (lent_table b a.t.now) b ≡ true =
    simp (c.read_out-field_out.ensures, c.read_out-trim_out.ensures) at c.if-field_out-trim_out.true in
    rw (read_secured (lent_table b a.f.now) (lent_table b a.t.now) b a.p c.requires)
    (simp out refl)

pub returns : goal.returns
returns c =
    let a = c.args in
    let b = bare a.n a.rows a.depth a.weights in
    let out : both_read_out (lent_table b a.f.now) (lent_table b a.t.now) b ≡ false =
    simp (c.read_out-field_out.ensures, c.read_out-trim_out.ensures) at c.if-field_out-trim_out.false in
    rw (read_secured (lent_table b a.f.now) (lent_table b a.t.now) b a.p c.requires)
    (simp (out, c.threshold.ensures, c.from.ensures) refl)
