-- `far` meets its contract: by the first three rows, and else by all. Assumes nothing.
use Rattle.std.proofs.Common.{◌≡◌, sym, ap, ◌∙◌, Bool, ℕ, ◌*◌, List, ℤ, ltb, arith}
use Rattle.rules.specs.declared.Query.{Query}
use Rattle.rules.specs.Tables.{Table, table, row_count}
use Rattle.rectangles.proofs.Sums as S
use Rattle.rectangles.proofs.far.Goals as goal

-- whether the first m rows lie too far, each gap lowered by so much
abbrev test : Query → List ℤ → Table → ℕ → ℕ → Bool
test q sides t less m = ltb (q.radius * q.radius) (S.all_squares less sides t m)

pub returns-then-m-eq1 : goal.returns-then-m-eq1
returns-then-m-eq1 c x stands =
    let t = table c.args.n c.args.t.now in
    let one : 1 ≡ row_count t = omega (arith, c.row_count-m.ensures, c.if-m-eq1.true) in
    c.front_far.ensures
    ∙ ap (test c.args.q c.args.sides.now t c.both-less.result) one
    ∙ ap (λ less. test c.args.q c.args.sides.now t less (row_count t)) c.both-less.ensures.0
    ∙ S.by_all c.args.q x c.args.sides.now t stands

pub returns-then-front_near : goal.returns-then-front_near
returns-then-front_near c x stands =
    let t = table c.args.n c.args.t.now in
    let near = c.front_near.ensures c.if-front_near.true in
    S.by_first c.args.q x c.args.sides.now t stands 3 (omega arith)
    (omega (arith, c.row_count-m.ensures, near.0))
    (sym (ap (λ less. test c.args.q c.args.sides.now t less 3) c.both-less.ensures.0) ∙ near.1)

pub returns : goal.returns
returns c x stands =
    let t = table c.args.n c.args.t.now in
    c.rows_far.ensures
    ∙ ap (test c.args.q c.args.sides.now t c.both-less.result) c.row_count-m.ensures
    ∙ ap (λ less. test c.args.q c.args.sides.now t less (row_count t)) c.both-less.ensures.0
    ∙ S.by_all c.args.q x c.args.sides.now t stands
