-- `side_gap` meets its contract: the difference that the tests choose is the gap. Assumes nothing.
use Rattle.std.proofs.Common.{rules, ◌∙◌, inl, inr, SFits, to_z, to_z-of_z, w32, w64, arith}
use borrow.Author.Rules.{sfits_of}
use Rattle.rules.specs.Tables.{side_gap}
use Rattle.sides.proofs.Gaps as G
use Rattle.sides.proofs.side_gap.Goals as goal
use Rattle.sides.proofs.side_gap.Goals.{Joined-above-gt0, then-above-gt0, else-above-gt0}

chosen : (c : Joined-above-gt0)
    → G.Is (to_z w64 c.if-above-gt0.gap-bits) (side_gap (record { low = c.args.low; high = c.args.high }) c.args.o)
chosen c =
    let f : SFits w32 c.args.o.low = search rules in
    let g : SFits w32 c.args.o.high = search rules in
    G.chosen_is (record { low = c.args.low; high = c.args.high }) c.args.o c.ranges.low c.ranges.high f g
    (to_z w64 c.if-above-gt0.gap-bits)
    (elim c.if-above-gt0.branch [
      | then-above-gt0 w ↦ inl (
        simp (c.from.ensures, c.from-2.ensures) at w.if-above-gt0.true,
        simp (c.from.ensures, c.from-2.ensures) at w.gap-is,
      )
      | else-above-gt0 w ↦ inr (
        simp (c.from.ensures, c.from-2.ensures) at w.if-above-gt0.false,
        w.gap-is
            ∙ to_z-of_z {w = w64} {z = w.max-gap.result} (sfits_of w.max-gap.type_inv)
            ∙ simp (c.from-3.ensures, c.from-4.ensures) at w.max-gap.ensures.value,
      )
    ])

pub overflow_cast-result : goal.overflow_cast-result
overflow_cast-result c =
    let i = chosen (goal.at.overflow_cast-result c).Joined-above-gt0 in
    (i.0, record { fits = omega (arith, i.2) })

pub returns : goal.returns
returns c = let i = chosen (goal.at.returns c).Joined-above-gt0 in (i.1, i.2)
