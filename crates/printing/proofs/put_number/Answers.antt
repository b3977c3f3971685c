-- `put_number` meets its contract: the columns written so far stand behind what is left of the number. Assumes nothing.
use Rattle.std.proofs.Common.{◌≡◌, refl, sym, ap, ◌∙◌, List, ℕ, suc, ◌-◌, arith}
use Rattle.printing.specs.Put.{put_at, put_none}
use Rattle.printing.specs.Numbers.{left, none_left, one_column}
use Rattle.printing.proofs.put_number.Goals as goal

pub loop-w-init : goal.loop-w-init
unfolding left
loop-w-init c = refl

pub loop-w-preserved : goal.loop-w-preserved
loop-w-preserved c =
    let l = c.loop-w in
    let some : l.w ≡ suc (l.w - 1) = omega arith in
    let last = c.last_column in
    one_column c.args.at l.w (l.w - 1) l.rest l.more last.result l.out some last.ensures ∙ l.invariant

pub returns : goal.returns
returns c =
    let l = c.loop-w in
    let at = c.args.at in
    let done : l.w ≡ 0 = omega arith in
    sym (put_none at l.out)
    ∙ ap (λ (b : List ℕ). put_at at b l.out) (sym (none_left l.more l.w l.rest done))
    ∙ l.invariant
