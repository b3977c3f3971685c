-- `put_tail` meets its contract: six numbers, the last the meaning's. Assumes nothing.
use Rattle.std.proofs.lemmas.Slice.{put_mid-paste}
use native.Mathlib.Omega.{arith}
use mathlib.Core.Path.{◌∙◌}
use Rattle.record_layout.specs.Flat.{field_weight_at, flat_tail}
use Rattle.record_ends.proofs.put_tail.Goals as goal

pub returns : goal.returns
unfolding flat_tail
returns c =
    put_mid-paste field_weight_at 6 c.args.out.now _ (flat_tail c.args.s) 6
    (c.copy_from_slice.ensures.after ∙ simp c.from.ensures) (omega arith) (omega arith)
