-- `moved_back` meets its contract: the root of n times a square, divided by the square's side, is the root of n.
-- Assumes nothing.
use lib.Pow.{pow_pos}
use Rattle.root.specs.Roots.{root_scaled, parted_root}
use Rattle.root.proofs.moved_back.Goals as goal

pub with_rest-requires : goal.with_rest-requires
with_rest-requires c =
    let s = c in
    root_scaled _ _ _ (pow_pos s.args.by) (parted_root s.requires.0)
