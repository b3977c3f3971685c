-- `last_rows` meets its contract: the part from the last block's first row on. Assumes nothing.
use Prim.Native.Nat.{◌-◌}
use native.Mathlib.Nat.{div-mul-le_self}
use native.Mathlib.Omega.{arith}
use Rattle.showing.proofs.last_rows.Goals as goal

pub overflow_mul-a : goal.overflow_mul-a
overflow_mul-a c = record { fits = omega (arith, div-mul-le_self (c.args.depth - 1) c.args.block) }

pub overflow_cast-a : goal.overflow_cast-a
overflow_cast-a c = record { fits = omega (arith, div-mul-le_self (c.args.depth - 1) c.args.block) }

pub rows-requires : goal.rows-requires
rows-requires c = (omega (arith, div-mul-le_self (c.args.depth - 1) c.args.block), c.requires.3)
