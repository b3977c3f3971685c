-- `put_block` meets its contract. Assumes nothing.
use Prim.Native.Nat.{◌-◌}
use native.Mathlib.Nat.{div-mul-le_self}
use native.Mathlib.Omega.{arith}
use Rattle.flat_show.proofs.put_block.Goals as goal

pub overflow_mul-a : goal.overflow_mul-a
overflow_mul-a c = record { fits = omega (arith, div-mul-le_self (c.args.depth - 1) c.args.block) }

pub overflow_add-a : goal.overflow_add-a
overflow_add-a c =
    let s = c.args in
    record { fits = omega (arith, div-mul-le_self (s.depth - 1) s.block) }

pub overflow_sub-depth : goal.overflow_sub-depth
overflow_sub-depth c =
    let s = c.args in
    omega (arith, div-mul-le_self (s.depth - 1) s.block)
