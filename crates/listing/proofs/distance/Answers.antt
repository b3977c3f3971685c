-- `distance` meets its contract: what 64 bits hold is not cut. Assumes nothing.
use mathlib.Core.Path.{◌≡◌}
use Prim.Native.Nat.{◌-◌, ◌<◌, ◌^◌, min}
use native.Mathlib.Omega.{arith}
use Rattle.rules.specs.Tables.{table, row, squared_distance}
use Rattle.listing.specs.Shown.{line_of}
use Rattle.listing.proofs.distance.Goals as goal

pub returns : goal.returns
unfolding line_of
returns c =
    let s = c in
    let x = (row (table s.args.n s.args.f.now) (s.args.p.field - 1)).shade in
    let y = (row (table s.args.n s.args.t.now) (s.args.p.trim - 1)).shade in
    let small : squared_distance x y < 2 ^ 64 = s.requires.small in
    let e : c.squared_distance.result ≡ min (squared_distance x y) (2 ^ 64 - 1) =
    simp (c.shade-x.ensures.0, c.shade-y.ensures.0) at
    c.squared_distance.ensures in
    omega arith
