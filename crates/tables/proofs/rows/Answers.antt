-- `rows` meets its contract: so many rows from where row a + 1 begins. Assumes nothing.
use mathlib.Core.Path.{◌≡◌, refl, sym, ap}
use Prim.Native.Nat.{ℕ, ◌+◌, ◌*◌, ◌-◌}
use native.Mathlib.Nat.{mul-sub}
use native.Mathlib.Omega.{arith}
use lib.ListN.{take, drop}
use Rattle.rules.specs.Tables.{Table, table, width, after_rows, part}
use Rattle.rules.specs.Widths.{part_count}
use Rattle.tables.proofs.rows.Goals as goal

-- the numbers from the start of row a + 1 to the end of row e
between : (t : Table) (a e : ℕ)
    → take (width t.coordinates * e - width t.coordinates * a) (drop (width t.coordinates * a) t.numbers)
    ≡ (part t a (e - a)).numbers
between t a e =
    ap (λ (k : ℕ). take k (after_rows a t).numbers) (sym (mul-sub (width t.coordinates) e a))

pub returns-clause-result_value : goal.returns-clause-result_value
returns-clause-result_value c =
    let s = c in
    let t = table s.args.n s.args.t.now in
    let all : s.args.a + (s.args.e - s.args.a) ≡ s.args.e = omega arith in
    rw (c.start-to.ensures, c.start-from.ensures, between t s.args.a s.args.e)
    (refl, part_count t s.args.a (s.args.e - s.args.a) (rw all s.requires.1))
