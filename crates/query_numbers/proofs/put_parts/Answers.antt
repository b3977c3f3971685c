-- `put_parts` meets its contract. Assumes nothing.
use mathlib.Core.Path.{sym, ap, ◌∙◌}
use mathlib.Core.List.{List}
use Prim.Native.Nat.{ℕ, ◌+◌, ◌*◌, ◌≤◌}
use native.Mathlib.Nat.{mul-le-mul_left}
use native.Mathlib.Omega.{arith}
use lib.ListN.{length, get_or}
use Rattle.rules.specs.Tables.{table}
use Rattle.rules.specs.declared.Pair.{Pair}
use Rattle.rules.specs.Session.{no_pair, place_count}
use Rattle.rules.specs.Query.{list}
use Rattle.printing.specs.Put.{put_at}
use Rattle.printing.specs.Laid.{writing_on, writing_ends}
use Rattle.listing.specs.ListShown.{count_is, count_few, pair_at_lem}
use Rattle.query_numbers.specs.Parts.{part_length}
use Rattle.query_numbers.proofs.Steps.{part_at, part_at_length, parts_laid}
use Rattle.query_numbers.proofs.put_parts.Goals as goal

-- a part more is within the room of all
room : (wide i n : ℕ) → i + 1 ≤ n → wide * i + wide ≤ wide * n
room wide i n h = omega (arith, mul-le-mul_left wide h)

pub put_part-requires : goal.put_part-requires
put_part-requires c =
    let s = c.args in
    let i = c.loop-i.i in
    let f = table s.n s.f.now in
    let t = table s.n s.t.now in
    let few = count_few f t s.run c.requires.outcome_of in
    let fits = room (part_length s.part) i place_count (omega (arith, few, c.loop-i-test.true)) in
    let width = ap (λ (w : ℕ). w * i) c.length-wide.ensures in (
      omega arith,
      (pair_at_lem f t s.run c.requires.outcome_of i c.loop-i-test.true).shown,
    )

pub loop-i-preserved : goal.loop-i-preserved
loop-i-preserved c =
    let put = c.put_part in
    let l = c.loop-i in
    let s = c.args in
    let f = table s.n s.f.now in
    let t = table s.n s.t.now in
    let p = pair_at_lem f t s.run c.requires.outcome_of l.i c.loop-i-test.true in
    let o = s.at + part_length s.part * l.i in
    let put_is =
    put.ensures
    ∙ ap (λ (w : ℕ). put_at (s.at + w * l.i) (part_at s.part f t l.i (get_or s.run.pairs l.i no_pair)) l.out)
    c.length-wide.ensures
    ∙ ap (λ (x : Pair). put_at o (part_at s.part f t l.i x) l.out) p.same in
    writing_on (part_at_length s.part f t) l.invariant p.within no_pair put.new.out put_is

pub returns : goal.returns
returns c =
    let s = c.args in
    let f = table s.n s.f.now in
    let t = table s.n s.t.now in
    let l = c.loop-i in
    let all = list s.run.query f t in
    let done : length all ≤ l.i = omega (arith, c.loop-i-test.false, count_is f t s.run c.requires.outcome_of) in
    writing_ends (part_at_length s.part f t) l.invariant done
    ∙ ap (λ (b : List ℕ). put_at s.at b s.out.now) (sym (parts_laid s.part f t s.run.query))
