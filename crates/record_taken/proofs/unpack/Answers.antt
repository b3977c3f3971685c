-- `unpack` meets its contract: after i turns the first i places are taken back. Assumes nothing.
use mathlib.Core.Path.{◌≡◌, ap, ◌∙◌}
use mathlib.Core.List.{List, ◌++◌, append-nil}
use Prim.Native.Nat.{ℕ}
use native.Mathlib.Omega.{arith}
use lib.ListN.{drop, set, replicate}
use Rattle.lists.specs.Lists.{range}
use Rattle.rules.specs.declared.Pair.{Pair}
use Rattle.rules.specs.declared.Session.{Session}
use Rattle.rules.specs.Session.{no_pair, place_count}
use Rattle.record_layout.specs.Flat.{pairs_in, with_pairs, unflatten}
use Rattle.record_layout.proofs.Places.{one_in}
use Rattle.record_taken.proofs.unpack.Goals as goal

abbrev zeros : List Pair
zeros = replicate place_count no_pair

-- a record with one place set
abbrev put : Session → ℕ → Pair → Session
put s i p =
    record {
      query = s.query;
      rows = s.rows;
      depth = s.depth;
      last = s.last;
      out = s.out;
      held = s.held;
      pairs = set s.pairs i p;
      joined = s.joined;
    }

pub loop-i-init : goal.loop-i-init
unfolding pairs_in range
loop-i-init c = c.head_in-s.ensures

pub loop-i-preserved : goal.loop-i-preserved
unfolding with_pairs
loop-i-preserved c =
    let l = c.args.l.now in
    let v = c.loop-i in
    let p = c.pair_in.result in
    ap (λ (s : Session). put s v.i p) v.invariant
    ∙ ap (λ (p : Pair). with_pairs l (set (pairs_in l v.i ++ drop v.i zeros) v.i p)) c.pair_in.ensures
    ∙ ap (with_pairs l) (one_in l zeros v.i c.loop-i-test.true)

pub returns : goal.returns
unfolding unflatten
returns c =
    let l = c.args.l.now in
    let v = c.loop-i in
    let e : v.i ≡ place_count = omega (arith, v.auto.i-end, c.loop-i-test.false) in
    v.invariant
    ∙ ap (λ (i : ℕ). with_pairs l (pairs_in l i ++ drop i zeros)) e
    ∙ ap (with_pairs l) (append-nil (pairs_in l place_count))
