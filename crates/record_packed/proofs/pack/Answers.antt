-- `pack` meets its contract: after i turns the first i pairs are laid down. Assumes nothing.
use mathlib.Core.Path.{◌≡◌, refl, ap, ◌∙◌}
use mathlib.Core.List.{List, ◌++◌}
use Prim.Native.Nat.{ℕ, ◌+◌, ◌*◌}
use native.Mathlib.Omega.{arith}
use lib.ListN.{length, get_or, take, drop}
use lib.Seq.{take_all}
use Rattle.lists.specs.Lists.{each}
use Rattle.rules.specs.declared.Pair.{Pair}
use Rattle.rules.specs.Session.{no_pair, place_count}
use Rattle.rules.proofs.Places.{pairs_long}
use Rattle.record_layout.specs.Flat.{pairs_at, pair_size, pair_place, field_weight_at, flat_size, flat_pair}
use Rattle.record_layout.specs.Flat.{flat_head, flat_tail, flatten}
use Rattle.record_layout.specs.RoundTrip.{flat_length}
use Rattle.record_layout.proofs.Places.{onto, laid_to, none_laid, one_out}
use Rattle.record_packed.proofs.pack.Goals as goal

pub loop-i-init : goal.loop-i-init
loop-i-init c = none_laid c.put_head.new.out c.args.s.pairs

pub loop-i-preserved : goal.loop-i-preserved
unfolding flat_pair
loop-i-preserved c =
    let v = c.loop-i in
    let s = c.args.s in
    let l = c.put_head.new.out in
    let p = get_or s.pairs v.i no_pair in
    c.put_pair.ensures
    ∙ ap (λ (r : List ℕ). take (pair_place v.i) r ++ flat_pair p ++ drop (pair_place v.i + pair_size) r) v.invariant
    ∙ one_out l s.pairs (omega (arith, c.put_head.auto.out, c.requires)) v.i
    (omega (arith, pairs_long s _ c.well_formed.0, c.loop-i-test.true))

pub returns : goal.returns
unfolding flatten flat_head flat_tail
returns c =
    let v = c.loop-i in
    let s = c.args.s in
    let l = c.args.out.now in
    let head = c.put_head in
    let last = head.new.out in
    let pairs = each flat_pair s.pairs in
    let places = pairs_long s _ c.well_formed.0 in
    let e : v.i ≡ place_count = omega (arith, places, v.auto.i-end, c.loop-i-test.false) in
    let long : length (flat_head s ++ pairs) ≡ field_weight_at = omega (arith, flat_length s.pairs, places) in
    c.put_tail.ensures
    ∙ ap (λ (r : List ℕ). take field_weight_at r ++ flat_tail s ++ drop flat_size r)
    (v.invariant
    ∙ ap (laid_to last s.pairs) e
    ∙ ap (λ (a : List Pair). take pairs_at last ++ each flat_pair a ++ drop field_weight_at last)
    (take_all place_count s.pairs (omega (arith, places)))
    ∙ ap (λ (r : List ℕ). take pairs_at r ++ pairs ++ drop field_weight_at r) head.ensures
    ∙ onto (flat_head s) pairs l pairs_at (pair_size * place_count) refl)
    ∙ onto (flat_head s ++ pairs) (flat_tail s) l field_weight_at 6 long
