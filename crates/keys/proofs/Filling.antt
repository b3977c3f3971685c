-- The pairs of keys go into places, one by one, and zeros beyond them. Assumes nothing.
use Rattle.std.proofs.Common.{◌≡◌, List, ℕ, [], ◌∷◌, ◌++◌, ◌+◌, ◌-◌, ◌<◌, ◌≤◌, length, take, drop, map, get_or}
use Rattle.std.proofs.Common.{slice_set}
use Rattle.std.proofs.Common.{replicate, refl, ap, ap₂, sym, ◌∙◌, arith, add-one, take-suc, length-take-le, length-drop}
use Rattle.std.proofs.lemmas.List.{length-map}
use Rattle.std.proofs.Math.ListN.{drop_of_length-le}
use Rattle.std.proofs.Math.Seq.{take-suc-set}
use mathlib.Core.List.{map-append, append-nil}
use borrow.Rule.Slice.PartMut.{put_mid, mid_of}
use Rattle.rules.specs.declared.Pair.{Pair}
use Rattle.rules.specs.Session.{no_pair, places}
use Rattle.keys.specs.Held.{pair_of}
use Rattle.keys.specs.Places.{places_of}

pub fill_on : (pairs : List Pair) (b : List ℕ) (i : ℕ) (p : Pair) → take i pairs ≡ map pair_of (take i b)
    → i < length pairs → i < length b → p ≡ pair_of (get_or b i 0)
    → take (i + 1) (slice_set pairs i p) ≡ map pair_of (take (i + 1) b)
fill_on pairs b i p so_far h k e =
    rw (add-one i, take-suc-set pairs i p h, take-suc b i 0 k, map-append pair_of (take i b) (get_or b i 0 ∷ []))
    (ap₂ (λ (l : List Pair) (q : Pair). l ++ q ∷ []) so_far e)

pub fill_ends : (pairs rest : List Pair) (b ks : List ℕ) (n : ℕ) → take n b ≡ ks → take n pairs ≡ map pair_of (take n b)
    → n ≤ 64 → length pairs ≡ 64 → length b ≡ 64
    → rest ≡ replicate (length (mid_of n (64 - n) pairs)) no_pair
    → put_mid n (64 - n) pairs rest ≡ places_of ks
unfolding places_of places
fill_ends pairs rest b ks n view so_far few long room e =
    let all : length (map pair_of ks) ≡ n =
    length-map ks pair_of ∙ ap length (sym view) ∙ length-take-le n b (omega arith) in
    let left : length (mid_of n (64 - n) pairs) ≡ 64 - n =
    length-take-le (64 - n) (drop n pairs) (omega (arith, length-drop n pairs)) in
    let none : drop (64 - n) (drop n pairs) ≡ [] =
    drop_of_length-le (drop n pairs) {i = 64 - n} (omega (arith, length-drop n pairs)) in
    rw (so_far, view, none, e, left, all, append-nil (replicate (64 - n) no_pair)) refl
