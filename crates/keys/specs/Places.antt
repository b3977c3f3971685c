-- A record's pair places read off the numbers of the pairs held. Assumes nothing.
use Rattle.std.specs.Prelude.{ℕ, zero, suc, ◌+◌, ◌-◌, ◌≤◌, ◌<◌, ◌≡◌, refl, Bool, true, false, cond, List, [], ◌∷◌, ◌++◌}
use Rattle.std.specs.Prelude.{map, ltb, length, get_or, take, drop, set, replicate}
use Rattle.std.proofs.Common.{sym, ap, ◌∙◌, arith, add-one, length-append, take-suc, length-take-le, drop-cons, lt-ltb}
use Rattle.std.proofs.Common.{le-ltb, ltb-true, ltb-false}
use Rattle.std.proofs.lemmas.List.{length-map, length-replicate, set_at}
use Rattle.std.proofs.Math.Seq.{take-append_seam, append_snoc}
use Rattle.rules.specs.declared.Pair.{Pair}
use Rattle.rules.specs.Session.{no_pair, places}
use Rattle.keys.specs.Held.{pair_of, place_at}

-- the places of the pairs of keys
unfoldable pub places_of : List ℕ → List Pair
places_of ks = places (map pair_of ks)

-- pairs in the first places are read off them again
pub list_of_places : (l : List Pair) → take (length l) (places l) ≡ l
unfolding places
list_of_places l = take-append_seam l (replicate (64 - length l) no_pair)

none_at : (n i : ℕ) → get_or (replicate n no_pair) i no_pair ≡ no_pair
none_at zero i = refl
none_at (suc n) zero = refl
none_at (suc n) (suc i) = none_at n i

next : (i m : ℕ) → ltb i m ≡ ltb (suc i) (suc m)
next i m = go (ltb i m) refl
  where
    go : (b : Bool) → ltb i m ≡ b → b ≡ ltb (suc i) (suc m)
    go true e = sym (lt-ltb (suc i) (suc m) (omega (arith, ltb-true i m e)))
    go false e = sym (le-ltb (suc i) (suc m) (omega (arith, ltb-false i m e)))

at : (n : ℕ) (ks : List ℕ) (i : ℕ) → place_at ks i ≡ get_or (map pair_of ks ++ replicate n no_pair) i no_pair
at n [] i = ap (λ (b : Bool). cond b (pair_of 0) no_pair) (le-ltb i 0 (omega arith)) ∙ sym (none_at n i)
at n (k ∷ ks) zero = ap (λ (b : Bool). cond b (pair_of k) no_pair) (lt-ltb 0 (length (k ∷ ks)) (omega arith))
at n (k ∷ ks) (suc i) =
    ap (λ (b : Bool). cond b (pair_of (get_or ks i 0)) no_pair) (sym (next i (length ks))) ∙ at n ks i

-- place i
pub place_is : (ks : List ℕ) (i : ℕ) → place_at ks i ≡ get_or (places_of ks) i no_pair
unfolding places_of places
place_is ks i = at (64 - length (map pair_of ks)) ks i

pub places_long : (ks : List ℕ) → length ks ≤ 64 → length (places_of ks) ≡ 64
unfolding places_of places
places_long ks h =
    let l = map pair_of ks in
    let n : length l ≡ length ks = length-map ks pair_of in
    length-append l (replicate (64 - length l) no_pair) ∙ omega (arith, length-replicate (64 - length l) no_pair)

-- Elements of l laid one after the other over those of a list as long

module _ {A : Type 0} (l a : List A) where
  -- after j of them
  abbrev pub filled : ℕ → List A
  filled j = take j l ++ drop j a

  pub one_filled : (d : A) (j : ℕ) → length a ≡ length l → j < length l → set (filled j) j (get_or l j d)
      ≡ filled (j + 1)
  one_filled d j same h =
      ap (λ (r : List A). set (take j l ++ r) j (get_or l j d)) (drop-cons a j d (omega arith))
      ∙ set_at (take j l) (get_or a j d) (drop (suc j) a) (get_or l j d) j (length-take-le j l (omega arith))
      ∙ sym (append_snoc (take j l) (get_or l j d) (drop (suc j) a))
      ∙ ap (λ (r : List A). r ++ drop (suc j) a) (sym (take-suc l j d h))
      ∙ ap filled (sym (add-one j))
