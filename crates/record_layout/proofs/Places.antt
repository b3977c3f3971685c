-- Numbers laid down one behind the other, and pairs taken back one after the other. Assumes nothing.
use mathlib.Core.Path.{◌≡◌, sym, ap, ◌∙◌}
use mathlib.Core.List.{List, [], ◌∷◌, ◌++◌, append_assoc, append-nil}
use Prim.Native.Nat.{ℕ, suc, ◌+◌, ◌≤◌, ◌<◌}
use native.Mathlib.Omega.{arith}
use native.Mathlib.Numerals.{add-one}
use lib.ListN.{length, get_or, take, drop, set, length-append, take-append-drop}
use lib.Seq.{take_at, drop-append-add, drop-drop, drop-cons, take-suc, set_at, append_snoc, length-take-le}
use Rattle.lists.specs.Lists.{each}
use Rattle.lists.specs.Appends.{each_append}
use Rattle.lists.specs.Parts.{length_map_range}
use Rattle.rules.specs.declared.Pair.{Pair}
use Rattle.rules.specs.Session.{no_pair}
use Rattle.record_layout.specs.Flat.{pairs_at, pair_size, pair_place, laid_at, flat_pair, pair_in, pairs_in}
use Rattle.record_layout.specs.RoundTrip.{flat_length, pairs_end}

-- m numbers laid behind n that already stand in front of l
module _ {A : Type 0} (xs vs l : List A) (n m : ℕ) (h : length xs ≡ n) where
  after : drop (n + m) (xs ++ drop n l) ≡ drop (n + m) l
  after = rw (← h) (drop-append-add xs (drop (length xs) l) m ∙ drop-drop m (length xs) l)

  pub onto : take n (xs ++ drop n l) ++ vs ++ drop (n + m) (xs ++ drop n l) ≡ xs ++ vs ++ drop (n + m) l
  onto = simp (take_at xs (drop n l) n h, after)

-- numbers laid from place o on, and others behind them
pub laid_on : (o : ℕ) (x y l : List ℕ) → o ≤ length l → laid_at (o + length x) y (laid_at o x l) ≡ laid_at o (x ++ y) l
laid_on o x y l h =
    let n = o + length x in
    let front = take o l in
    let long : length (front ++ x) ≡ n = omega (arith, length-append front x, length-take-le o l h) in
    let e : n + length y ≡ o + length (x ++ y) = omega (arith, length-append x y) in
    onto (front ++ x) y l n (length y) long
    ∙ ap (λ (r : List ℕ). r ++ drop (n + length y) l) (append_assoc front x y)
    ∙ ap (λ (m : ℕ). front ++ (x ++ y) ++ drop m l) e

-- the pairs of the first i places
module _ (l : List ℕ) where
  pub pairs_length : (n : ℕ) → length (pairs_in l n) ≡ n
  unfolding pairs_in
  pairs_length n = length_map_range (pair_in l) 0 n

  pub one_in : (a : List Pair) (i : ℕ) → i < length a
      → set (pairs_in l i ++ drop i a) i (pair_in l i) ≡ pairs_in l (i + 1) ++ drop (i + 1) a
  one_in a i h =
      ap (λ (r : List Pair). set (pairs_in l i ++ r) i (pair_in l i)) (drop-cons a i no_pair h)
      ∙ set_at (pairs_in l i) (get_or a i no_pair) (drop (suc i) a) (pair_in l i) i (pairs_length i)
      ∙ sym (append_snoc (pairs_in l i) (pair_in l i) (drop (suc i) a))
      ∙ rw (add-one, pairs_end l i)

-- after i pairs: those laid down behind the numbers in front, and what stood behind them
abbrev pub laid_to : List ℕ → List Pair → ℕ → List ℕ
laid_to l a i = take pairs_at l ++ each flat_pair (take i a) ++ drop (pair_place i) l

pub none_laid : (l : List ℕ) (a : List Pair) → l ≡ laid_to l a 0
unfolding each
none_laid l a =
    sym (ap (λ (r : List ℕ). r ++ drop pairs_at l) (append-nil (take pairs_at l)) ∙ take-append-drop pairs_at l)

module _ (l : List ℕ) (a : List Pair) (long : pairs_at ≤ length l) where
  flat_end : (i : ℕ) → i < length a
      → each flat_pair (take (suc i) a) ≡ each flat_pair (take i a) ++ flat_pair (get_or a i no_pair)
  unfolding each flat_pair
  flat_end i h =
      ap (each flat_pair) (take-suc a i no_pair h) ∙ each_append flat_pair (take i a) (get_or a i no_pair ∷ [])

  front : (i : ℕ) → i ≤ length a → length (take pairs_at l ++ each flat_pair (take i a)) ≡ pair_place i
  front i h =
      let both = length-append (take pairs_at l) (each flat_pair (take i a)) in
      omega (arith, both, length-take-le pairs_at l long, flat_length (take i a), length-take-le i a h)

  pub one_out : (i : ℕ) → i < length a
      → take (pair_place i) (laid_to l a i) ++ flat_pair (get_or a i no_pair)
      ++ drop (pair_place i + pair_size) (laid_to l a i)
      ≡ laid_to l a (i + 1)
  one_out i h =
      let k : pair_place (suc i) ≡ pair_place i + pair_size = omega arith in
      let head = take pairs_at l in
      let done = each flat_pair (take i a) in
      let p = flat_pair (get_or a i no_pair) in
      let rest = drop (pair_place i + pair_size) l in
      onto (head ++ done) p l (pair_place i) pair_size (front i (omega arith))
      ∙ ap (λ (r : List ℕ). r ++ rest) (append_assoc head done p ∙ sym (ap (λ (r : List ℕ). head ++ r) (flat_end i h)))
      ∙ sym (ap (λ (m : ℕ). head ++ each flat_pair (take (suc i) a) ++ drop m l) k)
      ∙ sym (ap (laid_to l a) (add-one i))
