-- What a session holds is kept by joining, by skipping and by bringing out, and what it says of the region. Assumes a
-- rank.
use Rattle.std.specs.Prelude.{◌≡◌, refl, Bool, true, false, ◌⊎◌, ◌↔◌, ℕ, zero, suc, ◌+◌, ◌-◌, ◌≤◌, ◌<◌, min, ltb, take}
use Rattle.std.proofs.Math.Path.{sym, ap}
use Rattle.std.proofs.Common.{subst, ◌∙◌, inl, inr, ⊎_elim, arith, length-append, length-take, take_at, take_all}
use Rattle.std.proofs.Common.{leb-true, ltb-true, ltb-false}
use mathlib.Core.List.Memᴰ
use mathlib.Core.List.{List, [], ◌∷◌, ◌++◌, append-nil, map, map-append, Memᴰ}
use Rattle.std.proofs.Math.Dec.{leb}
use Rattle.std.proofs.Math.ListN.{length, length-map}
use Rattle.std.proofs.Math.Seq.{take-nil}
use Rattle.lists.specs.Lists.{keep, sort, ranked, at_least}
use Rattle.lists.specs.Bools.{clash}
use Rattle.lists.specs.Words.{All, Ordered, Distinct}
use Rattle.lists.specs.Sorts.{all_at, ranked_sort, ranked_ordered, sort_below, take_sort_append}
use Rattle.lists.specs.Members.{mem_sort, sort_ranked, ranked_first, ranked_rest, ranked_distinct, ranked_take}
use Rattle.lists.specs.Members.{mem_take, pigeonhole}
use Rattle.lists.specs.Parts.{append_distinct, keep_distinct, mem_keep, keep_map}
use Rattle.lists.specs.Counts.{count_append, count_some, count_all, count_take}
use Rattle.join.specs.Held.{Rank, Holds}

module _ {P : Type 0} {ahead : P → P → Bool} {sum : P → ℕ} (rank : Rank ahead sum) where
  -- what stands ahead is no lower
  pub ahead_sum : (p q : P) → ahead p q ≡ true → sum q ≤ sum p
  ahead_sum p q e = go (ltb (sum p) (sum q)) refl
    where
      go : (t : Bool) → ltb (sum p) (sum q) ≡ t → sum q ≤ sum p
      go true f = clash (rank.higher q p (ltb-true (sum p) (sum q) f)) (rank.order.asym p q e)
      go false f = ltb-false (sum p) (sum q) f

  -- what nothing later stands ahead of has falling sums
  ordered_sums : (l : List P) → Ordered ahead l → Ordered (λ x y. ltb y x) (map sum l)
  ordered_sums [] o = tt
  ordered_sums (x ∷ l) o = (low l o.0, ordered_sums l o.1)
    where
      low : (m : List P) → All (λ y. ahead y x ≡ false) m → All (λ y. ltb (sum x) y ≡ false) (map sum m)
      low [] h = tt
      low (y ∷ m) h = (go (ltb (sum x) (sum y)) refl, low m h.1)
        where
          go : (t : Bool) → ltb (sum x) (sum y) ≡ t → ltb (sum x) (sum y) ≡ false
          go true f = clash (rank.higher y x (ltb-true (sum x) (sum y) f)) h.0
          go false f = f

  -- pairs that are all lower than a full list of held ones change nothing
  pub skip_same : (n : ℕ) (held met : List P) → ranked ahead held ≡ true → length held ≡ n
      → ((p q : P) → Memᴰ p held → Memᴰ q met → sum q < sum p) → take n (sort ahead (held ++ met)) ≡ held
  skip_same n held met r e h =
      let sorted = ranked_sort ahead rank.order held r in
      ap (take n) (sort_below ahead rank.order held met sorted (λ p q a b. rank.higher p q (h p q a b)))
      ∙ take_at held (sort ahead met) n e

  -- nor does meeting no pair
  pub none_same : (n : ℕ) (held : List P) → ranked ahead held ≡ true → length held ≤ n
      → take n (sort ahead (held ++ [])) ≡ held
  none_same n held r h =
      ap (λ l. take n (sort ahead l)) (append-nil held)
      ∙ ap (take n) (ranked_sort ahead rank.order held r)
      ∙ take_all n held h

  -- nothing is held of an empty region
  pub holds_none : (k : ℕ) (R : P → Type 0) → ((p : P) → R p → ⊥) → Holds ahead k R [] [] []
  unfolding ranked
  holds_none k R h = record {
    in_rank = refl;
    front = sym (take-nil (k - 0));
    room = omega arith;
    once = tt;
    apart = λ p m. absurd (Memᴰ.not-nil m);
    inside = λ p m. absurd (⊎_elim Memᴰ.not-nil Memᴰ.not-nil m);
    known = λ p r. absurd (h p r);
  }

  -- the region may be put in other words
  pub holds_same : {k : ℕ} {R : P → Type 0} (R' : P → Type 0) {out rest held : List P} → ((p : P) → R p ↔ R' p)
      → Holds ahead k R out rest held → Holds ahead k R' out rest held
  holds_same R' e h = record {
    in_rank = h.in_rank;
    front = h.front;
    room = h.room;
    once = h.once;
    apart = h.apart;
    inside = λ p m. (e p).0 (h.inside p m);
    known = λ p r. h.known p ((e p).1 r);
  }

  -- the pairs of more rows join
  pub holds_join : {k : ℕ} {R : P → Type 0} (R' : P → Type 0) {out rest held : List P} (met : List P)
      → Holds ahead k R out rest held → Distinct met → ((p : P) → Memᴰ p met → R p → ⊥)
      → ((p : P) → R' p ↔ (R p ⊎ Memᴰ p met))
      → Holds ahead k R' out (sort ahead (rest ++ met)) (take (k - length out) (sort ahead (held ++ met)))
  holds_join {k} {R} R' {out} {rest} {held} met h d new more = record {
    in_rank = sort_ranked ahead rank.order (rest ++ met) distinct;
    front =
        ap (λ l. take n (sort ahead (l ++ met))) (h.front ∙ ap (take n) (sym sorted))
        ∙ take_sort_append ahead rank.order n rest met;
    room = h.room;
    once = h.once;
    apart = λ p a b. ⊎_elim (h.apart p a) (λ m. new p m (h.inside p (inl a))) (old_or_met p b);
    inside = λ p m. (more p).1 (⊎_elim (λ a. inl (h.inside p (inl a))) (λ b. old_or_new p (old_or_met p b)) m);
    known = λ p r. ⊎_elim (λ a. ⊎_elim inl (λ b. inr (old p b)) (h.known p a)) (λ m. inr (added p m)) ((more p).0 r);
  }
    where
      n : ℕ
      n = k - length out

      sorted : sort ahead rest ≡ rest
      sorted = ranked_sort ahead rank.order rest h.in_rank

      distinct : Distinct (rest ++ met)
      distinct =
          append_distinct rest met (ranked_distinct ahead rank.order rest h.in_rank) d
          (λ p a b. new p b (h.inside p (inr a)))

      old_or_met : (p : P) → Memᴰ p (sort ahead (rest ++ met)) → Memᴰ p rest ⊎ Memᴰ p met
      old_or_met p b = Memᴰ.append_cases rest ((mem_sort ahead p (rest ++ met)).0 b)

      old_or_new : (p : P) → Memᴰ p rest ⊎ Memᴰ p met → R p ⊎ Memᴰ p met
      old_or_new p b = ⊎_elim (λ a. inl (h.inside p (inr a))) inr b

      old : (p : P) → Memᴰ p rest → Memᴰ p (sort ahead (rest ++ met))
      old p b = (mem_sort ahead p (rest ++ met)).1 (Memᴰ.append_left met b)

      added : (p : P) → Memᴰ p met → Memᴰ p (sort ahead (rest ++ met))
      added p m = (mem_sort ahead p (rest ++ met)).1 (Memᴰ.append_right rest m)

  map_take : (n : ℕ) (l : List P) → map sum (take n l) ≡ take n (map sum l)
  map_take zero l = refl
  map_take (suc n) [] = refl
  map_take (suc n) (x ∷ l) = ap (λ r. sum x ∷ r) (map_take n l)

  count_keep : (c : ℕ) (l : List P) → at_least c (map sum l) ≡ length (keep (λ p. leb c (sum p)) l)
  unfolding at_least
  count_keep c l = ap length (keep_map sum (leb c) l) ∙ length-map (keep (λ p. leb c (sum p)) l) sum

  -- where all pairs of l that pass c are in m, m has no fewer of them
  pub count_among : (c : ℕ) (l m : List P) → Distinct l → ((p : P) → Memᴰ p l → c ≤ sum p → Memᴰ p m)
      → at_least c (map sum l) ≤ at_least c (map sum m)
  count_among c l m d h =
      let test : P → Bool = λ p. leb c (sum p) in
      let few : length (keep test l) ≤ length (keep test m) =
      pigeonhole (keep test l) (keep test m) (keep_distinct test l d)
      (λ p i. let j = (mem_keep test p l).0 i in (mem_keep test p m).1 (h p j.0 (leb-true c (sum p) j.1), j.1)) in
      omega (arith, count_keep c l, count_keep c m)

  -- distinct pairs of m count no more than m's
  pub count_inside : (c : ℕ) (l m : List P) → Distinct l → ((p : P) → Memᴰ p l → Memᴰ p m)
      → at_least c (map sum l) ≤ at_least c (map sum m)
  count_inside c l m d h = count_among c l m d (λ p i k. h p i)

  module _ {k : ℕ} {R : P → Type 0} {out rest : List P} where
    held_rest : {held : List P} → Holds ahead k R out rest held → (p : P) → Memᴰ p held → Memᴰ p rest
    held_rest h p m = mem_take (k - length out) p rest (subst (Memᴰ p) h.front m)

    -- the held pairs are pairs of the region
    pub held_inside : {held : List P} → Holds ahead k R out rest held → (p : P) → Memᴰ p held → R p
    held_inside h p m = h.inside p (inr (held_rest h p m))

    -- none of them is out
    pub held_new : {held : List P} → Holds ahead k R out rest held → (p : P) → Memᴰ p held → Memᴰ p out → ⊥
    held_new h p m o = h.apart p o (held_rest h p m)

    pub held_ranked : {held : List P} → Holds ahead k R out rest held → ranked ahead held ≡ true
    held_ranked h =
        subst (λ l. ranked ahead l ≡ true) (sym h.front)
        (ranked_take ahead rank.order (k - length out) rest h.in_rank)

    -- they and those out are at most k
    pub held_room : {held : List P} → Holds ahead k R out rest held → length out + length held ≤ k
    held_room h = omega (arith, h.room, ap length h.front, length-take (k - length out) rest)

    -- with none held, k are out or all are
    pub none_held : Holds ahead k R out rest [] → (length out ≡ k) ⊎ ((p : P) → R p → Memᴰ p out)
    none_held h = go (k - length out) rest refl h.front h.known
      where
        go : (n : ℕ) (l : List P) → k - length out ≡ n → [] ≡ take n l
            → ((p : P) → R p → Memᴰ p out ⊎ Memᴰ p l)
            → (length out ≡ k) ⊎ ((p : P) → R p → Memᴰ p out)
        go zero l e f w = inl (omega (arith, h.room))
        go (suc n) [] e f w = inr (λ p r. ⊎_elim (λ m. m) (λ m. absurd (Memᴰ.not-nil m)) (w p r))
        go (suc n) (y ∷ l) e f w = absurd (let z : ◌≡◌ {A = ℕ} 0 1 = cc in omega arith)

    -- where k sums of the region are at least c, out plus held is k and each held sum is at least c
    pub held_cover : {held : List P} → Holds ahead k R out rest held → (c : ℕ) (l : List P) → Distinct l
        → ((p : P) → Memᴰ p l → R p) → k ≤ at_least c (map sum l)
        → (length out + length held ≡ k) × All (λ n. c ≤ n) (map sum held)
    held_cover {held} h c l d within enough =
        let some = at_most out in
        let full = at_most held in
        let room = held_room h in (
          omega (arith, h.room, passed, parts, front),
          count_all c (map sum held) (omega (arith, length-map held sum, h.room, passed, parts, front)),
        )
      where
        n : ℕ
        n = k - length out

        passed : at_least c (map sum l) ≤ at_least c (map sum (out ++ rest))
        passed =
            count_inside c l (out ++ rest) d
            (λ p m. ⊎_elim (Memᴰ.append_left rest) (Memᴰ.append_right out) (h.known p (within p m)))

        parts : at_least c (map sum (out ++ rest)) ≡ at_least c (map sum out) + at_least c (map sum rest)
        parts = ap (at_least c) (map-append sum out rest) ∙ count_append c (map sum out) (map sum rest)

        at_most : (m : List P) → at_least c (map sum m) ≤ length m
        at_most m = subst (λ i. at_least c (map sum m) ≤ i) (length-map m sum) (count_some c (map sum m))

        front : at_least c (map sum held) ≡ min n (at_least c (map sum rest))
        front =
            ap (λ m. at_least c (map sum m)) h.front
            ∙ ap (at_least c) (map_take n rest)
            ∙ count_take c n (map sum rest) (ordered_sums rest (ranked_ordered ahead rank.order rest h.in_rank))

    module _ {x : P} {l : List P} (h : Holds ahead k R out rest (x ∷ l)) where
      -- the first held pair is the first of all that are not out
      first_rest : (m : List P) × (rest ≡ x ∷ m) × (l ≡ take (k - length out - 1) m) × (1 ≤ k - length out)
      first_rest = go (k - length out) rest h.front
        where
          go : (n : ℕ) (r : List P) → x ∷ l ≡ take n r → (m : List P) × (r ≡ x ∷ m) × (l ≡ take (n - 1) m) × (1 ≤ n)
          go zero r e = absurd (let z : ◌≡◌ {A = ℕ} 0 1 = cc in omega arith)
          go (suc n) [] e = absurd (let z : ◌≡◌ {A = ℕ} 0 1 = cc in omega arith)
          go (suc n) (y ∷ m) e =
              let f : y ≡ x = cc in
              let g : l ≡ take n m = cc in
              let j : n ≡ suc n - 1 = omega arith in
              (m, ap (λ z. z ∷ m) f, g ∙ ap (λ i. take i m) j, omega arith)

      -- no pair of the region that is not out has a higher sum
      pub first_highest : (p : P) → R p → (Memᴰ p out → ⊥) → sum p ≤ sum x
      first_highest p r n = ⊎_elim (λ m. absurd (n m)) lower (h.known p r)
        where
          c : (m : List P) × (rest ≡ x ∷ m) × (l ≡ take (k - length out - 1) m) × (1 ≤ k - length out)
          c = first_rest

          behind : All (λ y. ahead x y ≡ true) c.0
          behind =
              ranked_first ahead rank.order x c.0 (subst (λ r. ranked ahead r ≡ true) c.1 h.in_rank)

          lower : Memᴰ p rest → sum p ≤ sum x
          lower m =
              ⊎_elim (λ e. omega (arith, ap sum e)) (λ i. ahead_sum x p (all_at (λ y. ahead x y ≡ true) p behind i))
              (Memᴰ.cases_cons (subst (Memᴰ p) c.1 m))

      -- it moves out
      pub holds_out : (m : List P) × Holds ahead k R (out ++ x ∷ []) m l
      holds_out = let c = first_rest in (c.0, moved c.0 c.1 c.2 c.3)
        where
          moved : (m : List P) → rest ≡ x ∷ m → l ≡ take (k - length out - 1) m → 1 ≤ k - length out
              → Holds ahead k R (out ++ x ∷ []) m l
          moved m e f n = record {
            in_rank = ranked_rest ahead rank.order x m r;
            front = f ∙ ap (λ i. take i m) fewer;
            room = omega (arith, length-append out (x ∷ []));
            once =
                append_distinct out (x ∷ []) h.once (Memᴰ.not-nil, tt) (λ p a b. h.apart p a (at_first p b));
            apart =
                λ p a b. ⊎_elim (λ o. h.apart p o (at p (Memᴰ.tail b))) (λ o. x_once (Memᴰ.cast (sym (only o)) b))
                (Memᴰ.append_cases out a);
            inside = λ p a. h.inside p (⊎_elim (λ o. before p o) (λ i. inr (at p (Memᴰ.tail i))) a);
            known = λ p i. ⊎_elim (λ o. inl (Memᴰ.append_left (x ∷ []) o)) (λ o. after p o) (h.known p i);
          }
            where
              r : ranked ahead (x ∷ m) ≡ true
              r = subst (λ r. ranked ahead r ≡ true) e h.in_rank

              x_once : Memᴰ x m → ⊥
              x_once = (ranked_distinct ahead rank.order (x ∷ m) r).0

              fewer : k - length out - 1 ≡ k - length (out ++ x ∷ [])
              fewer = omega (arith, length-append out (x ∷ []))

              only : {p : P} → Memᴰ p (x ∷ []) → p ≡ x
              only i = Memᴰ.eq_of_singleton i

              at : (p : P) → Memᴰ p (x ∷ m) → Memᴰ p rest
              at p i = subst (Memᴰ p) (sym e) i

              at_first : (p : P) → Memᴰ p (x ∷ []) → Memᴰ p rest
              at_first p i = at p (Memᴰ.head (only i))

              before : (p : P) → Memᴰ p (out ++ x ∷ []) → Memᴰ p out ⊎ Memᴰ p rest
              before p o = ⊎_elim inl (λ i. inr (at_first p i)) (Memᴰ.append_cases out o)

              after : (p : P) → Memᴰ p rest → Memᴰ p (out ++ x ∷ []) ⊎ Memᴰ p m
              after p o =
                  ⊎_elim (λ g. inl (Memᴰ.append_right out (Memᴰ.head g))) inr
                  (Memᴰ.cases_cons (subst (Memᴰ p) e o))
