-- The laws of the join hold of plain tables. Assumes that a row may stand in each, and that each good row has its like
-- at the other table's places.
use Rattle.std.specs.Prelude.{◌≡◌, refl, Bool, true, false, List, [], ◌∷◌, ◌++◌, ℕ, zero, suc, ◌-◌, ◌≤◌, ◌<◌, min, ltb}
use Rattle.std.specs.Prelude.{length, take}
use Rattle.std.proofs.Common.{sym, ap, subst, subst₂, ◌∙◌, arith, length-append, length-take, get_or-take}
use Rattle.std.proofs.Common.{length-take-le}
use Rattle.std.proofs.Math.ListN.{get_or, get_or-append}
use Rattle.std.proofs.lemmas.List.{get_or_at}
use borrow.Author.Tests.{leb-true, leb-false, le-leb, ltb-true, ltb-false}
use Rattle.join.specs.Join.{SideLaws, Laws, Partner, Begins, weight_at, flip}
use Rattle.join.specs.Plain.{Rows, PlainLegal, plain, Matches}

module _ {A : Type 0} (R : Rows A) where
  -- row i, and its weight
  abbrev at : List A → ℕ → A
  at l i = get_or l i R.blank

  abbrev weight_of : List A → ℕ → ℕ
  weight_of l i = R.weight (at l i)

  pub legal_one : (x : A) → 1 ≤ R.most → R.Good x → PlainLegal R (x ∷ [])
  legal_one x h g = record { short = h; good = only; falls = λ i k. absurd (omega arith) }
    where
      only : (i : ℕ) → i < 1 → R.Good (at (x ∷ []) i)
      only zero k = g
      only (suc i) k = absurd (omega arith)

  pub legal_take : (n : ℕ) (l : List A) → PlainLegal R l → PlainLegal R (take n l)
  legal_take n l g = record {
    short = rw length-take (omega (arith, g.short));
    good = λ i h. rw (same i (inside i h)) (g.good i (omega (arith, inside i h)));
    falls = λ i h. falls i (inside (suc i) h);
  }
    where
      inside : (i : ℕ) → i < length (take n l) → i < min n (length l)
      inside i h = rw length-take at h

      same : (i : ℕ) → i < min n (length l) → at (take n l) i ≡ at l i
      same i h = get_or-take n l i R.blank (omega arith)

      falls : (i : ℕ) → suc i < min n (length l) → weight_of (take n l) (suc i) ≤ weight_of (take n l) i
      falls i h =
          subst₂ (λ y x. R.weight y ≤ R.weight x) (sym (same (suc i) h)) (sym (same i (omega arith)))
          (g.falls i (omega arith))

  -- the first n rows of a longer table and one more
  module _ (n : ℕ) (l : List A) (x : A) (h : n < length l) where
    abbrev longer : List A
    longer = take n l ++ x ∷ []

    longer_length : length longer ≡ suc n
    longer_length = rw (length-append, length-take-le n l (omega arith)) (omega arith)

    longer_at : (i : ℕ) → i < n → at longer i ≡ at l i
    longer_at i k =
        get_or-append (take n l) (x ∷ []) R.blank i (rw (length-take-le n l (omega arith)) k)
        ∙ get_or-take n l i R.blank k

    longer_last : (i : ℕ) → i ≡ n → at longer i ≡ x
    longer_last i e = get_or_at (take n l) x [] R.blank i (length-take-le n l (omega arith) ∙ sym e)

    pub legal_more : PlainLegal R l → R.Good x → (1 ≤ n → R.weight x ≤ weight_of l (n - 1)) → PlainLegal R longer
    legal_more g y w = record {
      short = omega (arith, longer_length, g.short);
      good = λ i k. good i (ltb i n) refl (omega (arith, longer_length));
      falls = λ i k. falls i (ltb (suc i) n) refl (omega (arith, longer_length));
    }
      where
        good : (i : ℕ) (t : Bool) → ltb i n ≡ t → i ≤ n → R.Good (at longer i)
        good i true e k = rw (longer_at i (ltb-true i n e)) (g.good i (omega (arith, ltb-true i n e)))
        good i false e k = rw (longer_last i (omega (arith, ltb-false i n e))) y

        falls : (i : ℕ) (t : Bool) → ltb (suc i) n ≡ t → suc i ≤ n → weight_of longer (suc i) ≤ weight_of longer i
        falls i true e k =
            let m = ltb-true (suc i) n e in
            subst₂ (λ y x. R.weight y ≤ R.weight x) (sym (longer_at (suc i) m)) (sym (longer_at i (omega arith)))
            (g.falls i (omega (arith, m)))
        falls i false e k =
            let m = ltb-false (suc i) n e in
            let p : n - 1 ≡ i = omega (arith, m) in
            subst₂ (λ y x. R.weight y ≤ R.weight x) (sym (longer_last (suc i) (omega (arith, m))))
            (sym (longer_at i (omega arith))) (subst (λ j. R.weight x ≤ weight_of l j) p (w (omega arith)))

  -- past its end a plain table has no row
  none_past : (n i : ℕ) (l l' : List A) → Begins (plain R) n l l' → length l ≤ n → length l ≤ i → i < length l' → ⊥
  none_past n i l l' b h k m = omega (arith, ap length (b.ends h))

module _ {A B : Type 0} (R : Rows A) (Q : Rows B) (qual : A → B → Bool) (match : Matches R Q qual) where
  plain_partner : (l : List A) (n : ℕ) (m : List B) → PlainLegal R l → PlainLegal Q m → n < length l → 0 < length m
      → Partner (plain R) (plain Q) qual l n m
  unfolding weight_at
  plain_partner l n m g g' h k =
      let x : A = get_or l (n - 1) R.blank in
      let y : B = get_or m 0 Q.blank in
      let a : R.Good x = g.good (n - 1) (omega arith) in
      let b : Q.Good y = g'.good 0 k in
      let w : R.weight (match.like x y) ≡ R.weight x = match.level x y a b in
      record {
        row = match.like x y;
        level = λ z. w;
        fits = match.fits x y a b;
        stands = legal_more R n l (match.like x y) h g (match.good x y a b) (λ z. omega arith);
      }

  pub plain_side : SideLaws (plain R) (plain Q) qual
  unfolding weight_at
  plain_side = record {
    legal_take = legal_take R;
    falls = λ l i g h. g.falls i h;
    ended_all = λ l n h. le-leb (length l) n h;
    ended_more = λ l n m h e. le-leb (length l) m (omega (arith, leb-true (length l) n e));
    ended_dead =
        λ l l' n g b e i h k y. let m = leb-true (length l) n e in
        absurd (none_past R n i l l' b m (omega (arith, m)) k);
    empty_dead =
        λ l l' n g b e i k y. let m = leb-true (length l) 0 e in
        absurd (none_past R n i l l' b (omega (arith, m)) (omega (arith, m)) k);
    empty_ended = λ l n e. le-leb (length l) n (omega (arith, leb-true (length l) 0 e));
    ended_zero = λ l e. e;
    empty_more = λ l n m h e. e;
    empty_first = λ l n m h e. e;
    partner = λ l n m j g g' e h k. plain_partner l n m g g' (leb-false (length l) n e) (leb-false (length m) 0 k);
  }

-- the laws of two plain tables, each of which may have a row
pub plain_laws : {A B : Type 0} (R : Rows A) (Q : Rows B) (qual : A → B → Bool) → Matches R Q qual
    → Matches Q R (flip qual) → 1 ≤ R.most → 1 ≤ Q.most → (x : A) (y : B) → R.Good x → Q.Good y
    → Laws (plain R) (plain Q) qual
plain_laws R Q qual match match' h h' x y g g' = record {
  fields = plain_side R Q qual match;
  trims = plain_side Q R (flip qual) match';
  seed =
      record {
        left = match.like x y;
        right = y;
        left_legal = legal_one R (match.like x y) h (match.good x y g g');
        right_legal = legal_one Q y h' g';
        fits = match.fits x y g g';
      };
}
