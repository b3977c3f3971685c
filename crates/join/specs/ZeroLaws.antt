-- The laws of the join hold of tables in which a row of weight 0 qualifies with nothing. Assumes that a row above 0 may
-- stand in each, and that each such row has its like at the other table's places.
use Rattle.std.specs.Prelude.{◌≡◌, true, false, ◌&&◌, ◌||◌, List, leb}
use Rattle.std.proofs.Math.Path.{refl, ap}
use Rattle.std.proofs.Common.{sym, ◌∙◌, get_or-take}
use Rattle.std.proofs.Math.Bool.{Bool}
use Rattle.std.proofs.Math.Logic.{⊎_elim}
use Prim.Native.Nat.{ℕ, zero, suc, ◌-◌, ◌≤◌, ◌<◌}
use native.Mathlib.Omega.{arith}
use Rattle.std.proofs.Math.Decide.{le_ind, dec_le}
use Rattle.std.proofs.Math.Dec.{eqb}
use Rattle.std.proofs.Math.ListN.{length, get_or}
use borrow.Author.Tests.{leb-true, leb-false, le-leb, eqb-true, eq-eqb}
use Rattle.lists.specs.Bools.{clash, and_out, and_in, or_out, or_in_left, or_in_right, or_none_out}
use Rattle.join.specs.Join.{SideLaws, Laws, Partner, Begins, weight_at, flip}
use Rattle.join.specs.Plain.{Rows, PlainLegal}
use Rattle.join.specs.PlainLaws.{legal_one, legal_take, legal_more}
use Rattle.join.specs.Zero.{zero_among, falling, Mates}

module _ {A : Type 0} (R : Rows A) where
  abbrev at : List A → ℕ → A
  at l i = get_or l i R.blank

  abbrev weight_of : List A → ℕ → ℕ
  weight_of l i = R.weight (at l i)

  -- ---- A row of weight 0 among the first

  zero_in : (l : List A) (n k : ℕ) → k < n → weight_of l k ≡ 0 → zero_among R l n ≡ true
  unfolding zero_among
  zero_in l zero k h e = absurd (omega arith)
  zero_in l (suc n) k h e = go (dec_le n k) (λ m. zero_in l n k m e)
    where
      last : Bool
      last = eqb (weight_of l n) 0

      go : Dec (n ≤ k) → (k < n → zero_among R l n ≡ true) → zero_among R l n || last ≡ true
      go (yes m) before =
          let same : n ≡ k = omega arith in
          or_in_right (zero_among R l n) last (eq-eqb (weight_of l n) 0 (ap (weight_of l) same ∙ e))
      go (no m) before = or_in_left (zero_among R l n) last (before (omega arith))

  zero_out : (l : List A) (n : ℕ) → zero_among R l n ≡ true → (k : ℕ) × (k < n) × (weight_of l k ≡ 0)
  unfolding zero_among
  zero_out l zero h = clash h refl
  zero_out l (suc n) h =
      ⊎_elim (λ e. let k = zero_out l n e in (k.0, omega (arith, k.1), k.2))
      (λ e. (n, omega arith, eqb-true (weight_of l n) 0 e))
      (or_out (zero_among R l n) (eqb (weight_of l n) 0) h)

  -- none: each of the first is above 0
  zero_none : (l : List A) (n k : ℕ) → zero_among R l n ≡ false → k < n → weight_of l k ≡ 0 → ⊥
  zero_none l n k h m e = clash (zero_in l n k m e) h

  -- weights fall down a legal table
  falls_to : (l : List A) → PlainLegal R l → (i j : ℕ) → i ≤ j → j < length l → weight_of l j ≤ weight_of l i
  falls_to l g i j h =
      le_ind (λ j. j < length l → weight_of l j ≤ weight_of l i) (λ k. omega arith)
      (λ j m ih k. omega (arith, ih (omega arith), g.falls j k)) j h

  -- the rows that a table begins with
  begins_at : (n : ℕ) (l l' : List A) → Begins (falling R) n l l' → (k : ℕ) → k < n → at l k ≡ at l' k
  begins_at n l l' b k h =
      sym (get_or-take n l k R.blank h)
      ∙ ap (λ m. get_or m k R.blank) b.rows
      ∙ get_or-take n l' k R.blank h

  -- below a row of weight 0 that was read all rows are
  below_zero : (n : ℕ) (l l' : List A) → Begins (falling R) n l l' → (k : ℕ) → k < n → weight_of l k ≡ 0
      → (i : ℕ) → k ≤ i → i < length l' → weight_of l' i ≡ 0
  below_zero n l l' b k h e i m in-l =
      let z : weight_of l' k ≡ 0 = sym (ap R.weight (begins_at n l l' b k h)) ∙ e in
      omega (arith, falls_to l' b.legal k i m in-l)

  -- a table that ends within the reading has no row past it
  none_past : (n i : ℕ) (l l' : List A) → Begins (falling R) n l l' → length l ≤ n → length l ≤ i → i < length l' → ⊥
  none_past n i l l' b h k m = omega (arith, ap length (b.ends h))

  -- ---- Ended and empty

  abbrev first_zero : List A → ℕ → Bool
  first_zero l n = leb 1 n && eqb (weight_of l 0) 0

  first_zero_out : (l : List A) (n : ℕ) → first_zero l n ≡ true → (1 ≤ n) × (weight_of l 0 ≡ 0)
  first_zero_out l n e =
      let both = and_out (leb 1 n) (eqb (weight_of l 0) 0) e in
      (leb-true 1 n both.0, eqb-true (weight_of l 0) 0 both.1)

  first_zero_in : (l : List A) (n : ℕ) → 1 ≤ n → weight_of l 0 ≡ 0 → first_zero l n ≡ true
  first_zero_in l n h e = and_in (leb 1 n) (eqb (weight_of l 0) 0) (le-leb 1 n h) (eq-eqb (weight_of l 0) 0 e)

  ended_more : (l : List A) (n m : ℕ) → n ≤ m → (falling R).ended l n ≡ true → (falling R).ended l m ≡ true
  ended_more l n m h e =
      ⊎_elim
      (λ a. or_in_left (leb (length l) m) (zero_among R l m)
      (le-leb (length l) m (omega (arith, leb-true (length l) n a))))
      (λ a. let k = zero_out l n a in
      or_in_right (leb (length l) m) (zero_among R l m) (zero_in l m k.0 (omega (arith, k.1)) k.2))
      (or_out (leb (length l) n) (zero_among R l n) e)

  empty_ended : (l : List A) (n : ℕ) → (falling R).empty l n ≡ true → (falling R).ended l n ≡ true
  empty_ended l n e =
      ⊎_elim
      (λ a. or_in_left (leb (length l) n) (zero_among R l n)
      (le-leb (length l) n (omega (arith, leb-true (length l) 0 a))))
      (λ a. let k = first_zero_out l n a in
      or_in_right (leb (length l) n) (zero_among R l n) (zero_in l n 0 k.0 k.1))
      (or_out (leb (length l) 0) (first_zero l n) e)

  ended_zero : (l : List A) → (falling R).ended l 0 ≡ true → (falling R).empty l 0 ≡ true
  unfolding zero_among
  ended_zero l e =
      ⊎_elim (λ a. or_in_left (leb (length l) 0) (first_zero l 0) a) (λ a. clash a refl)
      (or_out (leb (length l) 0) (zero_among R l 0) e)

  empty_first : (l : List A) (n m : ℕ) → 1 ≤ m → (falling R).empty l n ≡ true → (falling R).empty l m ≡ true
  empty_first l n m h e =
      ⊎_elim (λ a. or_in_left (leb (length l) 0) (first_zero l m) a)
      (λ a. or_in_right (leb (length l) 0) (first_zero l m) (first_zero_in l m h (first_zero_out l n a).1))
      (or_out (leb (length l) 0) (first_zero l n) e)

  empty_more : (l : List A) (n m : ℕ) → n ≤ m → (falling R).empty l n ≡ true → (falling R).empty l m ≡ true
  empty_more l n m h e =
      ⊎_elim (λ a. or_in_left (leb (length l) 0) (first_zero l m) a)
      (λ a.
      let k = first_zero_out l n a in
      or_in_right (leb (length l) 0) (first_zero l m) (first_zero_in l m (omega (arith, k.0)) k.1))
      (or_out (leb (length l) 0) (first_zero l n) e)

module _ {A B : Type 0} (R : Rows A) (Q : Rows B) (qual : A → B → Bool) (mates : Mates R Q qual) where
  ended_dead : (l l' : List A) (n : ℕ) → Begins (falling R) n l l' → (falling R).ended l n ≡ true → (i : ℕ) → n ≤ i
      → i < length l' → (y : B) → qual (get_or l' i R.blank) y ≡ false
  ended_dead l l' n b e i h k y =
      ⊎_elim
      (λ a. let m = leb-true (length l) n a in absurd (none_past R n i l l' b m (omega (arith, m)) k))
      (λ a.
      let z = zero_out R l n a in
      mates.dead (get_or l' i R.blank) y
      (below_zero R n l l' b z.0 z.1 z.2 i (omega (arith, z.1)) k))
      (or_out (leb (length l) n) (zero_among R l n) e)

  empty_dead : (l l' : List A) (n : ℕ) → Begins (falling R) n l l' → (falling R).empty l n ≡ true → (i : ℕ)
      → i < length l' → (y : B) → qual (get_or l' i R.blank) y ≡ false
  empty_dead l l' n b e i k y =
      ⊎_elim
      (λ a.
      let m = leb-true (length l) 0 a in
      absurd (none_past R n i l l' b (omega (arith, m)) (omega (arith, m)) k))
      (λ a.
      let z = first_zero_out R l n a in
      mates.dead (get_or l' i R.blank) y (below_zero R n l l' b 0 z.0 z.1 i (omega arith) k))
      (or_out (leb (length l) 0) (first_zero R l n) e)

  -- a row that may stand next: of the last row's weight, or any, at the first place of the other table
  mate : List A → ℕ → A
  mate l zero = mates.some
  mate l (suc n) = get_or l n R.blank

  mate_good : (l : List A) (n : ℕ) → PlainLegal R l → n < length l → R.Good (mate l n)
  unfolding mate
  mate_good l zero g h = mates.some_good
  mate_good l (suc n) g h = g.good n (omega arith)

  mate_high : (l : List A) (n : ℕ) → zero_among R l n ≡ false → R.weight (mate l n) ≡ 0 → ⊥
  unfolding mate
  mate_high l zero h = mates.some_high
  mate_high l (suc n) h = zero_none R l (suc n) n h (omega arith)

  mate_level : (l : List A) (n : ℕ) → 1 ≤ n → R.weight (mate l n) ≡ R.weight (get_or l (n - 1) R.blank)
  unfolding mate
  mate_level l zero h = absurd (omega arith)
  mate_level l (suc n) h =
      let e : n ≡ suc n - 1 = omega arith in
      ap (λ i. R.weight (get_or l i R.blank)) e

  partner : (l : List A) (n : ℕ) (m : List B) (j : ℕ) → PlainLegal R l → PlainLegal Q m
      → (falling R).ended l n ≡ false → 1 ≤ j → (falling Q).empty m j ≡ false
      → Partner (falling R) (falling Q) qual l n m
  unfolding weight_at
  partner l n m j g g' e h k =
      let x : A = mate l n in
      let y : B = get_or m 0 Q.blank in
      let unended = or_none_out (leb (length l) n) (zero_among R l n) e in
      let live = or_none_out (leb (length m) 0) (first_zero Q m j) k in
      let more : n < length l = leb-false (length l) n unended.0 in
      let rows : 0 < length m = leb-false (length m) 0 live.0 in
      let high : Q.weight y ≡ 0 → ⊥ = λ z. clash (first_zero_in Q m j h z) live.1 in
      let a : R.Good x = mate_good l n g more in
      let b : Q.Good y = g'.good 0 rows in
      let w : R.weight (mates.like x y) ≡ R.weight x = mates.level x y a b in
      record {
        row = mates.like x y;
        level = λ z. w ∙ mate_level l n z;
        fits = mates.fits x y a b (mate_high l n unended.1) high;
        stands =
            legal_more R n l (mates.like x y) more g (mates.good x y a b)
            (λ z. let v = mate_level l n z in omega arith);
      }

  pub falling_side : SideLaws (falling R) (falling Q) qual
  unfolding weight_at
  falling_side = record {
    legal_take = legal_take R;
    falls = λ l i g h. g.falls i h;
    ended_all = λ l n h. or_in_left (leb (length l) n) (zero_among R l n) (le-leb (length l) n h);
    ended_more = ended_more R;
    ended_dead = λ l l' n g b e i h k y. ended_dead l l' n b e i h k y;
    empty_dead = λ l l' n g b e i k y. empty_dead l l' n b e i k y;
    empty_ended = empty_ended R;
    ended_zero = ended_zero R;
    empty_more = empty_more R;
    empty_first = empty_first R;
    partner = partner;
  }

-- the laws of two such tables, each of which may have a row
pub falling_laws : {A B : Type 0} (R : Rows A) (Q : Rows B) (qual : A → B → Bool) → Mates R Q qual
    → Mates Q R (flip qual) → 1 ≤ R.most → 1 ≤ Q.most → Laws (falling R) (falling Q) qual
falling_laws R Q qual mates mates' h h' =
    let x = mates.some in
    let y = mates'.some in
    record {
      fields = falling_side R Q qual mates;
      trims = falling_side Q R (flip qual) mates';
      seed =
          record {
            left = mates.like x y;
            right = y;
            left_legal = legal_one R (mates.like x y) h (mates.good x y mates.some_good mates'.some_good);
            right_legal = legal_one Q y h' mates'.some_good;
            fits =
                mates.fits x y mates.some_good mates'.some_good mates.some_high mates'.some_high;
          };
    }
