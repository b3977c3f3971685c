-- Laws of ranking a list: in any order of its elements, in parts, and of its front. Assumes a strict order where it
-- says so.
use Rattle.std.specs.Prelude.{◌≡◌, Bool, cond}
use Rattle.std.proofs.Math.Path.{refl, sym, ap}
use Rattle.std.proofs.Common.{subst, ◌∙◌, arith, take-take}
use Rattle.std.proofs.Math.Bool.{true, false}
use mathlib.Core.List.{List, [], ◌∷◌, ◌++◌, append-nil, Memᴰ, Permᴰ}
use Prim.Native.Nat.{ℕ, zero, suc}
use Rattle.std.proofs.Math.ListN.{length, take}
use Rattle.lists.specs.Lists.{ins, sort, ranked}
use Rattle.lists.specs.Bools.{clash, fails, and_out}
use Rattle.lists.specs.Words.{All, Strict, Ordered}

module _ {A : Type 0} where
  pub all_map : (P Q : A → Type 0) → ((x : A) → P x → Q x) → (l : List A) → All P l → All Q l
  all_map P Q f [] h = tt
  all_map P Q f (x ∷ l) h = (f x h.0, all_map P Q f l h.1)

  pub all_take : (P : A → Type 0) (n : ℕ) (l : List A) → All P l → All P (take n l)
  all_take P zero l h = tt
  all_take P (suc n) [] h = tt
  all_take P (suc n) (x ∷ l) h = (h.0, all_take P n l h.1)

  pub all_append : (P : A → Type 0) (l m : List A) → All P l → All P m → All P (l ++ m)
  all_append P [] m h k = k
  all_append P (x ∷ l) m h k = (h.0, all_append P l m h.1 k)

  -- All by its elements
  pub all_of : (P : A → Type 0) (l : List A) → ((x : A) → Memᴰ x l → P x) → All P l
  all_of P [] h = tt
  all_of P (x ∷ l) h = (h x (Memᴰ.head refl), all_of P l (λ y m. h y (Memᴰ.tail m)))

  pub all_at : (P : A → Type 0) (x : A) {l : List A} → All P l → Memᴰ x l → P x
  all_at P x h (Memᴰ.head e) = subst P (sym e) h.0
  all_at P x h (Memᴰ.tail m) = all_at P x h.1 m

  take_cons : (k : ℕ) (y : A) (l : List A) → take k (y ∷ take k l) ≡ take k (y ∷ l)
  take_cons zero y l = refl
  take_cons (suc k) y l = ap (λ r. y ∷ r) (take-take k (suc k) l (omega arith))

-- Any test

module _ {A : Type 0} (ahead : A → A → Bool) where
  pub length_ins : (x : A) (l : List A) → length (ins ahead x l) ≡ suc (length l)
  unfolding ins
  length_ins x [] = refl
  length_ins x (y ∷ l) = go (ahead y x) (length_ins x l)
    where
      go : (t : Bool) → length (ins ahead x l) ≡ suc (length l)
          → length (cond t (y ∷ ins ahead x l) (x ∷ y ∷ l)) ≡ suc (suc (length l))
      go true h = ap suc h
      go false h = refl

  pub length_sort : (l : List A) → length (sort ahead l) ≡ length l
  unfolding sort
  length_sort [] = refl
  length_sort (x ∷ l) = length_ins x (sort ahead l) ∙ ap suc (length_sort l)

  -- what holds of x and of each of l holds of each after x is put
  pub all_ins : (P : A → Type 0) (x : A) (l : List A) → P x → All P l → All P (ins ahead x l)
  unfolding ins
  all_ins P x [] p h = (p, tt)
  all_ins P x (y ∷ l) p h = go (ahead y x) (all_ins P x l p h.1)
    where
      go : (t : Bool) → All P (ins ahead x l) → All P (cond t (y ∷ ins ahead x l) (x ∷ y ∷ l))
      go true a = (h.0, a)
      go false a = (p, h)

  pub all_sort : (P : A → Type 0) (l : List A) → All P l → All P (sort ahead l)
  unfolding sort
  all_sort P [] h = tt
  all_sort P (x ∷ l) h = all_ins P x (sort ahead l) h.0 (all_sort P l h.1)

  -- the best k of the best k and one more are the best k of all and the one more
  pub take_ins : (k : ℕ) (x : A) (l : List A) → take k (ins ahead x (take k l)) ≡ take k (ins ahead x l)
  unfolding ins
  take_ins zero x l = refl
  take_ins (suc k) x [] = refl
  take_ins (suc k) x (y ∷ l) = go (ahead y x) (take_ins k x l)
    where
      go : (t : Bool) → take k (ins ahead x (take k l)) ≡ take k (ins ahead x l)
          → take (suc k) (cond t (y ∷ ins ahead x (take k l)) (x ∷ y ∷ take k l))
          ≡ take (suc k) (cond t (y ∷ ins ahead x l) (x ∷ y ∷ l))
      go true h = ap (λ r. y ∷ r) h
      go false h = ap (λ r. x ∷ r) (take_cons k y l)

  -- lists with the same best n have the same best n with m
  pub take_sort_more : (n : ℕ) (l l' m : List A) → take n (sort ahead l) ≡ take n (sort ahead l')
      → take n (sort ahead (m ++ l)) ≡ take n (sort ahead (m ++ l'))
  unfolding sort
  take_sort_more n l l' [] h = h
  take_sort_more n l l' (x ∷ m) h =
      sym (take_ins n x (sort ahead (m ++ l)))
      ∙ ap (λ r. take n (ins ahead x r)) (take_sort_more n l l' m h)
      ∙ take_ins n x (sort ahead (m ++ l'))

  -- what nothing of l stands ahead of goes to the front
  pub ins_front : (x : A) (l : List A) → All (λ y. ahead y x ≡ false) l → ins ahead x l ≡ x ∷ l
  unfolding ins
  ins_front x [] h = refl
  ins_front x (y ∷ l) h = rw h.0

  pub take_ordered : (n : ℕ) (l : List A) → Ordered ahead l → Ordered ahead (take n l)
  take_ordered zero l h = tt
  take_ordered (suc n) [] h = tt
  take_ordered (suc n) (x ∷ l) h = (all_take (λ y. ahead y x ≡ false) n l h.0, take_ordered n l h.1)

  -- a list in order stays as it is
  pub ordered_sort : (l : List A) → Ordered ahead l → sort ahead l ≡ l
  unfolding sort
  ordered_sort [] h = refl
  ordered_sort (x ∷ l) h = ap (ins ahead x) (ordered_sort l h.1) ∙ ins_front x l h.0

-- A strict order

module _ {A : Type 0} (ahead : A → A → Bool) (order : Strict ahead) where
  -- where z stands ahead of x and not ahead of y, y stands ahead of x
  pub between_ahead : (x y z : A) → ahead z x ≡ true → ahead z y ≡ false → ahead y x ≡ true
  between_ahead x y z e f = go (ahead y z) refl
    where
      go : (t : Bool) → ahead y z ≡ t → ahead y x ≡ true
      go true h = order.trans y z x h e
      go false h = rw (order.tri y z h f) e

  -- the two before a list, in their order
  two : (x y : A) (l : List A) → cond (ahead y x) (y ∷ x ∷ l) (x ∷ y ∷ l) ≡ cond (ahead x y) (x ∷ y ∷ l) (y ∷ x ∷ l)
  two x y l = go (ahead x y) (ahead y x) refl refl
    where
      go : (s t : Bool) → ahead x y ≡ s → ahead y x ≡ t
          → cond (ahead y x) (y ∷ x ∷ l) (x ∷ y ∷ l) ≡ cond (ahead x y) (x ∷ y ∷ l) (y ∷ x ∷ l)
      go true true e f = clash f (order.asym x y e)
      go true false e f = simp (e, f)
      go false true e f = simp (e, f)
      go false false e f = simp (e, f) (rw (order.tri x y e f))

  -- two puts change places
  pub ins_swap : (x y : A) (l : List A) → ins ahead x (ins ahead y l) ≡ ins ahead y (ins ahead x l)
  unfolding ins
  ins_swap x y [] = two x y []
  ins_swap x y (z ∷ l) = go (ahead z x) (ahead z y) refl refl (ins_swap x y l)
    where
      go : (s t : Bool) → ahead z x ≡ s → ahead z y ≡ t → ins ahead x (ins ahead y l) ≡ ins ahead y (ins ahead x l)
          → ins ahead x (ins ahead y (z ∷ l)) ≡ ins ahead y (ins ahead x (z ∷ l))
      go true true e f h = simp (e, f) (ap (λ r. z ∷ r) h)
      go true false e f h = simp (e, f, between_ahead x y z e f)
      go false true e f h = simp (e, f, between_ahead y x z f e)
      go false false e f h = simp (e, f) (two x y (z ∷ l))

  -- an element from the middle may be put last
  sort_middle : (l : List A) (x : A) (m : List A) → sort ahead (l ++ x ∷ m) ≡ ins ahead x (sort ahead (l ++ m))
  unfolding sort
  sort_middle [] x m = refl
  sort_middle (y ∷ l) x m = ap (ins ahead y) (sort_middle l x m) ∙ ins_swap y x (sort ahead (l ++ m))

  -- the two parts may change places
  pub sort_append_comm : (l m : List A) → sort ahead (l ++ m) ≡ sort ahead (m ++ l)
  unfolding sort
  sort_append_comm [] m = ap (sort ahead) (sym (append-nil m))
  sort_append_comm (x ∷ l) m = ap (ins ahead x) (sort_append_comm l m) ∙ sym (sort_middle m x l)

  -- what is not ahead of y is not ahead of what y is not ahead of
  pub not_ahead : (x y z : A) → ahead y x ≡ false → ahead z y ≡ false → ahead z x ≡ false
  not_ahead x y z e f = fails (ahead z x) (λ h. clash (between_ahead x y z h f) e)

  -- as all orders of the elements do
  pub sort_perm : {l m : List A} → Permᴰ l m → sort ahead l ≡ sort ahead m
  unfolding sort
  sort_perm Permᴰ.nil = refl
  sort_perm (Permᴰ.cons {a = a} {l₂ = m} e h) =
      ap (ins ahead a) (sort_perm h) ∙ ap (λ x. ins ahead x (sort ahead m)) e
  sort_perm (Permᴰ.swap {a = a} {b = b} {a' = c} {l = l} e f) =
      ins_swap a b (sort ahead l)
      ∙ ap (λ x. ins ahead x (ins ahead a (sort ahead l))) f
      ∙ ap (λ x. ins ahead c (ins ahead x (sort ahead l))) e
  sort_perm (Permᴰ.trans h k) = sort_perm h ∙ sort_perm k

  -- putting keeps a list in order
  pub ins_ordered : (x : A) (l : List A) → Ordered ahead l → Ordered ahead (ins ahead x l)
  unfolding ins
  ins_ordered x [] h = (tt, tt)
  ins_ordered x (y ∷ l) h = go (ahead y x) refl (ins_ordered x l h.1)
    where
      go : (t : Bool) → ahead y x ≡ t → Ordered ahead (ins ahead x l)
          → Ordered ahead (cond t (y ∷ ins ahead x l) (x ∷ y ∷ l))
      go true e a = (all_ins ahead (λ z. ahead z y ≡ false) x l (order.asym y x e) h.0, a)
      go false e a =
          ((e, all_map (λ z. ahead z y ≡ false) (λ z. ahead z x ≡ false) (λ z k. not_ahead x y z e k) l h.0), h)

  -- no later one stands ahead of an earlier one
  pub sort_ordered : (l : List A) → Ordered ahead (sort ahead l)
  unfolding sort
  sort_ordered [] = tt
  sort_ordered (x ∷ l) = ins_ordered x (sort ahead l) (sort_ordered l)

  -- Ranked lists

  pub ranked_ordered : (l : List A) → ranked ahead l ≡ true → Ordered ahead l
  unfolding ranked
  ranked_ordered [] h = tt
  ranked_ordered (x ∷ []) h = (tt, tt)
  ranked_ordered (x ∷ y ∷ l) h =
      let e : ahead y x ≡ false = order.asym x y (and_out (ahead x y) (ranked ahead (y ∷ l)) h).0 in
      let r : Ordered ahead (y ∷ l) = ranked_ordered (y ∷ l) (and_out (ahead x y) (ranked ahead (y ∷ l)) h).1 in
      ((e, all_map (λ z. ahead z y ≡ false) (λ z. ahead z x ≡ false) (λ z k. not_ahead x y z e k) l r.0), r)

  -- a ranked list stays as it is
  pub ranked_sort : (l : List A) → ranked ahead l ≡ true → sort ahead l ≡ l
  ranked_sort l h = ordered_sort ahead l (ranked_ordered l h)

  -- Parts

  ordered_below : (h m : List A) → Ordered ahead h → All (λ x. All (λ y. ahead x y ≡ true) m) h
      → sort ahead (h ++ m) ≡ h ++ sort ahead m
  unfolding sort
  ordered_below [] m o k = refl
  ordered_below (x ∷ h) m o k =
      let low : All (λ y. ahead y x ≡ false) (sort ahead m) =
      all_sort ahead (λ y. ahead y x ≡ false) m
      (all_map (λ y. ahead x y ≡ true) (λ y. ahead y x ≡ false) (order.asym x) m k.0) in
      ap (ins ahead x) (ordered_below h m o.1 k.1)
      ∙ ins_front ahead x (h ++ sort ahead m) (all_append (λ y. ahead y x ≡ false) h (sort ahead m) o.0 low)

  -- what stands ahead of all the rest stays in front of it
  pub sort_below : (h m : List A) → sort ahead h ≡ h → ((x y : A) → Memᴰ x h → Memᴰ y m → ahead x y ≡ true)
      → sort ahead (h ++ m) ≡ h ++ sort ahead m
  sort_below h m e k =
      ordered_below h m (subst (Ordered ahead) e (sort_ordered h))
      (all_of (λ x. All (λ y. ahead x y ≡ true) m) h (λ x a. all_of (λ y. ahead x y ≡ true) m (λ y b. k x y a b)))

  -- the best n of l and m are found from the best n of l
  pub take_sort_append : (n : ℕ) (l m : List A)
      → take n (sort ahead (take n (sort ahead l) ++ m)) ≡ take n (sort ahead (l ++ m))
  take_sort_append n l m =
      ap (take n) (sort_append_comm (take n (sort ahead l)) m)
      ∙ take_sort_more ahead n (take n (sort ahead l)) l m best
      ∙ ap (take n) (sort_append_comm m l)
    where
      best : take n (sort ahead (take n (sort ahead l))) ≡ take n (sort ahead l)
      best =
          ap (take n)
          (ordered_sort ahead (take n (sort ahead l)) (take_ordered ahead n (sort ahead l) (sort_ordered l)))
          ∙ take-take n n (sort ahead l) (omega arith)
