-- Pair by pair is all at once: the pairs held after a block pair are the best-ranked of those held and the qualifying
-- pairs met. Assumes nothing.
use Rattle.std.specs.Prelude.{◌≡◌, Bool, length}
use Rattle.std.proofs.Math.Path.{refl, sym, ap}
use Rattle.std.proofs.Common.{◌∙◌, zero-add, add-one, length-take, take_all}
use Rattle.std.proofs.Math.Bool.{true, false}
use mathlib.Core.List.{List, [], ◌∷◌, ◌++◌, map, map-append, append-nil}
use Prim.Native.Nat.{ℕ, zero, suc, ◌+◌, ◌≤◌, ◌<◌}
use native.Mathlib.Omega.{arith}
use Rattle.std.proofs.Math.Decide.{dec_le}
use Rattle.std.proofs.Math.Dec.{eqb}
use Rattle.std.proofs.Math.ListN.{take}
use borrow.Author.Tests.{eqb-true, eqb-false}
use Rattle.lists.specs.Lists.{cons_if, keep, each, range, ins, sort}
use Rattle.lists.specs.Words.{Ordered}
use Rattle.lists.specs.Appends.{keep_append, each_append, range_end}
use Rattle.lists.specs.Sorts as Sorts
use Rattle.rules.specs.declared.Pair.{Pair}
use Rattle.rules.specs.Tables.{Terms, Block, row, row_count, pair_at, qualifying, ahead}
use Rattle.rules.proofs.Ranking.{ahead_strict}
use Rattle.block.specs.Block.{put_if, met_row, met_rows}

-- pairs put one after the other
unfoldable pub put_all : ℕ → List Pair → List Pair → List Pair
put_all room l [] = l
put_all room l (p ∷ m) = put_all room (take room (ins ahead p l)) m

put_all_append : (room : ℕ) (l m n : List Pair) → put_all room l (m ++ n) ≡ put_all room (put_all room l m) n
unfolding put_all
put_all_append room l [] n = refl
put_all_append room l (p ∷ m) n = put_all_append room (take room (ins ahead p l)) m n

-- putting one by one, and keeping `room` of them each time, is ranking all and keeping `room`
put_all_sort : (room : ℕ) (l m : List Pair) → Ordered ahead l → length l ≤ room
    → put_all room l m ≡ take room (sort ahead (l ++ m))
unfolding put_all sort
put_all_sort room l [] o h =
    sym
    (ap (λ (r : List Pair). take room (sort ahead r)) (append-nil l) ∙ ap (take room) (Sorts.ordered_sort ahead l o)
    ∙ take_all room l h)
put_all_sort room l (p ∷ m) o h =
    let next = take room (ins ahead p l) in
    let sorted : sort ahead (p ∷ l) ≡ ins ahead p l = ap (ins ahead p) (Sorts.ordered_sort ahead l o) in
    put_all_sort room next m
    (Sorts.take_ordered ahead room (ins ahead p l) (Sorts.ins_ordered ahead ahead_strict p l o))
    (few room (ins ahead p l))
    ∙ ap (λ (r : List Pair). take room (sort ahead (take room r ++ m))) (sym sorted)
    ∙ Sorts.take_sort_append ahead ahead_strict room (p ∷ l) m
    ∙ ap (take room) (moved l m)
  where
    few : (n : ℕ) (r : List Pair) → length (take n r) ≤ n
    few n r = omega (arith, length-take n r)

    moved : (l m : List Pair) → sort ahead ((p ∷ l) ++ m) ≡ sort ahead (l ++ p ∷ m)
    moved l m =
        ap (ins ahead p) (Sorts.sort_append_comm ahead ahead_strict l m)
        ∙ sym (Sorts.sort_append_comm ahead ahead_strict l (p ∷ m))

module _ (w : Terms) (room : ℕ) (x y : Block) where
  abbrev test : ℕ → ℕ → Bool
  test i j = w.near (row x.rows i) (row y.rows j)

  -- the pairs of row i + 1 of x with the first j rows of y
  pairs_of : ℕ → ℕ → List Pair
  pairs_of i j = map (pair_at w x y i) (keep (test i) (range 0 j))

  put_one : (b : Bool) (i j : ℕ) (l : List Pair)
      → put_if b room (pair_at w x y i j) l ≡ put_all room l (map (pair_at w x y i) (cons_if b j []))
  unfolding put_all cons_if
  put_one true i j l = refl
  put_one false i j l = refl

  pairs_suc : (i j : ℕ) → pairs_of i (suc j) ≡ pairs_of i j ++ map (pair_at w x y i) (cons_if (test i j) j [])
  unfolding pairs_of keep
  pairs_suc i j =
      ap (λ (r : List ℕ). map (pair_at w x y i) (keep (test i) r))
      (range_end 0 j ∙ ap (λ (b : ℕ). range 0 j ++ b ∷ []) (zero-add j))
      ∙ ap (map (pair_at w x y i)) (keep_append (test i) (range 0 j) (j ∷ []))
      ∙ map-append (pair_at w x y i) (keep (test i) (range 0 j)) (cons_if (test i j) j [])

  row_is : (i : ℕ) (l : List Pair) (j : ℕ) → met_row w room x y i l j ≡ put_all room l (pairs_of i j)
  unfolding met_row pairs_of range keep put_all
  row_is i l zero = refl
  row_is i l (suc j) =
      ap (put_if (test i j) room (pair_at w x y i j)) (row_is i l j)
      ∙ put_one (test i j) i j (put_all room l (pairs_of i j))
      ∙ sym (put_all_append room l (pairs_of i j) (map (pair_at w x y i) (cons_if (test i j) j [])))
      ∙ ap (put_all room l) (sym (pairs_suc i j))

  -- the pairs of the first i rows of x with all rows of y
  pairs_to : ℕ → List Pair
  pairs_to i = each (λ a. pairs_of a (row_count y.rows)) (range 0 i)

  pairs_to_suc : (i : ℕ) → pairs_to (suc i) ≡ pairs_to i ++ pairs_of i (row_count y.rows)
  unfolding pairs_to each
  pairs_to_suc i =
      ap (each (λ a. pairs_of a (row_count y.rows))) (range_end 0 i ∙ ap (λ (b : ℕ). range 0 i ++ b ∷ []) (zero-add i))
      ∙ each_append (λ a. pairs_of a (row_count y.rows)) (range 0 i) (i ∷ [])
      ∙ ap (λ (r : List Pair). pairs_to i ++ r) (append-nil (pairs_of i (row_count y.rows)))

  rows_are : (l : List Pair) (i : ℕ) → met_rows w room x y l i ≡ put_all room l (pairs_to i)
  unfolding met_rows pairs_to range each put_all
  rows_are l zero = refl
  rows_are l (suc i) =
      row_is i (met_rows w room x y l i) (row_count y.rows)
      ∙ ap (λ (r : List Pair). put_all room r (pairs_of i (row_count y.rows))) (rows_are l i)
      ∙ sym (put_all_append room l (pairs_to i) (pairs_of i (row_count y.rows)))
      ∙ ap (put_all room l) (sym (pairs_to_suc i))

  all_is : pairs_to (row_count x.rows) ≡ qualifying w x y
  unfolding pairs_to pairs_of qualifying
  all_is = refl

  -- the block join, pair by pair, is the rule's
  pub met_is : (l : List Pair) → Ordered ahead l → length l ≤ room →
      met_rows w room x y l (row_count x.rows) ≡ take room (sort ahead (l ++ qualifying w x y))
  met_is l r h =
      rows_are l (row_count x.rows)
      ∙ ap (put_all room l) all_is
      ∙ put_all_sort room l (qualifying w x y) r h

  -- one near pair more
  pub row_joins : (i j : ℕ) (l : List Pair) (p : Pair) →
      w.near (row x.rows i) (row y.rows j) ≡ true →
      p ≡ pair_at w x y i j →
      take room (ins ahead p (met_row w room x y i l j)) ≡ met_row w room x y i l (j + 1)
  unfolding met_row
  row_joins i j l p q e =
      ap (λ (r : Pair). take room (ins ahead r (met_row w room x y i l j))) e ∙ sym (rw (add-one, q))

  -- rows of y that, near row i + 1 of x or not, leave the pairs held
  pub row_leaves : (i : ℕ) (l : List Pair) (j r : ℕ) → j ≤ r
      → ((k : ℕ) → j ≤ k → k < r → put_if (test i k) room (pair_at w x y i k) (met_row w room x y i l j)
      ≡ met_row w room x y i l j)
      → met_row w room x y i l j ≡ met_row w room x y i l r
  unfolding met_row
  row_leaves i l j zero h same = let e : j ≡ 0 = omega arith in ap (met_row w room x y i l) e
  row_leaves i l j (suc r) h same = go (eqb j (suc r)) refl (row_leaves i l j r)
    where
      go : (t : Bool) → eqb j (suc r) ≡ t
          → (j ≤ r → ((k : ℕ) → j ≤ k → k < r → put_if (test i k) room (pair_at w x y i k) (met_row w room x y i l j)
          ≡ met_row w room x y i l j)
          → met_row w room x y i l j ≡ met_row w room x y i l r)
          → met_row w room x y i l j ≡ met_row w room x y i l (suc r)
      go true e before = ap (met_row w room x y i l) (eqb-true j (suc r) e)
      go false e before =
          let n = eqb-false j (suc r) e in
          sym (same r (omega (arith, n)) (omega arith))
          ∙ ap (put_if (test i r) room (pair_at w x y i r))
          (before (omega (arith, n)) (λ k a b. same k a (omega (arith, b))))

  -- as those that do not lie near do
  pub row_skips : (i : ℕ) (l : List Pair) (j r : ℕ) → j ≤ r
      → ((k : ℕ) → j ≤ k → k < r → w.near (row x.rows i) (row y.rows k) ≡ false)
      → met_row w room x y i l j ≡ met_row w room x y i l r
  row_skips i l j r h none =
      row_leaves i l j r h
      (λ k a b. ap (λ (t : Bool). put_if t room (pair_at w x y i k) (met_row w room x y i l j)) (none k a b))

  -- and so do rows of x that lie near none of y
  pub rows_skip : (l : List Pair) (i r : ℕ) → i ≤ r
      → ((b : ℕ) → i ≤ b → b < r → (k : ℕ) → k < row_count y.rows
      → w.near (row x.rows b) (row y.rows k) ≡ false)
      → met_rows w room x y l i ≡ met_rows w room x y l r
  unfolding met_row met_rows
  rows_skip l i zero h none = let e : i ≡ 0 = omega arith in ap (met_rows w room x y l) e
  rows_skip l i (suc r) h none = go (dec_le (suc r) i) (rows_skip l i r)
    where
      go : Dec (suc r ≤ i)
          → (i ≤ r → ((b : ℕ) → i ≤ b → b < r → (k : ℕ) → k < row_count y.rows
          → w.near (row x.rows b) (row y.rows k) ≡ false)
          → met_rows w room x y l i ≡ met_rows w room x y l r)
          → met_rows w room x y l i ≡ met_rows w room x y l (suc r)
      go (yes k) before = let e : i ≡ suc r = omega arith in ap (met_rows w room x y l) e
      go (no k) before =
          before (omega arith) (λ b a c. none b a (omega (arith, c)))
          ∙ row_skips r (met_rows w room x y l r) 0 (row_count y.rows) (omega arith)
          (λ j a c. none r (omega arith) (omega arith) j c)

  -- the pairs held when the first i rows of x have met all of y, and row i + 1 its first j rows
  abbrev pub met_to : List Pair → ℕ → ℕ → List Pair
  met_to l i j = met_row w room x y i (met_rows w room x y l i) j

  -- row i + 1 has met all of y
  pub to_next : (l : List Pair) (i : ℕ) → met_to l i (row_count y.rows) ≡ met_to l (i + 1) 0
  unfolding met_row met_rows
  to_next l i = sym (rw add-one)
