-- Laws of a query's tolerances as the code counts them: they are the rules', and no shades beyond reach or farther
-- apart than the wide radius qualify. Assumes nothing.
use Rattle.std.specs.Prelude.{◌≡◌, refl, Bool, true, false, List, [], ◌∷◌, ℤ, pos, length, get_or}
use Rattle.std.proofs.Math.Path.{sym, ap}
use Rattle.std.proofs.Common.{◌∙◌, suc-mul}
use Prim.Native.Nat.{ℕ, suc, ◌+◌, ◌*◌, ◌-◌, ◌≤◌, ◌<◌}
use Rattle.std.proofs.Math.Nat.{mul-le-mul}
use native.Mathlib.Omega.{arith}
use Rattle.std.proofs.Math.Dec.{leb}
use borrow.Author.Tests.{le-leb, lt-leb, leb-true, leb-false}
use Rattle.lists.specs.Bools.{clash, fails}
use Rattle.rules.specs.declared.Meaning.{Meaning}
use Rattle.rules.specs.declared.Meaning.TheVariants.{Possibly, Surely}
use Rattle.rules.specs.declared.Query.{Query}
use Rattle.rules.specs.Tables.{gap, squares, squared_distance, tolerance, meant, qualifies}
use Rattle.rules.specs.Squares.{square_at, squares_each, squares_place}
use Rattle.rules.proofs.ToleranceLaws.{qualifies_exact}
use Rattle.tolerances.specs.Counted.{more_by, less_by, more, less, counted, reach, wide, Beyond}

counted_by : (m : Meaning) (t : ℕ) (x y : ℤ) → counted (more_by m t) (less_by m t) x y ≡ meant m t x y
counted_by Surely t x y = omega arith
counted_by Possibly t x y = omega arith

module _ (q : Query) where
  -- a gap counts as the query's meaning has it
  pub counted_is : (x y : ℤ) → counted (more q) (less q) x y ≡ meant q.meaning (tolerance q) x y
  unfolding more less
  counted_is = counted_by q.meaning (tolerance q)

  -- two shades qualify by the gaps that count
  pub qualifies_counted : (x y : List ℤ)
      → qualifies q x y ≡ leb (squares (counted (more q) (less q)) x y) (q.radius * q.radius)
  unfolding qualifies
  qualifies_counted x y =
      ap (λ n. leb n (q.radius * q.radius))
      (sym (squares_each (counted (more q) (less q)) (meant q.meaning (tolerance q)) counted_is x y))

  more_far : (m : Meaning) (t r g : ℕ) → r + less_by m t - more_by m t < g → r < g + more_by m t - less_by m t
  more_far Surely t r g h = omega arith
  more_far Possibly t r g h = omega arith

  -- beyond reach in one coordinate is too far
  pub beyond_reach : (x y : List ℤ) → Beyond (reach q) x y → qualifies q x y ≡ false
  unfolding reach square_at more less
  beyond_reach x y (k, h, j, far) =
      let r = q.radius in
      let g = gap (get_or x k (pos 0)) (get_or y k (pos 0)) in
      let f = counted (more q) (less q) in
      let above : suc r ≤ f (get_or x k (pos 0)) (get_or y k (pos 0)) = more_far q.meaning (tolerance q) r g far in
      let place = squares_place f (pos 0) x y k h j in
      qualifies_counted x y
      ∙ lt-leb (squares f x y) (r * r) (omega (arith, mul-le-mul above above))

-- ---- As the shades stand

root_le : (m n : ℕ) → m * m ≤ n * n → m ≤ n
root_le m n h = go (leb m n) refl
  where
    go : (t : Bool) → leb m n ≡ t → m ≤ n
    go true e = leb-true m n e
    go false e = let l : suc n ≤ m = leb-false m n e in absurd (omega (arith, mul-le-mul l l))

-- no gap is larger than it counts as by more than it was lowered by, and none counts as more than the radius
stand_most : (more less r : ℕ) (x y : List ℤ) → squares (counted more less) x y ≤ r * r
    → squared_distance x y ≤ squares (counted more less) x y + length x * (2 * (less * r) + less * less)
unfolding squares
stand_most more less r [] l h = omega arith
stand_most more less r (x ∷ k) [] h = omega arith
stand_most more less r (x ∷ k) (y ∷ l) h =
    let c = counted more less x y in
    let rest = stand_most more less r k l (omega arith) in
    let most : gap x y ≤ c + less = omega arith in
    let same : less ≤ less = omega arith in
    let some : less * c ≤ less * r = mul-le-mul same (root_le c r (omega arith)) in
    omega (arith, mul-le-mul most most, suc-mul (length k) (2 * (less * r) + less * less))

module _ (q : Query) (x y : List ℤ) where
  within_wide : length x ≤ 3 → qualifies q x y ≡ true → squared_distance x y ≤ wide q * wide q
  unfolding wide
  within_wide few e =
      let r = q.radius in
      let l = less q in
      let near = leb-true (squares (counted (more q) l) x y) (r * r) (sym (qualifies_counted q x y) ∙ e) in
      let step = 2 * (l * r) + l * l in
      let same : step ≤ step = omega arith in
      omega (arith, stand_most (more q) l r x y near, mul-le-mul few same)

  -- shades farther apart than the wide radius do not qualify
  pub not_wide : length x ≤ 3 → leb (squared_distance x y) (wide q * wide q) ≡ false → qualifies q x y ≡ false
  not_wide few e =
      fails (qualifies q x y)
      (λ f. clash (le-leb (squared_distance x y) (wide q * wide q) (within_wide few f)) e)

  less_none : (m : Meaning) (t : ℕ) → t ≡ 0 → less_by m t ≡ 0
  less_none Surely t e = refl
  less_none Possibly t e = e

  -- without tolerances that is all
  pub wide_exact : tolerance q ≡ 0 → leb (squared_distance x y) (wide q * wide q) ≡ qualifies q x y
  unfolding wide less
  wide_exact e =
      let none = less_none q.meaning (tolerance q) e in
      let same : q.radius + 3 * less q ≡ q.radius = omega arith in
      ap (λ r. leb (squared_distance x y) (r * r)) same ∙ sym (qualifies_exact q e x y)
