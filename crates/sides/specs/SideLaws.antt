-- Laws of the sides in lent numbers and of the rectangle of a block's first rows. Assumes nothing.
use Rattle.std.specs.Prelude.{◌≡◌, refl, ℕ, ◌+◌, ◌-◌, ◌<◌, List, ℤ, length, get_or}
use Rattle.std.proofs.Common.{sym, ◌∙◌, ext_get_or}
use Rattle.std.proofs.Math.Path.{ap}
use native.Mathlib.Omega.{arith}
use Rattle.lists.specs.Parts.{length_map_range, map_range_at}
use Rattle.rules.specs.Tables.{Table, row_count, HasRows, first_rows, side, rectangle}
use Rattle.rules.proofs.Rectangles.{no_side, rectangle_length, first_side}
use Rattle.sides.specs.Sides.{side_in, sides_in, first_sides}

module _ (n : ℕ) (l : List ℤ) where
  pub in_length : length (sides_in n l) ≡ n
  unfolding sides_in
  in_length = length_map_range (λ k. side_in l k) 0 n

  pub in_at : (k : ℕ) → k < n → get_or (sides_in n l) k no_side ≡ side_in l k
  unfolding sides_in
  in_at k h =
      let e : 0 + k ≡ k = omega arith in
      map_range_at (λ k. side_in l k) 0 n k no_side h ∙ ap (λ k. side_in l k) e

module _ (t : Table) (m : ℕ) where
  pub first_length : length (first_sides t m) ≡ t.coordinates
  unfolding first_sides
  first_length = length_map_range (λ k. side t k (m - 1)) 0 t.coordinates

  pub first_at : (k : ℕ) → k < t.coordinates → get_or (first_sides t m) k no_side ≡ side t k (m - 1)
  unfolding first_sides
  first_at k h =
      let e : 0 + k ≡ k = omega arith in
      map_range_at (λ k. side t k (m - 1)) 0 t.coordinates k no_side h ∙ ap (λ k. side t k (m - 1)) e

  -- it is the rectangle of these rows
  pub first_rectangle : 0 < m → HasRows t m → rectangle (first_rows m t) ≡ first_sides t m
  first_rectangle some h =
      let long = rectangle_length (first_rows m t) in
      ext_get_or no_side (rectangle (first_rows m t)) (first_sides t m) (long ∙ sym first_length)
      (λ k l.
      let c : k < t.coordinates = omega arith in
      first_side t k c m some h ∙ sym (first_at k c))

  -- numbers in which each of its sides stands
  pub all_written : (l : List ℤ) → ((k : ℕ) → k < t.coordinates → side_in l k ≡ side t k (m - 1))
      → sides_in t.coordinates l ≡ first_sides t m
  all_written l h =
      let long = in_length t.coordinates l in
      ext_get_or no_side (sides_in t.coordinates l) (first_sides t m) (long ∙ sym first_length)
      (λ k b.
      let c : k < t.coordinates = omega arith in
      in_at t.coordinates l k c ∙ h k c ∙ sym (first_at k c))

-- that of all rows
pub all_first : (t : Table) → rectangle t ≡ first_sides t (row_count t)
unfolding rectangle first_sides
all_first t = refl
