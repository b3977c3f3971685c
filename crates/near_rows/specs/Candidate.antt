-- Rows that may lie near: by their shades as they stand, and a radius wide enough for every tolerance. Assumes nothing.
use Rattle.std.specs.Prelude.{◌≡◌, Bool, true, false, ℕ, ◌*◌, ◌≤◌, ◌<◌, leb, length}
use Rattle.std.proofs.Math.Path.{sym}
use Rattle.std.proofs.Common.{◌∙◌, arith}
use Rattle.rules.specs.declared.Query.{Query}
use Rattle.rules.specs.Tables.{Table, Row, row, row_count, withdrawn, squared_distance, tolerance, terms}
use Rattle.rules.specs.Qualifying.{places_far}
use Rattle.rules.specs.Widths.{has_row, shade_length}
use Rattle.session_laws.specs.Record.{card_small}
use Rattle.session_laws.specs.ReadOut.{rows_qualify_in}
use Rattle.tolerances.specs.Counted.{wide}
use Rattle.tolerances.specs.Reach.{not_wide, wide_exact}
use Rattle.near_rows.specs.Near.{NoneNear}
use Rattle.near_rows.specs.Small.{SmallPairs}

-- two rows lie within the radius, as they stand
unfoldable pub stand_near : ℕ → Row → Row → Bool
stand_near radius x y = leb (squared_distance x.shade y.shade) (radius * radius)

-- r is the first of y's first n rows from row j on that may lie near row i of x, or n; without tolerances it does
pub record Candidate (q : Query) (x : Table) (i : ℕ) (y : Table) (n j r : ℕ) : Type 0 where
  pub from : j ≤ r
  pub upto : r ≤ n
  pub none_before : NoneNear (terms q) x i y j r
  pub found : tolerance q ≡ 0 → r < n → (terms q).near (row x i) (row y r) ≡ true

module _ (q : Query) (x y : Table) (small : SmallPairs q x y) (i j : ℕ) (h : i < row_count x) where
  few : length (row x i).shade ≤ 3
  unfolding row
  few = omega (arith, shade_length x i (has_row x i h), card_small x.coordinates small.card)

  -- rows that do not lie within the wide radius do not qualify
  pub stand_far : stand_near (wide q) (row x i) (row y j) ≡ false → (terms q).near (row x i) (row y j) ≡ false
  unfolding stand_near
  stand_far e = places_far q (row x i) (row y j) (not_wide q (row x i).shade (row y j).shade few e)

  -- without tolerances those that do qualify
  pub stand_near_lem : tolerance q ≡ 0 → withdrawn (row x i) ≡ false → withdrawn (row y j) ≡ false
      → stand_near (wide q) (row x i) (row y j) ≡ true → (terms q).near (row x i) (row y j) ≡ true
  unfolding stand_near
  stand_near_lem e a b f =
      rows_qualify_in q (row x i) (row y j) a b ∙ sym (wide_exact q (row x i).shade (row y j).shade e) ∙ f
