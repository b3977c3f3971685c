-- The scores of a block's rows fall, and no row beyond those that are not withdrawn qualifies. Assumes nothing.
use Rattle.std.specs.Prelude.{◌≡◌, false, ℕ, ◌≤◌, ◌<◌}
use Rattle.std.proofs.Common.{mul-le-mul, arith, eqb-true, eq-eqb}
use Rattle.lists.specs.Bools.{clash, fails}
use Rattle.rules.specs.declared.Query.{Query}
use Rattle.rules.specs.Tables.{Table, row, row_count, withdrawn, rows_qualify, weighted, terms}
use Rattle.session_laws.specs.ReadOut.{rows_qualify_out}
use Rattle.near_rows.specs.Live.{Live}
use Rattle.block_rows.specs.Parts.{WithdrawnBelow}
use Rattle.block.specs.Block.{RowsPassed}

-- scores fall
pub rows_below : (a : ℕ) (rows : Table) → RowsPassed a rows → WithdrawnBelow rows
unfolding withdrawn
rows_below a rows r i j h k e =
    eq-eqb (row rows j).score 0 (omega (arith, r.falls i j h k, eqb-true (row rows i).score 0 e))

-- and so do weighted scores
pub trim_falls : (q : Query) (a : ℕ) (rows : Table) → RowsPassed a rows → (k j : ℕ) → k ≤ j → j < row_count rows
    → (terms q).trim (row rows j) ≤ (terms q).trim (row rows k)
unfolding weighted
trim_falls q a rows r k j h l =
    let weight = q.weights.trim.0 in
    let same : weight ≤ weight = omega arith in
    mul-le-mul same (r.falls k j h l)

-- rows beyond the live ones of x, and of y, qualify with none
module _ (q : Query) (x y : Table) (n : ℕ) where
  pub none_beyond_first : Live x n → (i j : ℕ) → n ≤ i → i < row_count x
      → rows_qualify q (row x i) (row y j) ≡ false
  none_beyond_first l i j h k =
      fails (rows_qualify q (row x i) (row y j))
      (λ e. clash (l.beyond i h k) (rows_qualify_out q (row x i) (row y j) e).0)

  pub none_beyond_second : Live y n → (i j : ℕ) → n ≤ j → j < row_count y
      → rows_qualify q (row x i) (row y j) ≡ false
  none_beyond_second l i j h k =
      fails (rows_qualify q (row x i) (row y j))
      (λ e. clash (l.beyond j h k) (rows_qualify_out q (row x i) (row y j) e).1)
