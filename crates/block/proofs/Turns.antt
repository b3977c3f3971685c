-- What turns of the block join make of the keys of the pairs held: one row of x first, then all. Assumes nothing.
use Rattle.std.proofs.Common.{◌≡◌, false, true, List, ℕ, ◌+◌, ◌≤◌, ◌<◌, subst, ◌∙◌, arith, length, add-one}
use Rattle.lists.specs.Words.{Ordered}
use Rattle.rules.specs.declared.Pair.{Pair}
use Rattle.rules.specs.Tables.{Terms, Block, row, row_count, pair_at, ahead}
use Rattle.keys.specs.Held.{Narrow, Keyed, Put, falls_off}
use Rattle.keys.specs.Keys.{keyed_length}
use Rattle.near_rows.specs.Near.{NoneNear}
use Rattle.block.specs.Block.{met_row, met_rows, Joined, RowJoined}
use Rattle.block.specs.Full.{off, put_off, row_ordered, rows_ordered}
use Rattle.block.specs.Twin.{row_joins, row_leaves, row_skips, rows_skip, met_is}

module _ (w : Terms) (room : ℕ) (x y : Block) where
  -- Row i + 1 of x

  module _ (i : ℕ) (ks : List ℕ) where
    -- `after` stands for the pairs of ks and those of the row with the first j rows of y
    abbrev pub RowMet : ℕ → List ℕ → Type 0
    RowMet j after = (l : List Pair) → Keyed l ks → Ordered ahead l → Keyed (met_row w room x y i l j) after

    pub row_starts : RowMet 0 ks
    unfolding met_row
    row_starts l h o = h

    module _ (after : List ℕ) where
      -- rows that do not lie near are passed
      pub skipped : (j k : ℕ) → j ≤ k → NoneNear w x.rows i y.rows j k → RowMet j after → RowMet k after
      skipped j k from none met =
          λ l h o. subst (λ (m : List Pair). Keyed m after) (row_skips w room x y i l j k from none) (met l h o)

      -- a near pair is put
      pub joined : (k : ℕ) (next : List ℕ) (p : Pair) → RowMet k after
          → w.near (row x.rows i) (row y.rows k) ≡ true → p ≡ pair_at w x y i k
          → Put room p after next → RowMet (k + 1) next
      joined k next p met q e put =
          λ l h o.
          subst (λ (m : List Pair). Keyed m next) (row_joins w room x y i k l p q e)
          (put.held (met_row w room x y i l k) (met l h o))

      module _ (k : ℕ) (met : RowMet k after) (upto : k ≤ row_count y.rows) (few : length after ≤ room) where
        -- none of those left lies near
        pub row_ends : NoneNear w x.rows i y.rows k (row_count y.rows) → RowJoined w room x y i ks after
        row_ends none = record { few = few; held = skipped k (row_count y.rows) upto none met }

        -- a pair would fall off, and so would all later ones of the row
        pub rest_fallen : ((j : ℕ) → k ≤ j → j < row_count y.rows → Narrow (pair_at w x y i j)
            × (0 < room → falls_off room after (pair_at w x y i j) ≡ true))
            → RowJoined w room x y i ks after
        rest_fallen later =
            record {
              few = few;
              held =
                  λ l h o.
                  let m = met_row w room x y i l k in
                  subst (λ (m : List Pair). Keyed m after)
                  (row_leaves w room x y i l k (row_count y.rows) upto
                  (λ j a c.
                  put_off (w.near (row x.rows i) (row y.rows j)) room (pair_at w x y i j) m
                  (off room after m (pair_at w x y i j) (met l h o) few (later j a c).0 (row_ordered w room x y i l k o)
                  (later j a c).1)))
                  (met l h o);
            }

  -- All rows of x

  module _ (ks : List ℕ) where
    -- the first i of them
    abbrev pub Met : ℕ → List ℕ → Type 0
    Met i after = (l : List Pair) → Keyed l ks → Ordered ahead l → Keyed (met_rows w room x y l i) after

    pub starts : Met 0 ks
    unfolding met_rows
    starts l h o = h

    module _ (i : ℕ) (after : List ℕ) where
      pub next_row : Met i after → (next : List ℕ) → RowJoined w room x y i after next → Met (i + 1) next
      unfolding met_rows
      next_row met next row =
          λ l h o.
          rw (add-one i) (row.held (met_rows w room x y l i) (met l h o) (rows_ordered w room x y l i o))

      -- rows that are left lie near none of y
      pub all_met : Met i after → length ks ≤ room → length after ≤ room → i ≤ row_count x.rows
          → ((k : ℕ) → i ≤ k → k < row_count x.rows → (j : ℕ) → j < row_count y.rows
          → w.near (row x.rows k) (row y.rows j) ≡ false)
          → Joined w room x y ks after
      all_met met few few_after last none =
          record {
            few = few_after;
            held =
                λ l h o.
                subst (λ (m : List Pair). Keyed m after)
                (rows_skip w room x y l i (row_count x.rows) last none
                ∙ met_is w room x y l o (omega (arith, keyed_length l ks h)))
                (met l h o);
          }
