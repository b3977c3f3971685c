-- What is known of the qualifying pairs of two blocks. Assumes nothing.
use Rattle.std.specs.Prelude.{◌≡◌, Bool, false, ◌&&◌, not, List, [], map, ℕ, ◌<◌}
use Rattle.std.proofs.Common.{ap, ◌∙◌, arith}
use mathlib.Core.List.Memᴰ
use Rattle.lists.specs.Lists.{keep, range, each}
use Rattle.lists.specs.Bools.{clash, and_false}
use Rattle.lists.specs.Parts.{no_member, mem_range, mem_keep, mem_each}
use Rattle.rules.specs.declared.Pair.{Pair}
use Rattle.rules.specs.declared.Query.{Query}
use Rattle.rules.specs.Tables.{row_count, Row, row, qualifies, withdrawn, rows_qualify, Terms, Block}
use Rattle.rules.specs.Tables.{pair_at, qualifying}

-- rows whose places lie too far apart do not qualify
pub places_far : (q : Query) (x y : Row) → qualifies q x.shade y.shade ≡ false → rows_qualify q x y ≡ false
unfolding rows_qualify
places_far q x y h =
    rw h (ap (λ b. not (withdrawn x) && b) (and_false (not (withdrawn y))) ∙ and_false (not (withdrawn x)))

-- blocks of which no two rows qualify have no qualifying pair
pub none_qualifying : (w : Terms) (x y : Block)
    → ((i j : ℕ) → i < row_count x.rows → j < row_count y.rows
    → w.near (row x.rows i) (row y.rows j) ≡ false)
    → qualifying w x y ≡ []
unfolding qualifying
none_qualifying w x y h =
    no_member (each pairs is)
    (λ p m.
    let r = (mem_each pairs p is).0 m in
    let s = Memᴰ.of_map (pair_at w x y r.0) (keep (near r.0) js) r.2 in
    let u = (mem_keep (near r.0) s.0 js).0 s.1 in
    clash u.1
    (h r.0 s.0 (omega (arith, (mem_range r.0 0 (row_count x.rows)).0 r.1))
    (omega (arith, (mem_range s.0 0 (row_count y.rows)).0 u.0))))
  where
    is : List ℕ
    is = range 0 (row_count x.rows)

    js : List ℕ
    js = range 0 (row_count y.rows)

    near : ℕ → ℕ → Bool
    near i j = w.near (row x.rows i) (row y.rows j)

    pairs : ℕ → List Pair
    pairs i = map (pair_at w x y i) (keep (near i) js)
