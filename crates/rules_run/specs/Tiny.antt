-- The rules, run by the checker on all tables of up to two rows from a small domain: the sums that reading until
-- settled and taking until finished bring out are the k highest of all qualifying sums. Assumes nothing.
use Rattle.std.specs.Prelude.{ℕ, ◌≡◌, refl, Bool, true, false, ◌&&◌, List, [], ◌∷◌, ◌++◌, map, eqb, ℤ, pos}
use Rattle.lists.specs.Lists.{every, keep, each, best}
use Rattle.rules.specs.declared.Query.{Query}
use Rattle.rules.specs.Tables.{Table, old_table, legal}
use Rattle.rules.specs.Session.{weights, exact_query}
use Rattle.rules.specs.Sure.{qualifying_sums}
use Rattle.rules.specs.Query.{list}
use Rattle.rules.specs.Run.{run}

pub same : List ℕ → List ℕ → Bool
same [] [] = true
same [] (y ∷ m) = false
same (x ∷ l) [] = false
same (x ∷ l) (y ∷ m) = eqb x y && same l m

-- all rows with one of these scores and one of these places
pub rows : List ℕ → List ℕ → List (List ℤ)
rows scores places = each (λ score. map (λ a. pos 1 ∷ pos score ∷ pos a ∷ pos 0 ∷ []) places) scores

-- all legal tables of up to two of these rows
pub tables : List (List ℤ) → List Table
tables some = keep legal (map old_table ([] ∷ (some ++ each (λ x. map (λ y. x ++ y) some) some)))

-- Places 0 and 1 against 0 and 2, at radius 1: nearer, just as far, and farther.
abbrev pub field_tables : List Table
field_tables = tables (rows (0 ∷ 1 ∷ 2 ∷ []) (0 ∷ 1 ∷ []))

abbrev pub trim_tables : List Table
trim_tables = tables (rows (0 ∷ 1 ∷ []) (0 ∷ 2 ∷ []))

pub tiny_query : ℕ → ℕ → Query
tiny_query k block = exact_query k block 1 (weights 1 1)

pub right : Query → Table → Table → Bool
right q f t = same (map (λ p. p.sum) (list q f t)) (best q.k (qualifying_sums q f t))

pub all_right : Query → List Table → List Table → Bool
all_right q fs ts = every (λ f. every (right q f) ts) fs

pub k1_block1 : all_right (tiny_query 1 1) field_tables trim_tables ≡ true
unfolding run best qualifying_sums same rows tables tiny_query right all_right
k1_block1 = refl

pub k1_block2 : all_right (tiny_query 1 2) field_tables trim_tables ≡ true
unfolding run best qualifying_sums same rows tables tiny_query right all_right
k1_block2 = refl

pub k2_block1 : all_right (tiny_query 2 1) field_tables trim_tables ≡ true
unfolding run best qualifying_sums same rows tables tiny_query right all_right
k2_block1 = refl

pub k2_block2 : all_right (tiny_query 2 2) field_tables trim_tables ≡ true
unfolding run best qualifying_sums same rows tables tiny_query right all_right
k2_block2 = refl
