-- Place values, in a table: 1 to 1,000,000. Each is ten times the one before, and a column's number is the sum of its
-- digits times their entries, the last digit times entry 0, negative after a minus. Assumes nothing.
use Rattle.std.specs.Prelude.{◌≡◌, refl, Bool, true, false, cond, List, [], ◌∷◌, ℕ, zero, suc, ◌+◌, ◌*◌, ◌-◌, ◌^◌, ◌≤◌}
use Rattle.std.specs.Prelude.{◌<◌, eqb, pos, neg_ℤ, length, get_or}
use Rattle.std.proofs.Common.{◌∙◌, pow-suc, arith, eqb-true}
use Rattle.lists.specs.Lists.{every, range}
use Rattle.lists.specs.Parts.{every_at, mem_range}
use Rattle.rules.specs.File.{blank, after_blanks, digits_from, has_minus, after_minus, digits_of, column_number}

abbrev pub place_values : List ℕ
place_values = 1 ∷ 10 ∷ 100 ∷ 1000 ∷ 10000 ∷ 100000 ∷ 1000000 ∷ []

-- entry i, of a digit with i digits behind it
abbrev pub place_value_at : ℕ → ℕ
place_value_at i = get_or place_values i 0

-- the digits times their entries, added up
unfoldable pub by_places : List ℕ → ℕ
by_places [] = 0
by_places (b ∷ l) = place_value_at (length l) * (b - 48) + by_places l

-- ---- The table's rule: one test over all of it, and one law that reads it off at every entry

tenfold : every (λ i. eqb (place_value_at (suc i)) (10 * place_value_at i)) (range 0 6) ≡ true
unfolding every range
tenfold = refl

pub place_tenfold : (i : ℕ) → i < 6 → place_value_at (suc i) ≡ 10 * place_value_at i
place_tenfold i h =
    eqb-true (place_value_at (suc i)) (10 * place_value_at i)
    (every_at (λ i. eqb (place_value_at (suc i)) (10 * place_value_at i)) i tenfold
    ((mem_range i 0 6).1 (omega arith, omega arith)))

pub place_power : (i : ℕ) → i < 7 → place_value_at i ≡ 10 ^ i
place_power zero h = refl
place_power (suc i) h = rw (place_tenfold i (omega arith), place_power i (omega arith), pow-suc) (omega arith)

-- ---- A column's number

-- digits behind others that are worth n
digits_behind : (n : ℕ) (l : List ℕ) → length l ≤ 6 → digits_from n l ≡ place_value_at (length l) * n + by_places l
unfolding digits_from by_places
digits_behind n [] h = omega arith
digits_behind n (b ∷ l) h =
    digits_behind (10 * n + (b - 48)) l (omega arith) ∙ rw (place_tenfold (length l) (omega arith)) (omega arith)

pub digits_places : (l : List ℕ) → length l ≤ 7 → digits_from 0 l ≡ by_places l
unfolding digits_from by_places
digits_places [] h = refl
digits_places (b ∷ l) h = digits_behind (10 * 0 + (b - 48)) l (omega arith) ∙ omega arith

blanks_less : (l : List ℕ) → length (after_blanks l) ≤ length l
unfolding after_blanks
blanks_less [] = omega arith
blanks_less (b ∷ l) = go (eqb b blank) (blanks_less l)
  where
    go : (t : Bool) → length (after_blanks l) ≤ length l → length (cond t (after_blanks l) (b ∷ l)) ≤ suc (length l)
    go true h = omega arith
    go false h = omega arith

minus_less : (signed : Bool) (l : List ℕ) → length (after_minus signed l) ≤ length l
unfolding after_minus
minus_less signed [] = omega arith
minus_less signed (b ∷ l) = go (has_minus signed (b ∷ l))
  where
    go : (t : Bool) → length (cond t l (b ∷ l)) ≤ suc (length l)
    go true = omega arith
    go false = omega arith

-- a column has no more digits than bytes
pub digits_less : (signed : Bool) (l : List ℕ) → length (digits_of signed l) ≤ length l
digits_less signed l = omega (arith, blanks_less l, minus_less signed (after_blanks l))

-- of a column of up to seven bytes: its digits times their entries, negative after a minus
pub column_places : (signed : Bool) (l : List ℕ) → length l ≤ 7 →
    let n = by_places (digits_of signed l) in
    column_number signed l ≡ cond (has_minus signed (after_blanks l)) (neg_ℤ (pos n)) (pos n)
unfolding column_number
column_places signed l h =
    let short : length (digits_of signed l) ≤ 7 = omega (arith, digits_less signed l) in
    rw (digits_places (digits_of signed l) short)
