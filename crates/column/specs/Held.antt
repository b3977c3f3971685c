-- The number of a column by its scan. Definitions only. Assumes nothing.
use Rattle.std.specs.Prelude.{ℕ, Bool, cond, ◌&&◌, not, List, ◌∷◌, leb, eqb, ℤ, pos, neg_ℤ, get_or, drop, Option}
use Rattle.std.specs.Prelude.{Some, None}
use Rattle.file_laws.specs.Places.{place_values}
use Rattle.column_scan.specs.declared.Scan.{Scan}

-- the least that so many digits are worth which write a number: 0 is one digit, others do not begin with 0, and what
-- stands for no digits no scan is worth
abbrev pub leasts : List ℕ
leasts = 20000000 ∷ 0 ∷ drop 1 place_values

abbrev pub least_of : ℕ → ℕ
least_of digits = get_or leasts digits 0

-- the number that a scan has met
unfoldable pub signed_worth : Scan → ℤ
signed_worth s = cond s.negative (neg_ℤ (pos s.worth)) (pos s.worth)

-- whether a column that is scanned so is formed as a number, and the number if it is
abbrev pub scan_fits : Scan → Bool
scan_fits s = not s.bad && (leb (least_of s.digits) s.worth && not (s.negative && eqb s.worth 0))

unfoldable pub held_of : Scan → Option ℤ
held_of s = cond (scan_fits s) (Some (signed_worth s)) None
