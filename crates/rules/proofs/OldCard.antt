-- Old kinds read, pair and print as before: on the old card the rules are, in its own formulas, those of the first
-- paper. Assumes nothing.
use Rattle.std.specs.Prelude.{◌≡◌, Bool, true, false, ◌&&◌, List, [], ◌∷◌, ℕ, suc, ◌+◌, ◌*◌, ◌/◌, ◌%◌, ◌≤◌, leb, eqb, ℤ}
use Rattle.std.specs.Prelude.{pos, negsuc, length, get_or, take, drop}
use Rattle.std.proofs.Math.Path.{refl, ap₂}
use Rattle.std.proofs.Common.{ap, ◌∙◌, drop-cons}
use native.Mathlib.Omega.{arith}
use Rattle.lists.specs.Lists.{every, range}
use Rattle.lists.specs.Bools.{and_true}
use Rattle.rules.specs.declared.Query.{Query}
use Rattle.rules.specs.Tables.{old_table, row_count, size_fits, within, coordinate_fits, fits_at, shade_fits, in_range}
use Rattle.rules.specs.Tables.{row_in_range, shade_at, gap, squares, squared_distance, tolerance, qualifies}
use Rattle.rules.specs.File.{columns, column_fits, column_number, ends_line, column_start, row_bytes}
use Rattle.rules.specs.File.{column_fits_at, number_at, row_columns_fit, row_numbers}
use Rattle.rules.specs.Query.{most_file_bytes}
use Rattle.rules.proofs.ToleranceLaws.{qualifies_exact}

-- ---- Distance

-- "da × da + db × db"
pub old_distance : (a b c d : ℤ)
    → squared_distance (a ∷ b ∷ []) (c ∷ d ∷ []) ≡ gap a c * gap a c + gap b d * gap b d
unfolding squares
old_distance a b c d = omega arith

-- "qualifies if da × da + db × db ≤ radius × radius": of shades that are known, whatever is made of tolerances
pub old_qualifies : (q : Query) → tolerance q ≡ 0 → (a b c d : ℤ)
    → qualifies q (a ∷ b ∷ []) (c ∷ d ∷ [])
    ≡ leb (gap a c * gap a c + gap b d * gap b d) (q.radius * q.radius)
old_qualifies q e a b c d =
    qualifies_exact q e (a ∷ b ∷ []) (c ∷ d ∷ []) ∙ ap (λ n. leb n (q.radius * q.radius)) (old_distance a b c d)

-- ---- Four numbers to a row

-- "a and b, each -12,800 to 12,700"
pub old_shade_fits : (a b : ℤ)
    → shade_fits (a ∷ b ∷ []) ≡ (within (negsuc 12799) (pos 12700) a && within (negsuc 12799) (pos 12700) b)
unfolding shade_fits fits_at coordinate_fits every range
old_shade_fits a b =
    ap (λ x. within (negsuc 12799) (pos 12700) a && x) (and_true (within (negsuc 12799) (pos 12700) b))

module _ (l : List ℤ) where
  pub old_count : row_count (old_table l) ≡ length l / 4
  old_count = refl

  -- "slice length not a multiple of 4, more than 65,535 rows"
  pub old_size : size_fits (old_table l) ≡ (eqb (length l % 4) 0 && leb (length l / 4) 65535)
  unfolding size_fits
  old_size = refl

  module _ (i : ℕ) (there : 4 * i + 4 ≤ length l) where
    -- "pattern number, score, a, b"
    old_shade : shade_at (old_table l) i ≡ get_or l (4 * i + 2) (pos 0) ∷ get_or l (4 * i + 3) (pos 0) ∷ []
    old_shade =
        let a = get_or l (4 * i + 2) (pos 0) in
        let next : suc (4 * i + 2) ≡ 4 * i + 3 = omega arith in
        ap (take 2) (drop-cons l (4 * i + 2) (pos 0) (omega arith))
        ∙ ap (λ o. a ∷ take 1 (drop o l)) next
        ∙ ap (λ r. a ∷ take 1 r) (drop-cons l (4 * i + 3) (pos 0) (omega arith))

    -- "pattern number 1 to 999,999; score 0 to 9,999; a and b, each -12,800 to 12,700"
    pub old_range : row_in_range (old_table l) i
        ≡ (within (pos 1) (pos 999999) (get_or l (4 * i) (pos 0))
        && (within (pos 0) (pos 9999) (get_or l (4 * i + 1) (pos 0))
        && (within (negsuc 12799) (pos 12700) (get_or l (4 * i + 2) (pos 0))
        && within (negsuc 12799) (pos 12700) (get_or l (4 * i + 3) (pos 0)))))
    unfolding row_in_range in_range
    old_range =
        let first : 4 * i + 0 ≡ 4 * i = omega arith in
        let score = within (pos 0) (pos 9999) (get_or l (4 * i + 1) (pos 0)) in
        ap₂ (λ o r. within (pos 1) (pos 999999) (get_or l o (pos 0)) && (score && r)) first
        (ap shade_fits old_shade ∙ old_shade_fits (get_or l (4 * i + 2) (pos 0)) (get_or l (4 * i + 3) (pos 0)))

-- ---- 27 bytes a row, and the program's limit

pub old_row_bytes : row_bytes 2 ≡ 27
unfolding row_bytes column_start
old_row_bytes = refl

regroup : (a b c d e : Bool) → ((a && (b && (c && (d && true)))) && e) ≡ (a && (b && (c && (d && e))))
regroup false b c d e = refl
regroup true false c d e = refl
regroup true true false d e = refl
regroup true true true false e = refl
regroup true true true true e = refl

-- "pattern number 1-6, score 7-12, a 13-19, b 20-26, LF"
pub old_columns : (bytes : List ℕ) (i : ℕ) → row_columns_fit 2 bytes i
    ≡ (let o = 13 + 27 * i in
    column_fits false (columns bytes o 6)
    && (column_fits false (columns bytes (o + 6) 6)
    && (column_fits true (columns bytes (o + 12) 7)
    && (column_fits true (columns bytes (o + 19) 7) && ends_line bytes (o + 26)))))
unfolding row_columns_fit column_fits_at column_start row_bytes every range
old_columns bytes i =
    let o = 13 + 27 * i in
    let first : o + 0 ≡ o = omega arith in
    let b = column_fits false (columns bytes (o + 6) 6) in
    let c = column_fits true (columns bytes (o + 12) 7) in
    let d = column_fits true (columns bytes (o + 19) 7) in
    let e = ends_line bytes (o + 26) in
    ap (λ k. (column_fits false (columns bytes k 6) && (b && (c && (d && true)))) && e) first
    ∙ regroup (column_fits false (columns bytes o 6)) b c d e

pub old_numbers : (bytes : List ℕ) (i : ℕ) → row_numbers 2 bytes i
    ≡ (let o = 13 + 27 * i in
    column_number false (columns bytes o 6)
    ∷ column_number false (columns bytes (o + 6) 6)
    ∷ column_number true (columns bytes (o + 12) 7)
    ∷ column_number true (columns bytes (o + 19) 7)
    ∷ [])
unfolding row_numbers number_at column_start row_bytes range
old_numbers bytes i =
    let o = 13 + 27 * i in
    let first : o + 0 ≡ o = omega arith in
    ap
    (λ k.
    column_number false (columns bytes k 6)
    ∷ column_number false (columns bytes (o + 6) 6)
    ∷ column_number true (columns bytes (o + 12) 7)
    ∷ column_number true (columns bytes (o + 19) 7)
    ∷ [])
    first

-- "A file above 13,837 bytes"
pub old_limit : most_file_bytes 2 ≡ 13837
unfolding row_bytes column_start
old_limit = refl

-- and on the new card "33 bytes in all", "up to 16,909 bytes"
pub new_row_bytes : row_bytes 3 ≡ 33
unfolding row_bytes column_start
new_row_bytes = refl

pub new_limit : most_file_bytes 3 ≡ 16909
unfolding row_bytes column_start
new_limit = refl
