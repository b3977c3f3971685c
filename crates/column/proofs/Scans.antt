-- A column that is scanned to its end holds what the rules say. Assumes nothing.
use mathlib.Core.Path.{◌≡◌, refl, sym, ap, ap₂, ◌∙◌}
use mathlib.Core.Bool.{Bool, true, false, cond, ◌&&◌, not, and-false, or-true, or-false}
use mathlib.Core.List.{List, [], ◌∷◌}
use Prim.Native.Nat.{ℕ, suc, ◌+◌, ◌*◌, ◌-◌, ◌≤◌, ◌<◌}
use native.Mathlib.Nat.{mul-le-mul, mul-zero}
use native.Mathlib.Omega.{arith}
use lib.Dec.{leb, eqb}
use lib.IntN.{ℤ, pos, neg_ℤ}
use Rattle.std.proofs.Common.{Option, Some, None}
use lib.ListN.{length}
use borrow.Author.Tests.{ne_eqb, eqb-true, eqb-false, le-leb, lt-leb}
use Rattle.lists.specs.Lists.{every}
use Rattle.rules.specs.File.{is_digit, after_blanks, digits_fit, has_minus, after_minus, digits_of}
use Rattle.rules.specs.File.{column_fits, column_number}
use Rattle.lists.specs.Bools.{and_left, and_right, and_true}
use Rattle.file_laws.specs.Spelling.{digit_range}
use Rattle.file_laws.specs.Places.{place_value_at, by_places, place_tenfold, digits_places, digits_less}
use Rattle.column_scan.specs.declared.Scan.{Scan}
use Rattle.column_scan.specs.Scan.{byte_worth, stepped, start, scanned}
use Rattle.column_scan.proofs.Bytes.{digit_worth}
use Rattle.column.specs.Column.{column_held, number_held_lem}
use Rattle.column.specs.Held.{least_of, signed_worth, scan_fits, held_of}

-- number n, after a minus or not, of a column that fits
abbrev held_as : Bool → Bool → ℕ → Option ℤ
held_as m fits n = cond fits (Some (cond m (neg_ℤ (pos n)) (pos n))) None

-- a column of so many digits that are worth n
abbrev digits_held : Bool → ℕ → ℕ → Option ℤ
digits_held m c n = held_as m (leb (least_of c) n && not (m && eqb n 0)) n

-- a column of these digits, after a minus or not
number_held : Bool → List ℕ → Option ℤ
number_held m ds = let n = by_places ds in held_as m (digits_fit ds && not (m && eqb n 0)) n

-- a scan that has met so many digits, and one that has met a minus only
abbrev in_digits : Bool → ℕ → ℕ → Scan
in_digits m c n = record { seen = true; digits = c; negative = m; bad = false; worth = n }

abbrev at_minus : Scan
at_minus = record { seen = true; digits = 0; negative = true; bad = false; worth = 0 }

-- a scan that holds a number has met it
met : (s : Scan) (z : ℤ) → held_of s ≡ Some z → signed_worth s ≡ z
unfolding held_of
met s z = go (scan_fits s)
  where
    go : (t : Bool) → cond t (Some (signed_worth s)) None ≡ Some z → signed_worth s ≡ z
    go true e = cc
    go false e = cc

bad_held : (s : Scan) → s.bad ≡ true → held_of s ≡ None
unfolding held_of
bad_held s h = rw h

none_first : (m : Bool) (b : ℕ) (l : List ℕ) → is_digit b ≡ false → number_held m (b ∷ l) ≡ None
unfolding number_held digits_fit
none_first m b [] h = rw h
none_first m b (c ∷ l) h = rw h

-- ---- So many digits that do not begin with 0 are worth so much at least, others less

-- digits are worth less than one more place
digits_below : (l : List ℕ) → length l ≤ 6 → every is_digit l ≡ true → by_places l < place_value_at (length l)
unfolding every by_places
digits_below [] h e = omega arith
digits_below (b ∷ l) h e =
    let d = and_left (is_digit b) (every is_digit l) e in
    let r = digit_range b d in
    let rest = digits_below l (omega arith) (and_right (is_digit b) (every is_digit l) e) in
    let same : place_value_at (length l) ≤ place_value_at (length l) = omega arith in
    let digit : b - 48 ≤ 9 = omega arith in
    rw (place_tenfold (length l) (omega arith)) (omega (arith, mul-le-mul same digit))

-- the first of two digits or more
module _ (b : ℕ) (l : List ℕ) (d : is_digit b ≡ true) (short : length l ≤ 6) (all : every is_digit l ≡ true) where
  abbrev p : ℕ
  p = place_value_at (length l)

  first_tells : leb p (p * (b - 48) + by_places l) ≡ not (eqb b 48)
  first_tells = go (eqb b 48) refl
    where
      go : (t : Bool) → eqb b 48 ≡ t → leb p (p * (b - 48) + by_places l) ≡ not t
      go true e =
          let same = eqb-true b 48 e in
          let none : b - 48 ≡ 0 = omega arith in
          let zero = ap (λ (k : ℕ). p * k) none in
          lt-leb p (p * (b - 48) + by_places l) (omega (arith, zero, digits_below l short all))
      go false e =
          let r = digit_range b d in
          let other = eqb-false b 48 e in
          let some : 1 ≤ b - 48 = omega arith in
          let same : p ≤ p = omega arith in
          le-leb p (p * (b - 48) + by_places l) (omega (arith, mul-le-mul same some))

-- where all are digits, what they are worth tells whether the first is 0
told : (m : Bool) (b : ℕ) (l : List ℕ) → is_digit b ≡ true → length l ≤ 6 →
    cond (every is_digit l) (digits_held m (suc (length l)) (place_value_at (length l) * (b - 48) + by_places l)) None
    ≡
    number_held m (b ∷ l)
unfolding number_held by_places digits_fit every
told m b [] d h =
    let n = place_value_at 0 * (b - 48) + 0 in
    ap (λ (t : Bool). held_as m (t && not (m && eqb n 0)) n) (le-leb 0 n (omega arith) ∙ sym d)
told m b (c ∷ l) d h = go (every is_digit (c ∷ l)) refl
  where
    p : ℕ
    p = place_value_at (length (c ∷ l))

    n : ℕ
    n = p * (b - 48) + by_places (c ∷ l)

    zero_or_not : every is_digit (c ∷ l) ≡ true → leb p n ≡ (is_digit b && (not (eqb b 48) && true))
    zero_or_not e = first_tells b (c ∷ l) d h e ∙ rw (d, and_true (not (eqb b 48))) refl

    go : (t : Bool) → every is_digit (c ∷ l) ≡ t →
        cond t (digits_held m (suc (length (c ∷ l))) n) None ≡
        held_as m ((is_digit b && (not (eqb b 48) && t)) && not (m && eqb n 0)) n
    go true e = ap (λ (t : Bool). held_as m (t && not (m && eqb n 0)) n) (zero_or_not e)
    go false e = simp (d, and-false)

module _ (signed : Bool) where
  bad_stays : (s : Scan) (l : List ℕ) → s.bad ≡ true → (scanned signed s l).bad ≡ true
  unfolding scanned stepped
  bad_stays s [] h = h
  bad_stays s (b ∷ l) h = bad_stays (stepped signed (place_value_at (length l)) s b) l (rw h)

  bad_ends : (s : Scan) (l : List ℕ) → s.bad ≡ true → held_of (scanned signed s l) ≡ None
  bad_ends s l h = bad_held (scanned signed s l) (bad_stays s l h)

  digit_step : (p : ℕ) (s : Scan) (b : ℕ) → is_digit b ≡ true → s.bad ≡ false →
      stepped signed p s b ≡ in_digits s.negative (s.digits + 1) (s.worth + p * (b - 48))
  unfolding stepped byte_worth
  digit_step p s b d fine =
      let r = digit_range b d in
      simp (d, ne_eqb b 32 (omega arith), ne_eqb b 45 (omega arith), and-false, or-false, fine, digit_worth b d)

  -- a byte that is no digit, after another that is no blank
  astray : (p : ℕ) (s : Scan) (b : ℕ) → is_digit b ≡ false → s.seen ≡ true → (stepped signed p s b).bad ≡ true
  unfolding stepped
  astray p s b d seen = simp (d, seen, or-true)

  blank_step : (p b : ℕ) → eqb b 32 ≡ true → stepped signed p start b ≡ start
  unfolding stepped byte_worth
  blank_step p b e = rw (eqb-true b 32 e) (simp (and-false, mul-zero))

  minus_step : (p b : ℕ) → (signed && eqb b 45) ≡ true → stepped signed p start b ≡ at_minus
  unfolding stepped byte_worth
  minus_step p b e =
      let minus = eqb-true b 45 (and_right signed (eqb b 45) e) in
      let may = and_left signed (eqb b 45) e in
      simp (minus, may, mul-zero)

  -- a first byte that is neither blank, minus nor digit
  neither : (p b : ℕ) → eqb b 32 ≡ false → (signed && eqb b 45) ≡ false → is_digit b ≡ false →
      (stepped signed p start b).bad ≡ true
  unfolding stepped
  neither p b e m d = simp (d, e, m)

  from_digits : (m : Bool) (c n : ℕ) (l : List ℕ) →
      held_of (scanned signed (in_digits m c n) l) ≡
      cond (every is_digit l) (digits_held m (c + length l) (n + by_places l)) None
  unfolding scanned held_of signed_worth every by_places
  from_digits m c n [] =
      let count : c + 0 ≡ c = omega arith in
      let same : n + 0 ≡ n = omega arith in
      rw (count, same)
  from_digits m c n (b ∷ l) = go (is_digit b) refl (from_digits m (c + 1) (n + p * (b - 48)) l)
    where
      p : ℕ
      p = place_value_at (length l)

      go : (t : Bool) → is_digit b ≡ t →
          held_of (scanned signed (in_digits m (c + 1) (n + p * (b - 48))) l) ≡
          cond (every is_digit l) (digits_held m (c + 1 + length l) ((n + p * (b - 48)) + by_places l)) None →
          held_of (scanned signed (stepped signed p (in_digits m c n) b) l) ≡
          cond (t && every is_digit l) (digits_held m (c + suc (length l)) (n + (p * (b - 48) + by_places l))) None
      go true d below =
          let count : c + 1 + length l ≡ c + suc (length l) = omega arith in
          let same : (n + p * (b - 48)) + by_places l ≡ n + (p * (b - 48) + by_places l) = omega arith in
          ap (λ (s : Scan). held_of (scanned signed s l)) (digit_step p (in_digits m c n) b d refl)
          ∙ below
          ∙ ap₂ (λ (i k : ℕ). cond (every is_digit l) (digits_held m i k) None) count same
      go false d below = bad_ends (stepped signed p (in_digits m c n) b) l (astray p (in_digits m c n) b d refl)

  -- from the first digit on
  first_digit : (m : Bool) (b : ℕ) (l : List ℕ) → length l ≤ 6 → is_digit b ≡ true →
      held_of (scanned signed (in_digits m 1 (place_value_at (length l) * (b - 48))) l) ≡ number_held m (b ∷ l)
  first_digit m b l short d =
      let n = place_value_at (length l) * (b - 48) in
      let count : 1 + length l ≡ suc (length l) = omega arith in
      from_digits m 1 n l
      ∙ ap (λ (c : ℕ). cond (every is_digit l) (digits_held m c (n + by_places l)) None) count
      ∙ told m b l d short

  from_minus : (l : List ℕ) → length l ≤ 7 → held_of (scanned signed at_minus l) ≡ number_held true l
  unfolding scanned held_of number_held digits_fit
  from_minus [] short = refl
  from_minus (b ∷ l) short = go (is_digit b) refl
    where
      p : ℕ
      p = place_value_at (length l)

      go : (t : Bool) → is_digit b ≡ t → held_of (scanned signed (stepped signed p at_minus b) l)
          ≡ number_held true (b ∷ l)
      go true d =
          let same : 0 + p * (b - 48) ≡ p * (b - 48) = omega arith in
          ap (λ (s : Scan). held_of (scanned signed s l)) (digit_step p at_minus b d refl ∙ ap (in_digits true 1) same)
          ∙ first_digit true b l (omega arith) d
      go false d = bad_ends (stepped signed p at_minus b) l (astray p at_minus b d refl) ∙ sym (none_first true b l d)

  -- a first byte that is no blank: a minus, a digit, or another
  first_byte : (b : ℕ) (l : List ℕ) → length l ≤ 6 → eqb b 32 ≡ false →
      held_of (scanned signed (stepped signed (place_value_at (length l)) start b) l) ≡
      number_held (has_minus signed (b ∷ l)) (after_minus signed (b ∷ l))
  unfolding has_minus after_minus
  first_byte b l short other = go (signed && eqb b 45) refl (is_digit b) refl
    where
      p : ℕ
      p = place_value_at (length l)

      go : (m : Bool) → (signed && eqb b 45) ≡ m → (t : Bool) → is_digit b ≡ t →
          held_of (scanned signed (stepped signed p start b) l) ≡ number_held m (cond m l (b ∷ l))
      go true m t d =
          ap (λ (s : Scan). held_of (scanned signed s l)) (minus_step p b m) ∙ from_minus l (omega arith)
      go false m true d =
          let same : 0 + p * (b - 48) ≡ p * (b - 48) = omega arith in
          ap (λ (s : Scan). held_of (scanned signed s l)) (digit_step p start b d refl ∙ ap (in_digits false 1) same)
          ∙ first_digit false b l short d
      go false m false d =
          bad_ends (stepped signed p start b) l (neither p b other m d) ∙ sym (none_first false b l d)

  placed_holds : (l : List ℕ) → length l ≤ 7 →
      held_of (scanned signed start l) ≡
      number_held (has_minus signed (after_blanks l)) (after_minus signed (after_blanks l))
  unfolding scanned after_blanks has_minus after_minus held_of digits_fit number_held
  placed_holds [] short = refl
  placed_holds (b ∷ l) short = go (eqb b 32) refl (placed_holds l (omega arith))
    where
      p : ℕ
      p = place_value_at (length l)

      go : (t : Bool) → eqb b 32 ≡ t →
          held_of (scanned signed start l) ≡
          number_held (has_minus signed (after_blanks l)) (after_minus signed (after_blanks l)) →
          held_of (scanned signed (stepped signed p start b) l) ≡
          number_held (has_minus signed (cond t (after_blanks l) (b ∷ l)))
          (after_minus signed (cond t (after_blanks l) (b ∷ l)))
      go true e below = ap (λ (s : Scan). held_of (scanned signed s l)) (blank_step p b e) ∙ below
      go false e below = first_byte b l (omega arith) e

  -- a column's number is the sum of its digits times their entries
  pub scan_holds : (l : List ℕ) → length l ≤ 7 → held_of (scanned signed start l) ≡ column_held signed l
  unfolding column_held column_fits column_number number_held
  scan_holds l short =
      let digits : length (digits_of signed l) ≤ 7 = omega (arith, digits_less signed l) in
      placed_holds l short
      ∙ rw (← digits_places (digits_of signed l) digits) refl

  -- a column that fits: the scan has met its number
  pub scan_number : (l : List ℕ) → length l ≤ 7 → column_fits signed l ≡ true →
      signed_worth (scanned signed start l) ≡ column_number signed l
  scan_number l short f =
      met (scanned signed start l) (column_number signed l) (scan_holds l short ∙ number_held_lem signed l f)
