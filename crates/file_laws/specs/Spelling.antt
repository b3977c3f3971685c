-- A number has one spelling in a column of a given width. Assumes nothing.
use Rattle.std.specs.Prelude.{◌≡◌, refl, Bool, true, false, cond, ◌&&◌, not, List, [], ◌∷◌, ℕ, zero, suc, ◌+◌, ◌*◌, ◌-◌}
use Rattle.std.specs.Prelude.{◌≤◌, leb, eqb, pos, neg_ℤ, length}
use Rattle.std.proofs.Common.{sym, ap, subst, ◌∙◌, arith, le-leb, leb-true, eq-eqb, eqb-true}
use Rattle.std.proofs.lemmas.Bool.{eqb-false, not-true}
use Rattle.lists.specs.Lists.{every}
use Rattle.rules.specs.File.{is_digit, after_blanks, digits_fit, digits_from, has_minus, after_minus, digits_of}
use Rattle.rules.specs.File.{column_fits, column_number}
use Rattle.lists.specs.Bools.{clash, and_left, and_right, and_in}

-- what bytes are worth as digits; a blank and a minus are worth 0
unfoldable pub worths : List ℕ → List ℕ
worths [] = []
worths (b ∷ l) = (b - 48) ∷ worths l

pub digit_range : (b : ℕ) → is_digit b ≡ true → (48 ≤ b) × (b ≤ 57)
digit_range b h =
    (leb-true 48 b (and_left (leb 48 b) (leb b 57) h), leb-true b 57 (and_right (leb 48 b) (leb b 57) h))

-- a column that is formed as a number: blanks, a minus where the flag says so, digits without a leading zero
pub data Spelled : Bool → List ℕ → Type 0 where
  blanks : {m : Bool} {l : List ℕ} → Spelled m l → Spelled m (32 ∷ l)
  minus : {d : ℕ} {l : List ℕ} → 49 ≤ d → d ≤ 57 → every is_digit l ≡ true → Spelled true (45 ∷ d ∷ l)
  digits : {d : ℕ} {l : List ℕ} → 49 ≤ d → d ≤ 57 → every is_digit l ≡ true → Spelled false (d ∷ l)
  nought : Spelled false (48 ∷ [])

-- digits that are worth the same are the same
digits_same : (l k : List ℕ) → every is_digit l ≡ true → every is_digit k ≡ true → worths l ≡ worths k → l ≡ k
unfolding every worths
digits_same [] [] f g e = refl
digits_same [] (c ∷ k) f g e = let z : ◌≡◌ {A = ℕ} 0 1 = cc in absurd (omega arith)
digits_same (b ∷ l) [] f g e = let z : ◌≡◌ {A = ℕ} 0 1 = cc in absurd (omega arith)
digits_same (b ∷ l) (c ∷ k) f g e =
    let p = digit_range b (and_left (is_digit b) (every is_digit l) f) in
    let q = digit_range c (and_left (is_digit c) (every is_digit k) g) in
    let first : b - 48 ≡ c - 48 = cc in
    let rest : worths l ≡ worths k = cc in
    let same : b ≡ c = omega arith in
    let below =
    digits_same l k (and_right (is_digit b) (every is_digit l) f) (and_right (is_digit c) (every is_digit k) g) rest in
    λ i. same i ∷ below i

-- a nonzero digit is worth something
worth_some : {X : Type 0} (d : ℕ) → 49 ≤ d → 0 ≡ d - 48 → X
worth_some d h e = absurd (omega arith)

-- what has a minus does not begin with a digit, and no column is empty
minus_first : {X : Type 0} {l : List ℕ} → Spelled true l → (d : ℕ) (k : List ℕ) → 49 ≤ d → worths l ≡ (d - 48) ∷ k → X
unfolding worths
minus_first (blanks p) d k a e = let z : 0 ≡ d - 48 = cc in worth_some d a z
minus_first (minus a' b f) d k a e = let z : 0 ≡ d - 48 = cc in worth_some d a z

not_empty : {X : Type 0} {m : Bool} {l : List ℕ} → Spelled m l → worths l ≡ [] → X
unfolding worths
not_empty (blanks p) e = let z : ◌≡◌ {A = ℕ} 0 1 = cc in absurd (omega arith)
not_empty (minus a b f) e = let z : ◌≡◌ {A = ℕ} 0 1 = cc in absurd (omega arith)
not_empty (digits a b f) e = let z : ◌≡◌ {A = ℕ} 0 1 = cc in absurd (omega arith)
not_empty nought e = let z : ◌≡◌ {A = ℕ} 0 1 = cc in absurd (omega arith)

spelled_same : {m : Bool} {l k : List ℕ} → Spelled m l → Spelled m k → worths l ≡ worths k → l ≡ k
unfolding worths
spelled_same (blanks {l = l} p) (blanks {l = k} q) e =
    let rest : worths l ≡ worths k = cc in ap (λ (r : List ℕ). 32 ∷ r) (spelled_same p q rest)
spelled_same (minus {d = d} {l = l} a b f) (minus {d = c} {l = k} a' b' g) e =
    let first : d - 48 ≡ c - 48 = cc in
    let rest : worths l ≡ worths k = cc in
    let same : d ≡ c = omega arith in
    let below = digits_same l k f g rest in
    λ i. 45 ∷ same i ∷ below i
spelled_same (digits {d = d} {l = l} a b f) (digits {d = c} {l = k} a' b' g) e =
    let first : d - 48 ≡ c - 48 = cc in
    let rest : worths l ≡ worths k = cc in
    let same : d ≡ c = omega arith in
    let below = digits_same l k f g rest in
    λ i. same i ∷ below i
spelled_same nought nought e = refl
spelled_same (blanks {l = k} p) (minus {d = d} {l = l} a b f) e =
    let rest : worths k ≡ (d - 48) ∷ worths l = cc in minus_first p d (worths l) a rest
spelled_same (minus {d = d} {l = l} a b f) (blanks {l = k} q) e =
    let rest : worths k ≡ (d - 48) ∷ worths l = cc in minus_first q d (worths l) a rest
spelled_same (blanks p) (digits {d = d} {l = l} a b f) e = let z : 0 ≡ d - 48 = cc in worth_some d a z
spelled_same (digits {d = d} {l = l} a b f) (blanks q) e = let z : 0 ≡ d - 48 = cc in worth_some d a z
spelled_same (blanks {l = k} p) nought e = let rest : worths k ≡ [] = cc in not_empty p rest
spelled_same nought (blanks {l = k} q) e = let rest : worths k ≡ [] = cc in not_empty q rest
spelled_same (digits {d = d} {l = l} a b f) nought e = let z : 0 ≡ d - 48 = cc in worth_some d a z
spelled_same nought (digits {d = d} {l = l} a b f) e = let z : 0 ≡ d - 48 = cc in worth_some d a z

-- bytes in equal number that are worth the same together are worth the same one by one
small : List ℕ → Bool
small l = every (λ b. leb b 57) l

worths_same : (l k : List ℕ) (a b : ℕ) → length l ≡ length k → small l ≡ true → small k ≡ true →
    digits_from a l ≡ digits_from b k → (a ≡ b) × (worths l ≡ worths k)
unfolding worths digits_from small every
worths_same [] [] a b n f g e = (e, refl)
worths_same [] (c ∷ k) a b n f g e = absurd (omega arith)
worths_same (x ∷ l) [] a b n f g e = absurd (omega arith)
worths_same (x ∷ l) (y ∷ k) a b n f g e =
    let p = leb-true x 57 (and_left (leb x 57) (small l) f) in
    let q = leb-true y 57 (and_left (leb y 57) (small k) g) in
    let below =
    worths_same l k (10 * a + (x - 48)) (10 * b + (y - 48)) (omega arith) (and_right (leb x 57) (small l) f)
    (and_right (leb y 57) (small k) g) e in
    let together : 10 * a + (x - 48) ≡ 10 * b + (y - 48) = below.0 in
    let rest = below.1 in
    let first : x - 48 ≡ y - 48 = omega arith in
    (omega arith, λ i. first i ∷ rest i)

digits_small : (l : List ℕ) → every is_digit l ≡ true → small l ≡ true
unfolding every small
digits_small [] f = refl
digits_small (b ∷ l) f =
    and_in (leb b 57) (small l) (and_right (leb 48 b) (leb b 57) (and_left (is_digit b) (every is_digit l) f))
    (digits_small l (and_right (is_digit b) (every is_digit l) f))

spelled_small : {m : Bool} {l : List ℕ} → Spelled m l → small l ≡ true
unfolding every small
spelled_small (blanks p) = spelled_small p
spelled_small (minus {d = d} {l = l} a b f) = and_in (leb d 57) (small l) (le-leb d 57 b) (digits_small l f)
spelled_small (digits {d = d} {l = l} a b f) = and_in (leb d 57) (small l) (le-leb d 57 b) (digits_small l f)
spelled_small nought = refl

-- blanks and a minus are worth nothing
blanks_worth : (l : List ℕ) → digits_from 0 (after_blanks l) ≡ digits_from 0 l
unfolding after_blanks digits_from
blanks_worth [] = refl
blanks_worth (b ∷ l) = go (eqb b 32) refl (blanks_worth l)
  where
    go : (t : Bool) → eqb b 32 ≡ t → digits_from 0 (after_blanks l) ≡ digits_from 0 l →
        digits_from 0 (cond t (after_blanks l) (b ∷ l)) ≡ digits_from (10 * 0 + (b - 48)) l
    go false e below = refl
    go true e below =
        let nothing : 0 ≡ 10 * 0 + (b - 48) = omega (arith, eqb-true b 32 e) in
        below ∙ ap (λ (n : ℕ). digits_from n l) nothing

minus_worth : (signed : Bool) (l : List ℕ) → digits_from 0 (after_minus signed l) ≡ digits_from 0 l
unfolding after_minus has_minus digits_from
minus_worth signed [] = refl
minus_worth signed (b ∷ l) = go (signed && eqb b 45) refl
  where
    go : (t : Bool) → (signed && eqb b 45) ≡ t → digits_from 0 (cond t l (b ∷ l)) ≡ digits_from (10 * 0 + (b - 48)) l
    go false e = refl
    go true e =
        let nothing : 0 ≡ 10 * 0 + (b - 48) = omega (arith, eqb-true b 45 (and_right signed (eqb b 45) e)) in
        ap (λ (n : ℕ). digits_from n l) nothing

-- a column that fits is spelled so
digits_spelled : (l : List ℕ) → digits_fit l ≡ true → Spelled false l
unfolding digits_fit every
digits_spelled [] f = clash f refl
digits_spelled (b ∷ []) f = go (eqb b 48) refl
  where
    go : (t : Bool) → eqb b 48 ≡ t → Spelled false (b ∷ [])
    go true e = rw (eqb-true b 48 e) nought
    go false e = let r = digit_range b f in digits {d = b} {l = []} (omega (arith, eqb-false b 48 e)) r.1 refl
digits_spelled (b ∷ c ∷ l) f =
    let r = digit_range b (and_left (is_digit b) (not (eqb b 48) && every is_digit (c ∷ l)) f) in
    let rest = and_right (is_digit b) (not (eqb b 48) && every is_digit (c ∷ l)) f in
    let some = not-true (eqb b 48) (and_left (not (eqb b 48)) (every is_digit (c ∷ l)) rest) in
    digits {d = b} {l = c ∷ l} (omega (arith, eqb-false b 48 some)) r.1
    (and_right (not (eqb b 48)) (every is_digit (c ∷ l)) rest)

minus_spelled : (l : List ℕ) → digits_fit l ≡ true → (digits_from 0 l ≡ 0 → ⊥) → Spelled true (45 ∷ l)
unfolding digits_fit digits_from every
minus_spelled [] f some = clash f refl
minus_spelled (b ∷ []) f some =
    let r = digit_range b f in
    let more : 10 * 0 + (b - 48) ≡ 0 → ⊥ = some in
    minus {d = b} {l = []} (omega arith) r.1 refl
minus_spelled (b ∷ c ∷ l) f some =
    let r = digit_range b (and_left (is_digit b) (not (eqb b 48) && every is_digit (c ∷ l)) f) in
    let rest = and_right (is_digit b) (not (eqb b 48) && every is_digit (c ∷ l)) f in
    let nonzero = not-true (eqb b 48) (and_left (not (eqb b 48)) (every is_digit (c ∷ l)) rest) in
    minus {d = b} {l = c ∷ l} (omega (arith, eqb-false b 48 nonzero)) r.1
    (and_right (not (eqb b 48)) (every is_digit (c ∷ l)) rest)

-- a minus never stands before 0
pub minus_some : (signed : Bool) (l : List ℕ) → column_fits signed l ≡ true → has_minus signed (after_blanks l) ≡ true →
    digits_from 0 (digits_of signed l) ≡ 0 → ⊥
unfolding column_fits
minus_some signed l f m z =
    let n = digits_from 0 (digits_of signed l) in
    let test = has_minus signed (after_blanks l) && eqb n 0 in
    let fails = not-true test (and_right (digits_fit (digits_of signed l)) (not test) f) in
    let passes = and_in (has_minus signed (after_blanks l)) (eqb n 0) m (eq-eqb n 0 z) in
    clash passes fails

-- the same without blanks before it
unblanked : (signed : Bool) (b : ℕ) (l : List ℕ) → digits_fit (after_minus signed (b ∷ l)) ≡ true →
    (has_minus signed (b ∷ l) ≡ true → digits_from 0 (after_minus signed (b ∷ l)) ≡ 0 → ⊥) →
    Spelled (has_minus signed (b ∷ l)) (b ∷ l)
unfolding after_minus has_minus
unblanked signed b l f some = go (signed && eqb b 45) refl f some
  where
    go : (t : Bool) → (signed && eqb b 45) ≡ t → digits_fit (cond t l (b ∷ l)) ≡ true →
        (t ≡ true → digits_from 0 (cond t l (b ∷ l)) ≡ 0 → ⊥) → Spelled t (b ∷ l)
    go false e g s = digits_spelled (b ∷ l) g
    go true e g s = rw (eqb-true b 45 (and_right signed (eqb b 45) e)) (minus_spelled l g (s refl))

pub fits_spelled : (signed : Bool) (l : List ℕ) → digits_fit (digits_of signed l) ≡ true →
    (has_minus signed (after_blanks l) ≡ true → digits_from 0 (digits_of signed l) ≡ 0 → ⊥) →
    Spelled (has_minus signed (after_blanks l)) l
unfolding after_blanks after_minus digits_fit
fits_spelled signed [] f some = clash f refl
fits_spelled signed (b ∷ l) f some = go (eqb b 32) refl f some (λ g s. fits_spelled signed l g s)
  where
    go : (t : Bool) → eqb b 32 ≡ t → digits_fit (after_minus signed (cond t (after_blanks l) (b ∷ l))) ≡ true →
        (has_minus signed (cond t (after_blanks l) (b ∷ l)) ≡ true →
        digits_from 0 (after_minus signed (cond t (after_blanks l) (b ∷ l))) ≡ 0 → ⊥) →
        (digits_fit (digits_of signed l) ≡ true →
        (has_minus signed (after_blanks l) ≡ true → digits_from 0 (digits_of signed l) ≡ 0 → ⊥) →
        Spelled (has_minus signed (after_blanks l)) l) →
        Spelled (has_minus signed (cond t (after_blanks l) (b ∷ l))) (b ∷ l)
    go true e g s below =
        subst (λ (c : ℕ). Spelled (has_minus signed (after_blanks l)) (c ∷ l)) (sym (eqb-true b 32 e))
        (blanks (below g s))
    go false e g s below = unblanked signed b l g s

-- a signed number's parts
minus_one_way : (v : ℕ) (w : ℕ) → (v ≡ 0 → ⊥) → neg_ℤ (pos v) ≡ pos w → ⊥
minus_one_way zero w some e = some refl
minus_one_way (suc v) w some e = let z : ◌≡◌ {A = ℕ} 0 1 = cc in omega arith

minus_same : (v w : ℕ) → (v ≡ 0 → ⊥) → (w ≡ 0 → ⊥) → neg_ℤ (pos v) ≡ neg_ℤ (pos w) → v ≡ w
minus_same zero w some other e = absurd (some refl)
minus_same (suc v) zero some other e = absurd (other refl)
minus_same (suc v) (suc w) some other e = let z : v ≡ w = cc in ap suc z

parts_same : (m n : Bool) (v w : ℕ) → (m ≡ true → v ≡ 0 → ⊥) → (n ≡ true → w ≡ 0 → ⊥) →
    cond m (neg_ℤ (pos v)) (pos v) ≡ cond n (neg_ℤ (pos w)) (pos w) → (m ≡ n) × (v ≡ w)
parts_same true true v w some other e = (refl, minus_same v w (some refl) (other refl) e)
parts_same true false v w some other e = absurd (minus_one_way v w (some refl) e)
parts_same false true v w some other e = absurd (minus_one_way w v (other refl) (sym e))
parts_same false false v w some other e = let z : v ≡ w = cc in (refl, z)

-- two columns of the same width that hold the same number are the same bytes
pub one_spelling : (signed : Bool) (l k : List ℕ) → length l ≡ length k → column_fits signed l ≡ true →
    column_fits signed k ≡ true → column_number signed l ≡ column_number signed k → l ≡ k
unfolding column_number column_fits
one_spelling signed l k n f g e =
    let m = has_minus signed (after_blanks l) in
    let o = has_minus signed (after_blanks k) in
    let v = digits_from 0 (digits_of signed l) in
    let w = digits_from 0 (digits_of signed k) in
    let some = minus_some signed l f in
    let other = minus_some signed k g in
    let parts = parts_same m o v w some other e in
    let p = fits_spelled signed l (and_left (digits_fit (digits_of signed l)) (not (m && eqb v 0)) f) some in
    let q = fits_spelled signed k (and_left (digits_fit (digits_of signed k)) (not (o && eqb w 0)) g) other in
    let whole : digits_from 0 l ≡ digits_from 0 k =
    sym (minus_worth signed (after_blanks l) ∙ blanks_worth l) ∙ parts.1 ∙ minus_worth signed (after_blanks k)
    ∙ blanks_worth k in
    let each_byte = worths_same l k 0 0 n (spelled_small p) (spelled_small q) whole in
    spelled_same p (subst (λ (t : Bool). Spelled t k) (sym parts.0) q) each_byte.1
