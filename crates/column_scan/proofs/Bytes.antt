-- A column's bytes, one after the other from a place on, and what their digits can be worth. Assumes nothing.
use mathlib.Core.Path.{◌≡◌, sym, ap}
use mathlib.Core.Bool.{Bool, true, false}
use mathlib.Core.List.{List, [], ◌∷◌}
use Prim.Native.Nat.{ℕ, suc, ◌+◌, ◌*◌, ◌-◌, ◌%◌, ◌^◌, ◌≤◌, ◌<◌}
use native.Mathlib.Nat.{pow-suc, pow-le-pow_right, one-le-pow, mul-le-mul, div-add-mod, mod-lt}
use native.Mathlib.Numerals.{add-one}
use native.Mathlib.Omega.{arith}
use lib.ListN.{length, get_or, take, drop, length-drop}
use lib.Seq.{drop-cons, length-take-le}
use Rattle.rules.specs.File.{is_digit, columns}
use Rattle.file_laws.specs.Spelling.{digit_range}
use Rattle.file_laws.specs.Places.{place_value_at, place_power}
use mir.Val.{bool_byte}
use Rattle.column_scan.specs.Scan.{up_to, byte_worth}

pub columns_whole : (bytes : List ℕ) (at width : ℕ) → columns bytes at width ≡ up_to bytes at (at + width)
unfolding up_to
columns_whole bytes at width =
    let k : at + width - at ≡ width = omega arith in ap (λ (n : ℕ). take n (drop at bytes)) (sym k)

pub none : (bytes : List ℕ) (e : ℕ) → up_to bytes e e ≡ []
unfolding up_to
none bytes e = let k : e - e ≡ 0 = omega arith in ap (λ (n : ℕ). take n (drop e bytes)) k

pub next : (bytes : List ℕ) (i e : ℕ) → i < e → e ≤ length bytes →
    up_to bytes i e ≡ get_or bytes i 0 ∷ up_to bytes (i + 1) e
unfolding up_to
next bytes i e h l =
    let k : e - i ≡ suc (e - suc i) = omega arith in
    let inside : i < length bytes = omega arith in
    rw (add-one, k, drop-cons bytes i 0 inside)

pub length_up_to : (bytes : List ℕ) (i e : ℕ) → i ≤ e → e ≤ length bytes → length (up_to bytes i e) ≡ e - i
unfolding up_to
length_up_to bytes i e h l = length-take-le (e - i) (drop i bytes) (omega (arith, length-drop i bytes))

-- a column of up to seven bytes that a file has
pub short : (bytes : List ℕ) (at width : ℕ) → (width ≤ 7) × (at + width ≤ length bytes) →
    length (up_to bytes at (at + width)) ≤ 7
short bytes at width h = omega (arith, length_up_to bytes at (at + width) (omega arith) h.1, h.0)

pub digit_worth : (b : ℕ) → is_digit b ≡ true → b % 16 ≡ b - 48
digit_worth b h = omega (arith, digit_range b h, div-add-mod b 16, mod-lt b {m = 16} (omega arith))

pub worth_small : (m : Bool) (b : ℕ) → byte_worth m b ≤ 15
unfolding byte_worth
worth_small true b = omega arith
worth_small false b = omega (arith, mod-lt b {m = 16} (omega arith))

-- a byte is worth at most 15 at a place of at most 1,000,000
pub worth_most : (m : Bool) (b p : ℕ) → p ≤ 1000000 → p * byte_worth m b ≤ 15000000
worth_most m b p h = omega (arith, mul-le-mul h (worth_small m b))

pub one_most : (t : Bool) → bool_byte t ≤ 1
one_most true = omega arith
one_most false = omega arith

-- ---- Place values: r bytes that are left are worth less than 2 × 10 ^ r

pub place_small : (i : ℕ) → i < 7 → place_value_at i ≤ 1000000
place_small i h = rw (place_power i h) (pow-le-pow_right {n = 10} (omega arith) {i = i} {j = 6} (omega arith))

pub left_most : (r : ℕ) → r ≤ 7 → 2 * 10 ^ r ≤ 20000000
left_most r h =
    let most : 10 ^ r ≤ 10 ^ 7 = pow-le-pow_right {n = 10} (omega arith) {i = r} {j = 7} h in omega arith

pub left_some : (n r : ℕ) → n + 2 * 10 ^ r ≤ 20000000 → n < 20000000
left_some n r h = omega (arith, one-le-pow r 10 (omega arith))

pub worth_grows : (n d r : ℕ) → r < 7 → n + 2 * 10 ^ suc r ≤ 20000000 → d ≤ 15 →
    (n + place_value_at r * d) + 2 * 10 ^ r ≤ 20000000
worth_grows n d r small h l =
    let more : 10 ^ suc r ≡ 10 * 10 ^ r = rw pow-suc (omega arith) in
    let most : 10 ^ r * d ≤ 10 ^ r * 15 = mul-le-mul (omega arith) l in
    rw (place_power r small) (omega arith)
