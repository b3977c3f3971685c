-- The rules' two tables as plain ones: the definitions run, and the laws hold of something. Assumes nothing.
use Rattle.std.specs.Prelude.{ℕ, ◌+◌, ◌*◌, ◌-◌, ◌≡◌, refl, Bool, true, false, List, [], ◌∷◌, leb}
use Rattle.std.proofs.Common.{arith, lit≤}
use Rattle.lists.specs.Lists.{cons_if, keep, each, ins, sort, at_least, best}
use Rattle.join.specs.Join.{Laws, weight_at, ceiling, sums_of, sure_test, flip}
use Rattle.join.specs.Plain.{Rows, plain, Matches}
use Rattle.join.specs.PlainLaws.{plain_laws}

record Row : Type 0 where
  score : ℕ
  a : ℕ
  b : ℕ

abbrev row : ℕ → ℕ → ℕ → Row
row s a b = record { score = s; a = a; b = b }

abbrev rows : Rows Row
rows = record { blank = row 0 0 0; weight = λ x. x.score; Good = λ x. Unit {0}; most = 65535 }

abbrev gap : ℕ → ℕ → ℕ
gap m n = (m - n) + (n - m)

-- within radius 5
abbrev near : Row → Row → Bool
near x y = leb (gap x.a y.a * gap x.a y.a + gap x.b y.b * gap x.b y.b) 25

same_place : (m n : ℕ) → leb (gap m m * gap m m + gap n n * gap n n) 25 ≡ true
same_place m n = rw (gap_same m, gap_same n)
  where
    gap_same : (n : ℕ) → (n - n) + (n - n) ≡ 0
    gap_same n = omega arith

match : Matches rows rows near
match =
    record {
      like = λ x y. row x.score y.a y.b;
      good = λ x y g h. tt;
      level = λ x y g h. refl;
      fits = λ x y g h. same_place y.a y.b;
    }

match' : Matches rows rows (flip near)
match' =
    record {
      like = λ y x. row y.score x.a x.b;
      good = λ y x g h. tt;
      level = λ y x g h. refl;
      fits = λ y x g h. same_place x.a x.b;
    }

laws : Laws (plain rows) (plain rows) near
laws = plain_laws rows rows near match match' (lit≤ tt) (lit≤ tt) (row 0 0 0) (row 0 0 0) tt tt

abbrev field : List Row
field = row 90 0 0 ∷ row 80 100 0 ∷ row 60 0 300 ∷ row 40 500 500 ∷ row 10 0 0 ∷ []

abbrev trim : List Row
trim = row 70 400 0 ∷ row 50 3 4 ∷ row 30 100 5 ∷ row 20 0 300 ∷ row 15 500 500 ∷ []

highest : best 2 (sums_of (plain rows) (plain rows) near field trim) ≡ 140 ∷ 110 ∷ []
unfolding best sort ins sums_of each keep cons_if
highest = refl

-- after five reads, at depths 3 and 2
ceiling_five : ceiling (plain rows) (plain rows) field 3 trim 2 ≡ 140
unfolding ceiling weight_at
ceiling_five = refl

-- where the whole query ends, and one row earlier
sure_there : sure_test (plain rows) (plain rows) near 2 field 4 trim 4 ≡ true
unfolding sure_test ceiling weight_at sums_of each keep cons_if at_least
sure_there = refl

not_sure_yet : sure_test (plain rows) (plain rows) near 2 field 4 trim 3 ≡ false
unfolding sure_test ceiling weight_at sums_of each keep cons_if at_least
not_sure_yet = refl
