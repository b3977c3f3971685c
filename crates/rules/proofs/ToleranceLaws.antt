-- What surely and possibly say of places that lie within both tolerances, and that the farthest and the nearest square,
-- which the rules go by, say just that: for any number of coordinates, any tolerances and any radius. Assumes nothing.
use Rattle.std.specs.Prelude.{◌≡◌, refl, Bool, true, false, ◌&&◌, ◌↔◌, ℕ, ◌+◌, ◌*◌, ◌-◌, ◌≤◌, ◌<◌, min, leb, ltb, ℤ}
use Rattle.std.specs.Prelude.{pos, ◌+ℤ◌, ◌-ℤ◌, length, replicate}
use Rattle.std.proofs.Math.Path.{sym}
use Rattle.std.proofs.Common.{ap, ap₂, subst, ◌∙◌, add_comm, le-leb, leb-true, ltb-true, ltb-false}
use mathlib.Core.List.{List, [], ◌∷◌}
use Rattle.std.proofs.Math.Nat.{mul-le-mul}
use native.Mathlib.Omega.{arith}
use Rattle.std.proofs.lemmas.List.{length-replicate}
use Rattle.std.specs.Int.Signed.{le_z}
use Rattle.std.proofs.lemmas.Bool.{lt-leb}
use Rattle.lists.specs.Bools.{clash}
use Rattle.rules.specs.declared.Meaning.{Meaning}
use Rattle.rules.specs.declared.Meaning.TheVariants.{Possibly, Surely}
use Rattle.rules.specs.declared.Query.{Query}
use Rattle.rules.specs.Tables.{gap, squares, squared_distance, tolerance, farthest, nearest, farthest_square}
use Rattle.rules.specs.Tables.{nearest_square, meant, qualifies, is_surely, unsatisfiable, Table, row_count, shade_at}
use Rattle.rules.specs.Tables.{row, rows_qualify, terms, qualifying}
use Rattle.rules.specs.Widths.{has_row, shade_length}
use Rattle.rules.specs.Qualifying.{places_far, none_qualifying}
use Rattle.rules.specs.Squares.{squares_each}
use Rattle.rules.specs.Whole.{plus, minus, AtMost, apart, apart_le, gap_sym, gap_same, le_is, not_le_is}
use Rattle.rules.specs.Whole.{moved_up, moved_down}

-- ---- The words

-- a place within a tolerance of another: no coordinate is farther from its own. "Places are whole numbers and may pass
-- the table's limits."
abbrev pub Within : ℕ → List ℤ → List ℤ → Type 0
Within u [] [] = Unit {0}
Within u [] (z ∷ p) = ⊥
Within u (x ∷ k) [] = ⊥
Within u (x ∷ k) (z ∷ p) = (gap x z ≤ u) × Within u k p

module _ (u v radius : ℕ) (k l : List ℤ) where
  -- "Surely means for all places within both tolerances"
  abbrev pub ForAll : Type 0
  ForAll = (p q : List ℤ) → Within u k p → Within v l q → squared_distance p q ≤ radius * radius

  -- "possibly means for some"
  abbrev pub ForSome : Type 0
  ForSome = (p : List ℤ) × (q : List ℤ) × Within u k p × Within v l q × (squared_distance p q ≤ radius * radius)

-- what a query asks of two shades
abbrev pub Asks : Meaning → ℕ → ℕ → ℕ → List ℤ → List ℤ → Type 0
Asks Surely = ForAll
Asks Possibly = ForSome

-- ---- Places within both tolerances lie no farther apart than the farthest square, no nearer than the nearest

pub within_same : (u : ℕ) (k : List ℤ) → Within u k k
within_same u [] = tt
within_same u (x ∷ k) = (omega (arith, gap_same x), within_same u k)

within_turned : (u : ℕ) (k p : List ℤ) → Within u k p → Within u p k
within_turned u [] [] h = tt
within_turned u [] (z ∷ p) h = absurd h
within_turned u (x ∷ k) [] h = absurd h
within_turned u (x ∷ k) (z ∷ p) h = (omega (arith, gap_sym x z, h.0), within_turned u k p h.1)

-- two numbers, each moved no farther than its tolerance
moved : (u v : ℕ) (x z y w : ℤ) → gap x z ≤ u → gap y w ≤ v → gap x y ≤ gap z w + (u + v)
moved u v x z y w h k =
    let a = apart x z in
    let b = apart y w in
    let c = apart z w in
    apart_le x y (gap z w + (u + v)) (omega arith) (omega arith)

-- a law of moved numbers is a law of places
module _ (u v : ℕ) (f g : ℤ → ℤ → ℕ)
    (law : (x z y w : ℤ) → gap x z ≤ u → gap y w ≤ v → f x y ≤ g z w) where
  places_le : (k l p q : List ℤ) → Within u k p → Within v l q → squares f k l ≤ squares g p q
  unfolding squares
  places_le [] l p q h i = omega arith
  places_le (x ∷ k) [] p q h i = omega arith
  places_le (x ∷ k) (y ∷ l) [] q h i = absurd h
  places_le (x ∷ k) (y ∷ l) (z ∷ p) [] h i = absurd i
  places_le (x ∷ k) (y ∷ l) (z ∷ p) (w ∷ q) h i =
      let first = law x z y w h.0 i.0 in
      let rest = places_le k l p q h.1 i.1 in
      omega (arith, mul-le-mul first first)

module _ (u v : ℕ) (k l p q : List ℤ) (h : Within u k p) (i : Within v l q) where
  pub no_nearer : nearest_square (u + v) k l ≤ squared_distance p q
  no_nearer =
      places_le u v (nearest (u + v)) gap (λ x z y w a b. omega (arith, moved u v x z y w a b)) k l p q h i

  pub no_farther : squared_distance p q ≤ farthest_square (u + v) k l
  no_farther =
      places_le u v gap (farthest (u + v)) (moved u v) p q k l (within_turned u k p h) (within_turned v l q i)

-- ---- and some lie just so

-- two numbers within the tolerances of x and y that are n apart
abbrev GapReached : ℕ → ℕ → ℤ → ℤ → ℕ → Type 0
GapReached u v x y n = (z : ℤ) × (w : ℤ) × (gap x z ≤ u) × (gap y w ≤ v) × (gap z w ≡ n)

-- x ≤ y: x moved down and y moved up
away : (u v : ℕ) (x y : ℤ) → AtMost x y 0 → GapReached u v x y (gap x y + (u + v))
away u v x y h =
    let z = x -ℤ pos u in
    let w = y +ℤ pos v in
    let a = moved_down x u in
    let b = moved_up y v in
    let d = apart x y in
    let e = apart z w in
    let least = apart_le x y (plus y + minus x - (plus x + minus y)) (omega arith) (omega arith) in (
      z,
      w,
      apart_le x z u (omega arith) (omega arith),
      apart_le y w v (omega arith) (omega arith),
      omega (arith, apart_le z w (gap x y + (u + v)) (omega arith) (omega arith)),
    )

-- x ≤ y: each moved towards the other, till they meet
toward : (u v : ℕ) (x y : ℤ) → AtMost x y 0 → GapReached u v x y (gap x y - (u + v))
toward u v x y h =
    go (min u (gap x y)) (min v (gap x y - min u (gap x y))) (omega arith) (omega arith) (omega arith)
  where
    go : (a b : ℕ) → a ≤ u → b ≤ v → gap x y ≡ gap x y - (u + v) + a + b → GapReached u v x y (gap x y - (u + v))
    go a b i j s =
        let z = x +ℤ pos a in
        let w = y -ℤ pos b in
        let c = moved_up x a in
        let d = moved_down y b in
        let e = apart x y in
        let g = apart z w in
        let least = apart_le x y (plus y + minus x - (plus x + minus y)) (omega arith) (omega arith) in (
          z,
          w,
          apart_le x z u (omega arith) (omega arith),
          apart_le y w v (omega arith) (omega arith),
          omega (arith, apart_le z w (gap x y - (u + v)) (omega arith) (omega arith)),
        )

-- y < x is the same, the other way round
either : (f : ℕ → ℕ → ℕ) → ((u v : ℕ) (x y : ℤ) → AtMost x y 0 → GapReached u v x y (f (gap x y) (u + v)))
    → (u v : ℕ) (x y : ℤ) → GapReached u v x y (f (gap x y) (u + v))
either f move u v x y = go (le_z x y) refl
  where
    go : (b : Bool) → le_z x y ≡ b → GapReached u v x y (f (gap x y) (u + v))
    go true e = move u v x y (le_is x y e)
    go false e =
        let r = move v u y x (omega (arith, not_le_is x y e)) in
        (r.1, r.0, r.3, r.2, gap_sym r.1 r.0 ∙ r.4 ∙ ap₂ f (gap_sym y x) (add_comm v u))

reached : (u v : ℕ) (f : ℤ → ℤ → ℕ) → ((x y : ℤ) → GapReached u v x y (f x y)) → (k l : List ℤ)
    → (p : List ℤ) × (q : List ℤ) × Within u k p × Within v l q × (squared_distance p q ≡ squares f k l)
unfolding squares
reached u v f h [] l = ([], l, tt, within_same v l, refl)
reached u v f h (x ∷ k) [] = (x ∷ k, [], within_same u (x ∷ k), tt, refl)
reached u v f h (x ∷ k) (y ∷ l) =
    let c = h x y in
    let r = reached u v f h k l in (
      c.0 ∷ r.0,
      c.1 ∷ r.1,
      (c.2, r.2),
      (c.3, r.3),
      ap₂ (λ (m n : ℕ). m * m + n) c.4 r.4,
    )

-- ---- What the words come to

module _ (u v radius : ℕ) (k l : List ℤ) where
  pub surely_is : ForAll u v radius k l ↔ (farthest_square (u + v) k l ≤ radius * radius)
  surely_is = (
    (λ h.
        let r = reached u v (farthest (u + v)) (either ◌+◌ away u v) k l in
        omega (arith, r.4, h r.0 r.1 r.2 r.3)),
    (λ h p q i j. omega (arith, no_farther u v k l p q i j)),
  )

  pub possibly_is : ForSome u v radius k l ↔ (nearest_square (u + v) k l ≤ radius * radius)
  possibly_is = (
    (λ w. omega (arith, w.4, no_nearer u v k l w.0 w.1 w.2 w.3)),
    (λ h.
        let r = reached u v (nearest (u + v)) (either ◌-◌ toward u v) k l in
        (r.0, r.1, r.2, r.3, omega (arith, r.4))),
  )

  asks_is : (m : Meaning) → Asks m u v radius k l ↔ (squares (meant m (u + v)) k l ≤ radius * radius)
  asks_is Surely = surely_is
  asks_is Possibly = possibly_is

-- two shades qualify exactly if what the query asks holds of them
pub qualifies_is : (q : Query) (k l : List ℤ)
    → (qualifies q k l ≡ true) ↔ Asks q.meaning q.tolerances.field.0 q.tolerances.trim.0 q.radius k l
unfolding qualifies
qualifies_is q k l =
    let n = squares (meant q.meaning (tolerance q)) k l in
    let r = q.radius * q.radius in
    let asks = asks_is q.tolerances.field.0 q.tolerances.trim.0 q.radius k l q.meaning in
    (λ e. asks.1 (leb-true n r e), λ h. le-leb n r (asks.0 h))

-- the same query with the other meaning
abbrev pub asking : Meaning → Query → Query
asking m q =
    record {
      k = q.k;
      block = q.block;
      radius = q.radius;
      weights = q.weights;
      tolerances = q.tolerances;
      meaning = m;
    }

-- "Every surely qualifying pair also possibly qualifies."
pub surely_possibly : (q : Query) (k l : List ℤ) → qualifies (asking Surely q) k l ≡ true
    → qualifies (asking Possibly q) k l ≡ true
surely_possibly q k l e =
    (qualifies_is (asking Possibly q) k l).1 (
      k,
      l,
      within_same q.tolerances.field.0 k,
      within_same q.tolerances.trim.0 l,
      (qualifies_is (asking Surely q) k l).0 e k l (within_same q.tolerances.field.0 k)
          (within_same q.tolerances.trim.0 l),
    )

-- ---- Shades that are known

meant_exact : (m : Meaning) (t : ℕ) → t ≡ 0 → (x y : ℤ) → meant m t x y ≡ gap x y
meant_exact Surely t e x y = omega arith
meant_exact Possibly t e x y = omega arith

-- at tolerances 0 and 0 both meanings are "da × da + db × db ≤ radius × radius"
pub qualifies_exact : (q : Query) → tolerance q ≡ 0 → (k l : List ℤ)
    → qualifies q k l ≡ leb (squared_distance k l) (q.radius * q.radius)
unfolding qualifies
qualifies_exact q e k l =
    ap (λ n. leb n (q.radius * q.radius))
    (squares_each (meant q.meaning (tolerance q)) gap (meant_exact q.meaning (tolerance q) e) k l)

-- ---- Queries that nothing can meet

pub farthest_same : (t : ℕ) (k : List ℤ) → farthest_square t k k ≡ length k * (t * t)
unfolding squares
farthest_same t [] = omega arith
farthest_same t (x ∷ k) =
    let e : farthest t x x ≡ t = omega (arith, gap_same x) in
    ap₂ (λ (m n : ℕ). m * m + n) e (farthest_same t k) ∙ omega arith

-- no two places have a lower farthest square than equal ones
pub farthest_least : (t : ℕ) (k l : List ℤ) → length k ≡ length l → length k * (t * t) ≤ farthest_square t k l
unfolding squares
farthest_least t [] l e = omega arith
farthest_least t (x ∷ k) [] e = absurd (omega arith)
farthest_least t (x ∷ k) (y ∷ l) e =
    let h : t ≤ farthest t x y = omega arith in
    let rest = farthest_least t k l (omega arith) in
    omega (arith, mul-le-mul h h)

-- the nearest square of equal places is 0
nearest_same : (t : ℕ) (k : List ℤ) → nearest_square t k k ≡ 0
unfolding squares
nearest_same t [] = refl
nearest_same t (x ∷ k) =
    let e : nearest t x x ≡ 0 = omega (arith, gap_same x) in
    ap₂ (λ (m n : ℕ). m * m + n) e (nearest_same t k)

-- exactly when
pub unsatisfiable_is : (q : Query) (n : ℕ)
    → unsatisfiable q n
    ≡ (is_surely q.meaning && ltb (q.radius * q.radius) (n * (tolerance q * tolerance q)))
unfolding unsatisfiable
unsatisfiable_is q n =
    ap (λ m. is_surely q.meaning && ltb (q.radius * q.radius) m)
    (farthest_same (tolerance q) (replicate n (pos 0))
    ∙ ap (λ m. m * (tolerance q * tolerance q)) (length-replicate n (pos 0)))

-- then no two shades qualify
pub nothing_qualifies_lem : (q : Query) (n : ℕ) → unsatisfiable q n ≡ true → (k l : List ℤ) → length k ≡ n → length l
    ≡ n
    → qualifies q k l ≡ false
unfolding qualifies
nothing_qualifies_lem q n u k l a b = go q.meaning (sym (unsatisfiable_is q n) ∙ u)
  where
    t : ℕ
    t = tolerance q

    r : ℕ
    r = q.radius * q.radius

    go : (m : Meaning) → (is_surely m && ltb r (n * (t * t))) ≡ true → leb (squares (meant m t) k l) r ≡ false
    go Possibly e = clash e refl
    go Surely e =
        let least = subst (λ (i : ℕ). i * (t * t) ≤ farthest_square t k l) a (farthest_least t k l (a ∙ sym b)) in
        lt-leb (farthest_square t k l) r (omega (arith, ltb-true r (n * (t * t)) e))

-- else any shade qualifies with its like
pub like_qualifies : (q : Query) (n : ℕ) → unsatisfiable q n ≡ false → (k : List ℤ) → length k ≡ n
    → qualifies q k k ≡ true
unfolding qualifies
like_qualifies q n u k a = go q.meaning (sym (unsatisfiable_is q n) ∙ u)
  where
    t : ℕ
    t = tolerance q

    r : ℕ
    r = q.radius * q.radius

    go : (m : Meaning) → (is_surely m && ltb r (n * (t * t))) ≡ false → leb (squares (meant m t) k k) r ≡ true
    go Possibly e = le-leb (nearest_square t k k) r (omega (arith, nearest_same t k))
    go Surely e =
        let same = subst (λ (i : ℕ). farthest_square t k k ≡ i * (t * t)) a (farthest_same t k) in
        le-leb (farthest_square t k k) r (omega (arith, ltb-false r (n * (t * t)) e))

-- and no rows of tables on that card
module _ (q : Query) (f t : Table) (cards : f.coordinates ≡ t.coordinates)
    (u : unsatisfiable q f.coordinates ≡ true) where
  pub nothing_near : (i j : ℕ) → i < row_count f → j < row_count t → rows_qualify q (row f i) (row t j) ≡ false
  unfolding row
  nothing_near i j h k =
      places_far q (row f i) (row t j)
      (nothing_qualifies_lem q f.coordinates u (shade_at f i) (shade_at t j) (shade_length f i (has_row f i h))
      (shade_length t j (has_row t j k) ∙ sym cards))

  pub nothing_listed : (a b : ℕ)
      → qualifying (terms q) (record { start = a; rows = f }) (record { start = b; rows = t }) ≡ []
  nothing_listed a b =
      none_qualifying (terms q) (record { start = a; rows = f }) (record { start = b; rows = t }) nothing_near
