-- docs/RULES.md, "Tables". Definitions only. Assumes nothing.
use Rattle.std.specs.Prelude.{ℕ, zero, suc, ◌+◌, ◌*◌, ◌-◌, ◌/◌, ◌%◌, ◌≤◌, Bool, true, false, cond, ◌&&◌, ◌||◌, not}
use Rattle.std.specs.Prelude.{List, [], ◌∷◌, map, leb, ltb, eqb, ℤ, pos, negsuc, nat_abs, ◌-ℤ◌, length, get_or, take}
use Rattle.std.specs.Prelude.{drop, replicate}
use Rattle.std.specs.Int.Signed.{le_z, lt_z}
use Rattle.lists.specs.Lists.{keep, every, range, each}
use Rattle.rules.specs.declared.Card.{Card}
use Rattle.rules.specs.declared.Card.TheVariants.{Old, New}
use Rattle.rules.specs.declared.Kinds.{Kinds}
use Rattle.rules.specs.declared.Meaning.{Meaning}
use Rattle.rules.specs.declared.Meaning.TheVariants.{Possibly, Surely}
use Rattle.rules.specs.declared.Pair.{Pair}
use Rattle.rules.specs.declared.Query.{Query}
use Rattle.rules.specs.declared.Side.{Side}

-- A table: how many coordinates a shade has on its card, and its numbers, row by row.
pub record Table : Type 0 where
  pub coordinates : ℕ
  pub numbers : List ℤ

-- numbers as a table whose shades have n coordinates
abbrev pub table : ℕ → List ℤ → Table
table n l = record { coordinates = n; numbers = l }

-- The cards, and how many coordinates a shade has on each: "distance over L*, a* and b*" on the new one.
abbrev pub coordinates : Card → ℕ
coordinates Old = 2
coordinates New = 3

-- "Kinds 3 and 4 are field and trim on the new card"
abbrev pub kind_card : ℕ → Card
kind_card kind = cond (leb kind 2) Old New

-- the coordinates of a kind's card; another kind has none
unfoldable pub kind_coordinates : ℕ → ℕ
kind_coordinates kind = cond (leb 1 kind && leb kind 4) (coordinates (kind_card kind)) 0

-- "each table's kind, 1 or 3 for field and 2 or 4 for trim": lent numbers as a field table, and as a trim table
abbrev pub field_table : Kinds → List ℤ → Table
field_table kinds l =
    let kind = kinds.field.0 in
    table (cond (eqb kind 1 || eqb kind 3) (kind_coordinates kind) 0) l

abbrev pub trim_table : Kinds → List ℤ → Table
trim_table kinds l =
    let kind = kinds.trim.0 in
    table (cond (eqb kind 2 || eqb kind 4) (kind_coordinates kind) 0) l

-- a table on the old card
abbrev pub old_table : List ℤ → Table
old_table l = table (coordinates Old) l

-- how many numbers a row has: pattern number, score, and a shade of n coordinates
abbrev pub width : ℕ → ℕ
width n = n + 2

-- number j of row i + 1 (rows are numbered from 1)
abbrev pub num : Table → ℕ → ℕ → ℤ
num t i j = get_or t.numbers (width t.coordinates * i + j) (pos 0)

abbrev pub row_count : Table → ℕ
row_count t = length t.numbers / width t.coordinates

-- the table has row i + 1; its first m rows
abbrev pub HasRow : Table → ℕ → Type 0
HasRow t i = width t.coordinates * i + width t.coordinates ≤ length t.numbers

abbrev pub HasRows : Table → ℕ → Type 0
HasRows t m = width t.coordinates * m ≤ length t.numbers

-- its first m rows, and what follows them
abbrev pub first_rows : ℕ → Table → Table
first_rows m t = table t.coordinates (take (width t.coordinates * m) t.numbers)

abbrev pub after_rows : ℕ → Table → Table
after_rows m t = table t.coordinates (drop (width t.coordinates * m) t.numbers)

unfoldable pub within : ℤ → ℤ → ℤ → Bool
within low high x = le_z low x && le_z x high

-- "a and b, each -12,800 to 12,700", then "L, 0 to 10,000": coordinate k of a shade, from 0 on
unfoldable pub coordinate_fits : ℕ → ℤ → Bool
coordinate_fits k x = cond (ltb k 2) (within (negsuc 12799) (pos 12700) x) (within (pos 0) (pos 10000) x)

unfoldable pub fits_at : List ℤ → ℕ → Bool
fits_at shade k = coordinate_fits k (get_or shade k (pos 0))

unfoldable pub shade_fits : List ℤ → Bool
shade_fits shade = every (fits_at shade) (range 0 (length shade))

-- "pattern number 1 to 999,999; score 0 to 9,999", and the shade
unfoldable pub in_range : ℤ → ℤ → List ℤ → Bool
in_range pattern score shade =
    within (pos 1) (pos 999999) pattern && (within (pos 0) (pos 9999) score && shade_fits shade)

-- the coordinates of row i + 1, its last numbers
abbrev pub shade_at : Table → ℕ → List ℤ
shade_at t i = take t.coordinates (drop (width t.coordinates * i + 2) t.numbers)

unfoldable pub row_in_range : Table → ℕ → Bool
row_in_range t i = in_range (num t i 0) (num t i 1) (shade_at t i)

-- "no score exceeds the one before it"
unfoldable pub row_in_order : Table → ℕ → Bool
row_in_order t i = eqb i 0 || le_z (num t i 1) (num t (i - 1) 1)

-- "A table has 0 to 65,535 rows"
abbrev pub most_rows : ℕ
most_rows = 65535

-- whole rows, and not more of them
unfoldable pub size_fits : Table → Bool
size_fits t = eqb (length t.numbers % width t.coordinates) 0 && leb (row_count t) most_rows

-- "It is legal if every row keeps these ranges and no score exceeds the one before it."
unfoldable pub legal : Table → Bool
legal t = size_fits t && every (λ i. row_in_range t i && row_in_order t i) (range 0 (row_count t))

abbrev pub nat_of : ℤ → ℕ
nat_of (pos n) = n
nat_of (negsuc n) = 0

-- a row as the rules below look at it; a number below 0, which no legal table has there, counts as 0
pub record Row : Type 0 where
  pub pattern : ℕ
  pub score : ℕ
  pub shade : List ℤ

-- row i + 1
unfoldable pub row : Table → ℕ → Row
row t i = record { pattern = nat_of (num t i 0); score = nat_of (num t i 1); shade = shade_at t i }

-- rows a + 1 to a + m, as a part of their table
abbrev pub part : Table → ℕ → ℕ → Table
part t a m = first_rows m (after_rows a t)

-- how far apart two numbers lie
unfoldable pub gap : ℤ → ℤ → ℕ
gap x y = nat_abs (x -ℤ y)

-- what two lists differ by, place by place, squared and added up
unfoldable pub squares : {A : Type 0} → (A → A → ℕ) → List A → List A → ℕ
squares f [] l = 0
squares f (x ∷ k) [] = 0
squares f (x ∷ k) (y ∷ l) = f x y * f x y + squares f k l

-- "da × da + db × db .. da and db being the differences of a and of b": of any number of coordinates
abbrev pub squared_distance : List ℤ → List ℤ → ℕ
squared_distance = squares gap

-- "With t the two tolerances added"
abbrev pub tolerance : Query → ℕ
tolerance q = q.tolerances.field.0 + q.tolerances.trim.0

-- "and d a coordinate's absolute difference, the farthest square sums (d + t) squared, the nearest max(0, d - t)
-- squared"
abbrev pub farthest : ℕ → ℤ → ℤ → ℕ
farthest t x y = gap x y + t

abbrev pub nearest : ℕ → ℤ → ℤ → ℕ
nearest t x y = gap x y - t

abbrev pub farthest_square : ℕ → List ℤ → List ℤ → ℕ
farthest_square t = squares (farthest t)

abbrev pub nearest_square : ℕ → List ℤ → List ℤ → ℕ
nearest_square t = squares (nearest t)

-- "Surely means for all places within both tolerances; possibly means for some": the farthest must be near enough, or
-- the nearest. Tolerances.antt proves that this is what the words say.
abbrev pub meant : Meaning → ℕ → ℤ → ℤ → ℕ
meant Surely = farthest
meant Possibly = nearest

-- "qualifies if da × da + db × db ≤ radius × radius", by the chosen meaning
unfoldable pub qualifies : Query → List ℤ → List ℤ → Bool
qualifies q x y = leb (squares (meant q.meaning (tolerance q)) x y) (q.radius * q.radius)

abbrev pub is_surely : Meaning → Bool
is_surely Surely = true
is_surely Possibly = false

-- "A "surely" query whose farthest square at equal places exceeds the squared radius", of shades of n coordinates: no
-- pair can meet it
unfoldable pub unsatisfiable : Query → ℕ → Bool
unsatisfiable q n =
    let place = replicate n (pos 0) in
    is_surely q.meaning && ltb (q.radius * q.radius) (farthest_square (tolerance q) place place)

-- "from each block's rows, withdrawn ones too, the lowest and highest a and b": of coordinate k, from 0 on, of the
-- first m + 1 rows of a block
unfoldable pub side : Table → ℕ → ℕ → Side
side t k zero = record { low = num t 0 (k + 2); high = num t 0 (k + 2) }
side t k (suc m) =
    let x = num t (suc m) (k + 2) in
    let s = side t k m in
    record { low = cond (le_z s.low x) s.low x; high = cond (le_z x s.high) s.high x }

-- the rectangle of a block's rows: a side for each coordinate
unfoldable pub rectangle : Table → List Side
rectangle t = map (λ k. side t k (row_count t - 1)) (range 0 t.coordinates)

-- how far apart two sides lie: 0 where they overlap
unfoldable pub side_gap : Side → Side → ℕ
side_gap s o =
    cond (lt_z s.high o.low) (gap s.high o.low)
    (cond (lt_z o.high s.low) (gap o.high s.low) 0)

-- "Under both meanings each coordinate's gap .. is lowered by t, not below 0."
abbrev pub lowered_gap : ℕ → Side → Side → ℕ
lowered_gap t s o = side_gap s o - t

-- "these two rectangles lie farther apart than the radius"
unfoldable pub far_apart : Query → Table → Table → Bool
far_apart q x y = ltb (q.radius * q.radius) (squares (lowered_gap (tolerance q)) (rectangle x) (rectangle y))

-- "a score of 0 means that the pattern is out of the collection"
unfoldable pub withdrawn : Row → Bool
withdrawn x = eqb x.score 0

-- "Such a row is legal and can be read, but no pair with it qualifies."
unfoldable pub rows_qualify : Query → Row → Row → Bool
rows_qualify q x y = not (withdrawn x) && (not (withdrawn y) && qualifies q x.shade y.shade)

-- What the rules ask of rows: what a field row and a trim row add to the sum of a pair, whether the two qualify, and
-- whether the rows of two blocks lie too far apart for that.
pub record Terms : Type 0 where
  pub field : Row → ℕ
  pub trim : Row → ℕ
  pub near : Row → Row → Bool
  pub far : Table → Table → Bool

-- a row's weighted score: "weight × score"
unfoldable pub weighted : ℕ → Row → ℕ
weighted weight x = weight * x.score

-- the terms of a query: scores by its weights, each table's by its own, and shades within its radius, by its meaning
abbrev pub terms : Query → Terms
terms q =
    record {
      field = weighted q.weights.field.0;
      trim = weighted q.weights.trim.0;
      near = rows_qualify q;
      far = far_apart q;
    }

-- without weights: scores as they are
abbrev pub unweighted : Query → Terms
unweighted q =
    record { field = λ x. x.score; trim = λ y. y.score; near = (terms q).near; far = (terms q).far }

-- "Its sum is the two scores added."; "field weight × score + trim weight × score"
unfoldable pub pair_sum : Terms → Row → Row → ℕ
pair_sum w x y = w.field x + w.trim y

-- "ranked by higher sum, then lower field row, then lower trim row": whether p stands ahead of q
unfoldable pub ahead : Pair → Pair → Bool
ahead p q =
    ltb q.sum p.sum
    || (eqb p.sum q.sum
    && (ltb p.field q.field || (eqb p.field q.field && ltb p.trim q.trim)))

-- some rows of a table: those after the first `start`, as a part of it
pub record Block : Type 0 where
  pub start : ℕ
  pub rows : Table

-- the pair of row i + 1 of a field block and row j + 1 of a trim block
unfoldable pub pair_at : Terms → Block → Block → ℕ → ℕ → Pair
pair_at w x y i j =
    record { sum = pair_sum w (row x.rows i) (row y.rows j); field = x.start + i + 1; trim = y.start + j + 1 }

-- the qualifying pairs of the rows of a field block and of a trim block
unfoldable pub qualifying : Terms → Block → Block → List Pair
qualifying w x y =
    each
    (λ i. map (pair_at w x y i) (keep (λ j. w.near (row x.rows i) (row y.rows j)) (range 0 (row_count y.rows))))
    (range 0 (row_count x.rows))
