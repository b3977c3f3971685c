-- A pair whose line can be written: the two tables have its rows, and 64 bits hold its squared distance. Definitions,
-- and that the line says what the rules' does. Assumes nothing.
use Rattle.std.specs.Prelude.{◌≡◌, refl, List, ℕ, ◌+◌, ◌*◌, ◌-◌, ◌≤◌, ◌<◌, ◌^◌}
use Rattle.rules.specs.declared.Pair.{Pair}
use Rattle.rules.specs.declared.Query.{Query}
use Rattle.rules.specs.Tables.{Table, row, squared_distance, HasRows}
use Rattle.rules.specs.Session.{place_count}
use Rattle.rules.specs.Root.{root, remainder}
use Rattle.rules.specs.Query.{input_length, list, pair_line, pair_lines}
use Rattle.pair_line.specs.declared.Line.{Line}
use Rattle.pair_line.specs.Line.{line_bytes, line_length}
use Rattle.other_lines.specs.Lines.{last_length}

-- the lines of a query's list
abbrev pub list_lines : Query → Table → Table → List ℕ
list_lines q f t = pair_lines f t 1 (list q f t)

-- the bytes of the longest listing: the query's line, those of 64 pairs, the last
abbrev pub listing_room : ℕ
listing_room = input_length + line_length * place_count + last_length

abbrev pub RowOf : Table → ℕ → Type 0
RowOf t i = (1 ≤ i) × HasRows t i

pub record Shown (f t : Table) (p : Pair) : Type 0 where
  pub field : RowOf f p.field
  pub trim : RowOf t p.trim
  pub small : squared_distance (row f (p.field - 1)).shade (row t (p.trim - 1)).shade < 2 ^ 64

-- what is told of a pair
unfoldable pub line_of : Table → Table → ℕ → Pair → Line
line_of f t rank p =
    let x = row f (p.field - 1) in
    let y = row t (p.trim - 1) in
    let n = squared_distance x.shade y.shade in
    record {
      rank = rank;
      sum = p.sum;
      field = x.pattern;
      trim = y.pattern;
      distance = n;
      root = root n;
      rest = remainder n;
    }

pub line_bytes_lem : (f t : Table) (rank : ℕ) (p : Pair) → line_bytes (line_of f t rank p) ≡ pair_line f t rank p
unfolding line_bytes line_of pair_line
line_bytes_lem f t rank p = refl
