-- A whole query's answer as numbers: definitions. Assumes nothing.
use Rattle.std.specs.Prelude.{cond, List, [], ◌∷◌, ◌++◌, ℕ, ◌+◌, ◌*◌, ◌-◌, leb, length}
use Rattle.lists.specs.Lists.{each}
use Rattle.rules.specs.declared.Pair.{Pair}
use Rattle.rules.specs.declared.Query.{Query}
use Rattle.rules.specs.declared.Session.{Session}
use Rattle.rules.specs.Tables.{Table, row, squared_distance}
use Rattle.rules.specs.Session.{place_count}
use Rattle.rules.specs.Root.{root, remainder}
use Rattle.rules.specs.Query.{settled_session, list}
use Rattle.printing.specs.Put.{put_at}

-- of a pair: its sum, its two rows, their pattern numbers, the squared distance
unfoldable pub pair_numbers : Table → Table → Pair → List ℕ
pair_numbers f t p =
    let x = row f (p.field - 1) in
    let y = row t (p.trim - 1) in
    p.sum ∷ p.field ∷ p.trim ∷ x.pattern ∷ y.pattern ∷ squared_distance x.shade y.shade ∷ []

unfoldable pub list_numbers : Query → Table → Table → List ℕ
list_numbers q f t = each (pair_numbers f t) (list q f t)

-- the root of a pair's squared distance, and the remainder
unfoldable pub root_numbers : Table → Table → Pair → List ℕ
root_numbers f t p =
    let n = squared_distance (row f (p.field - 1)).shade (row t (p.trim - 1)).shade in
    root n ∷ remainder n ∷ []

unfoldable pub list_roots : Query → Table → Table → List ℕ
list_roots q f t = each (root_numbers f t) (list q f t)

-- in front of them: field rows read, trim rows read, block pairs joined
abbrev pub head_numbers : Session → List ℕ
head_numbers s = s.depth.field.0 ∷ s.depth.trim.0 ∷ s.joined ∷ []

unfoldable pub query_numbers : Query → Table → Table → List ℕ
query_numbers q f t = head_numbers (settled_session q f t) ++ list_numbers q f t

-- how many numbers stand in front of the pairs, how many a pair is, and the longest answer
abbrev pub head_length : ℕ
head_length = 3

abbrev pub pair_length : ℕ
pair_length = 6

abbrev pub query_room : ℕ
query_room = head_length + pair_length * place_count

-- how many numbers the roots of a pair are, and the longest answer with them
abbrev pub root_length : ℕ
root_length = 2

abbrev pub roots_room : ℕ
roots_room = query_room + root_length * place_count

-- the answer written: from the front the numbers; the roots behind the places of all 64 pairs, if they are lent too
unfoldable pub answered : Query → Table → Table → List ℕ → List ℕ
answered q f t out =
    let numbers = put_at 0 (query_numbers q f t) out in
    cond (leb roots_room (length out)) (put_at query_room (list_roots q f t) numbers) numbers
