-- docs/RULES.md, "Read". Definitions only. Assumes nothing.
use Rattle.std.specs.Prelude.{ℕ, zero, suc, ◌+◌, ◌*◌, ◌-◌, ◌/◌, min, Bool, true, false, cond, ◌&&◌, ◌||◌, List, [], ◌∷◌}
use Rattle.std.specs.Prelude.{◌++◌, leb, ltb, eqb, length, take}
use Rattle.lists.specs.Lists.{sort}
use Rattle.rules.specs.declared.Pair.{Pair}
use Rattle.rules.specs.declared.Query.{Query}
use Rattle.rules.specs.declared.Session.{Session}
use Rattle.rules.specs.Tables.{Table, Row, Terms, terms, part, ahead, Block, qualifying}
use Rattle.rules.specs.Session.{places, held_pairs, first_score, last_score, field_read_out, trim_read_out}

-- "the .. drop (HF - LF against HT - LT)"
abbrev pub score_drop : (Row → ℕ) → Table → ℕ → ℕ
score_drop score t depth = first_score score t - last_score score t depth

-- Whether the field table is read next. "it chooses the field table if its depth is 0; else trim if its depth is 0;
-- else the one not read out, if the other is. Else it takes the table with the smaller drop, at equal drops the one
-- with fewer rows read, and still equal the field table."
unfoldable pub field_next_by : (Query → Terms) → Table → Table → Session → Bool
field_next_by g f t s =
    let d = s.depth.field.0 in
    let e = s.depth.trim.0 in
    let x = score_drop (g s.query).field f d in
    let y = score_drop (g s.query).trim t e in
    cond (eqb d 0) true
    (cond (eqb e 0) false
    (cond (trim_read_out t s) true
    (cond (field_read_out f s) false
    (cond (ltb x y) true
    (cond (ltb y x) false
    (leb d e))))))

abbrev pub field_next : Table → Table → Session → Bool
field_next = field_next_by terms

-- "It reads one block, or the rows that remain": the depth after
abbrev pub next_depth : ℕ → ℕ → ℕ → ℕ
next_depth block rows depth = min (depth + block) rows

-- rows a + 1 to e of a table
abbrev pub rows_between : Table → ℕ → ℕ → Block
rows_between t a e = record { start = a; rows = part t a (e - a) }

-- how many blocks the first `depth` rows are, a short last one included
abbrev pub block_count : ℕ → ℕ → ℕ
block_count block depth = (depth + block - 1) / block

-- block i + 1 of the first `depth` rows of a table
abbrev pub block_at : Table → ℕ → ℕ → ℕ → Block
block_at t block depth i = rows_between t (i * block) (min (i * block + block) depth)

-- "the lowest held sum"
unfoldable pub lowest : List Pair → ℕ
lowest [] = 0
lowest (p ∷ []) = p.sum
lowest (p ∷ q ∷ l) = min p.sum (lowest (q ∷ l))

-- "A block pair is skipped if out plus held is k and the first scores of both blocks add to less than the lowest
-- held sum"; "A block pair is also skipped if these two rectangles lie farther apart than the radius."
unfoldable pub skipped_by : (Query → Terms) → Session → Block → Block → Bool
skipped_by g s x y =
    let w = g s.query in
    (eqb (s.out + s.held) s.query.k
    && ltb (first_score w.field x.rows + first_score w.trim y.rows) (lowest (held_pairs s)))
    || w.far x.rows y.rows

abbrev pub skipped : Session → Block → Block → Bool
skipped = skipped_by terms

-- "the best-ranked (at most k less those out) of those held and the qualifying pairs just met"
unfoldable pub best_held : Session → List Pair → List Pair
best_held s met = take (s.query.k - s.out) (sort ahead (held_pairs s ++ met))

-- the record with these pairs held, and one block pair more joined
unfoldable pub holding : Session → List Pair → Session
holding s l =
    record {
      query = s.query;
      rows = s.rows;
      depth = s.depth;
      last = s.last;
      out = s.out;
      held = length l;
      pairs = places l;
      joined = s.joined + 1;
    }

-- one block pair, field and trim: "skipped ..; else it is joined and counted"
unfoldable pub meet_by : (Query → Terms) → Session → Block → Block → Session
meet_by g s x y = cond (skipped_by g s x y) s (holding s (best_held s (qualifying (g s.query) x y)))

abbrev pub meet : Session → Block → Block → Session
meet = meet_by terms

-- The new block "meets the blocks already read of the other table in their order": the first n of them. The flag says
-- whether the new block is of the field table.
unfoldable pub meet_blocks_by : (Query → Terms) → Bool → Session → Block → Table → ℕ → ℕ → Session
meet_blocks_by g field s new t depth zero = s
meet_blocks_by g field s new t depth (suc n) =
    let r = meet_blocks_by g field s new t depth n in
    let old = block_at t s.query.block depth n in
    meet_by g r (cond field new old) (cond field old new)

abbrev pub meet_blocks : Bool → Session → Block → Table → ℕ → ℕ → Session
meet_blocks = meet_blocks_by terms

-- the record with one table read down to depth e, and marked as the table read last
unfoldable pub read_to : Bool → ℕ → Session → Session
read_to field e s =
    record {
      query = s.query;
      rows = s.rows;
      depth =
          record {
            field = record { 0 = cond field e s.depth.field.0 };
            trim = record { 0 = cond field s.depth.trim.0 e };
          };
      last = cond field 1 2;
      out = s.out;
      held = s.held;
      pairs = s.pairs;
      joined = s.joined;
    }

-- the depth of the table that is read next, before and after the read
abbrev pub old_depth : Bool → Session → ℕ
old_depth field s = cond field s.depth.field.0 s.depth.trim.0

abbrev pub new_depth : Bool → Session → ℕ
new_depth field s = next_depth s.query.block (cond field s.rows.field.0 s.rows.trim.0) (old_depth field s)

-- the record after one block of the field table, or of the trim table, was read and met the other table's
unfoldable pub read_table_by : (Query → Terms) → Bool → Table → Table → Session → Session
read_table_by g field f t s =
    let new = rows_between (cond field f t) (old_depth field s) (new_depth field s) in
    let depth = cond field s.depth.trim.0 s.depth.field.0 in
    read_to field (new_depth field s)
    (meet_blocks_by g field s new (cond field t f) depth (block_count s.query.block depth))

abbrev pub read_table : Bool → Table → Table → Session → Session
read_table = read_table_by terms

-- the record after an unsettled session's read
abbrev pub read_block_by : (Query → Terms) → Table → Table → Session → Session
read_block_by g f t s = read_table_by g (field_next_by g f t s) f t s

abbrev pub read_block : Table → Table → Session → Session
read_block = read_block_by terms
