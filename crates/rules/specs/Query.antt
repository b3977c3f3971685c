-- docs/RULES.md, "One whole query": two files and the input as bytes in, the listing as bytes out. Definitions only.
-- Assumes nothing.
use Rattle.std.specs.Prelude.{ℕ, zero, suc, ◌+◌, ◌-◌, ◌/◌, ◌%◌, Bool, true, false, cond, ◌&&◌, List, [], ◌∷◌, ◌++◌, leb}
use Rattle.std.specs.Prelude.{ltb, eqb, pos, length, get_or, replicate}
use Rattle.rules.specs.declared.Pair.{Pair}
use Rattle.rules.specs.declared.Query.{Query}
use Rattle.rules.specs.declared.Session.{Session}
use Rattle.rules.specs.declared.Step.{Step}
use Rattle.rules.specs.declared.Answer.{Answer}
use Rattle.rules.specs.Tables.{Table, kind_coordinates, nat_of, row, squared_distance}
use Rattle.rules.specs.Session.{weights, exact_query}
use Rattle.rules.specs.Numbers.{table_size, cut_file, bad_column, unless, first, said, said_of, refusal}
use Rattle.rules.specs.Calls.{open_code, open_call, read_call, take_call}
use Rattle.rules.specs.File.{blank, line_feed, columns, column_fits, column_number, ends_line, file_count, file_table}
use Rattle.rules.specs.File.{row_start, check_file}
use Rattle.rules.specs.Root.{root, remainder}
use Rattle.lists.specs.Lists.{all, every}

-- the answer that a block was read
abbrev pub was_read : Answer → Bool
was_read a = (said a).accepted && eqb (said a).number 0

-- "It .. reads until settled": at most n reads, each the call that is given
unfoldable pub read_until_settled_by : (Session → Step) → ℕ → Session → Session
read_until_settled_by read zero s = s
read_until_settled_by read (suc n) s =
    let r = read s in
    elim (was_read r.answer) [ true ↦ read_until_settled_by read n r.session | false ↦ s ]

abbrev pub read_until_settled : ℕ → Table → Table → Session → Session
read_until_settled n f t = read_until_settled_by (read_call f t) n

-- the pair that three values are
abbrev pub as_pair : List ℕ → List Pair
as_pair [] = []
as_pair (a ∷ []) = []
as_pair (a ∷ b ∷ []) = []
as_pair (a ∷ b ∷ c ∷ l) = record { sum = a; field = b; trim = c } ∷ []

-- the pair that an answer brings out
abbrev pub given : Answer → List Pair
given a = as_pair (said a).values

abbrev pub was_given : Answer → Bool
was_given a = ltb 0 (length (given a))

-- "and takes until finished": the pairs brought out by at most n takes
unfoldable pub take_until_finished_by : (Session → Step) → ℕ → Session → List Pair
take_until_finished_by take zero s = []
take_until_finished_by take (suc n) s =
    let r = take s in
    elim (was_given r.answer) [ true ↦ given r.answer ++ take_until_finished_by take n r.session | false ↦ [] ]

abbrev pub take_until_finished : ℕ → Table → Table → Session → List Pair
take_until_finished n f t = take_until_finished_by (take_call f t) n

-- the record when it is settled; each read reads a row at least, so that the bound is never what ends it
unfoldable pub settled_session : Query → Table → Table → Session
settled_session q f t =
    let s = (open_call q f t).session in
    read_until_settled (s.rows.field.0 + s.rows.trim.0 + 1) f t s

-- the list; at most k pairs come out, so that the bound is never what ends it
unfoldable pub list : Query → Table → Table → List Pair
list q f t = take_until_finished (q.k + 1) f t (settled_session q f t)

-- a number right-justified in w columns
unfoldable pub decimal : ℕ → ℕ → List ℕ
decimal zero n = []
decimal (suc w) n =
    elim (ltb n 10) [ true ↦ replicate w blank | false ↦ decimal w (n / 10) ] ++ ((48 + n % 10) ∷ [])

-- "Pairs: rank, sum, field number, trim number (six columns each)"; "s and the remainder, eight columns each, in place
-- of the squared distance"
unfoldable pub pair_line : Table → Table → ℕ → Pair → List ℕ
pair_line f t rank p =
    let x = row f (p.field - 1) in
    let y = row t (p.trim - 1) in
    let n = squared_distance x.shade y.shade in
    decimal 6 rank
    ++ (decimal 6 p.sum
    ++ (decimal 6 x.pattern
    ++ (decimal 6 y.pattern ++ (decimal 8 (root n) ++ (decimal 8 (remainder n) ++ (line_feed ∷ []))))))

-- the lines of a list whose first pair has this rank
unfoldable pub pair_lines : Table → Table → ℕ → List Pair → List ℕ
pair_lines f t rank [] = []
pair_lines f t rank (p ∷ l) = pair_line f t rank p ++ pair_lines f t (rank + 1) l

-- "First line: the query." "k, block, radius, six columns each, then LF"
unfoldable pub query_line : Query → List ℕ
query_line q = decimal 6 q.k ++ (decimal 6 q.block ++ (decimal 6 q.radius ++ (line_feed ∷ [])))

-- "Last: field rows read, trim rows read (six each), block pairs joined (12)."
unfoldable pub last_line : Session → List ℕ
last_line s =
    decimal 6 s.depth.field.0
    ++ (decimal 6 s.depth.trim.0 ++ (decimal 12 s.joined ++ (line_feed ∷ [])))

unfoldable pub listing : Query → Table → Table → List ℕ
listing q f t = query_line q ++ (pair_lines f t 1 (list q f t) ++ last_line (settled_session q f t))

-- "where columns 7-12 are five spaces and that digit, the file is read as that kind .. every other file is read as kind
-- 1 or 2": as kind `new` or as kind `old`
abbrev pub peeked : ℕ → List ℕ → Bool
peeked kind bytes = every (eqb blank) (columns bytes 6 5) && eqb (get_or bytes 11 0) (48 + kind)

unfoldable pub program_kind : ℕ → ℕ → List ℕ → ℕ
program_kind old new bytes = cond (peeked new bytes) new old

-- FIELD.TAB's kind, and TRIM.TAB's
abbrev pub field_file_kind : List ℕ → ℕ
field_file_kind = program_kind 1 3

abbrev pub trim_file_kind : List ℕ → ℕ
trim_file_kind = program_kind 2 4

-- "A file above 13,837 bytes", 16,909 on the new card: 512 rows
abbrev pub most_file_bytes : ℕ → ℕ
most_file_bytes n = row_start n 512

-- it "is 4 before any other check of it"
unfoldable pub program_file_code : List ℕ → ℕ → ℕ
program_file_code bytes kind =
    first
    (unless (leb (length bytes) (most_file_bytes (kind_coordinates kind))) table_size
    ∷ refusal (said_of (check_file bytes (pos kind)))
    ∷ [])

-- "k, block, radius, six columns each, then LF"
abbrev pub input_length : ℕ
input_length = 19

-- whether its columns and LF are formed as they must be
abbrev pub input_fits : List ℕ → Bool
input_fits input =
    all
    (column_fits false (columns input 0 6)
    ∷ column_fits false (columns input 6 6)
    ∷ column_fits false (columns input 12 6)
    ∷ ends_line input 18
    ∷ [])

-- "input other than 19 bytes is 8, a bad column or LF in it 9"
unfoldable pub input_code : List ℕ → ℕ
input_code input = first (unless (eqb (length input) input_length) cut_file ∷ unless (input_fits input) bad_column ∷ [])

-- "Weights 1 and 1, the pairing program's", and tolerances 0 and 0
unfoldable pub input_query : List ℕ → Query
input_query input =
    exact_query (nat_of (column_number false (columns input 0 6))) (nat_of (column_number false (columns input 6 6)))
    (nat_of (column_number false (columns input 12 6))) (weights 1 1)

-- the table of an accepted file, read as that kind
abbrev pub table_of : ℕ → List ℕ → Table
table_of kind bytes = file_table (kind_coordinates kind) bytes (file_count bytes)

-- the program's two tables
abbrev pub field_file_table : List ℕ → Table
field_file_table bytes = table_of (field_file_kind bytes) bytes

abbrev pub trim_file_table : List ℕ → Table
trim_file_table bytes = table_of (trim_file_kind bytes) bytes

-- "A refusal prints its number alone, in six columns, and LF."
unfoldable pub refusal_line : ℕ → List ℕ
refusal_line code = decimal 6 code ++ (line_feed ∷ [])

-- "It checks the field file, the trim file, the input, then opens"
unfoldable pub whole_query_code : List ℕ → List ℕ → List ℕ → ℕ
whole_query_code field trim input =
    first
    (program_file_code field (field_file_kind field)
    ∷ program_file_code trim (trim_file_kind trim)
    ∷ input_code input
    ∷ open_code (input_query input) (field_file_table field) (trim_file_table trim)
    ∷ [])

-- what the pairing program prints
unfoldable pub whole_query : List ℕ → List ℕ → List ℕ → List ℕ
whole_query field trim input =
    let code = whole_query_code field trim input in
    elim (eqb code 0) [
      | true ↦ listing (input_query input) (field_file_table field) (trim_file_table trim)
      | false ↦ refusal_line code
    ]
