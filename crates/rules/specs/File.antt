-- docs/RULES.md, "The strict file". Definitions only. Assumes nothing.
use Rattle.std.specs.Prelude.{ℕ, zero, suc, ◌+◌, ◌*◌, ◌-◌, Bool, false, cond, ◌&&◌, not, List, [], ◌∷◌, ◌++◌, map, leb}
use Rattle.std.specs.Prelude.{ltb, eqb, ℤ, pos, neg_ℤ, length, get_or, take, drop, Ok, Err}
use Rattle.lists.specs.Lists.{every, range, each}
use Rattle.rules.specs.Tables.{Table, table, kind_coordinates, width, after_rows, most_rows, nat_of}
use Rattle.rules.specs.Numbers.{table_size, cut_file, bad_column, wrong_kind, short_slice, unless, first, said_of}
use Rattle.rules.specs.Numbers.{signed, Loaded, unfit}
use Rattle.rules.specs.Calls.{between, row_code}

abbrev pub blank : ℕ
blank = 32

abbrev pub minus_sign : ℕ
minus_sign = 45

abbrev pub line_feed : ℕ
line_feed = 10

abbrev pub is_digit : ℕ → Bool
is_digit b = between 48 57 b

-- "blanks (spaces, or none if the digits fill it)": what follows them
unfoldable pub after_blanks : List ℕ → List ℕ
after_blanks [] = []
after_blanks (b ∷ l) = cond (eqb b blank) (after_blanks l) (b ∷ l)

-- "one or more digits without a leading zero (0 itself excepted)"
unfoldable pub digits_fit : List ℕ → Bool
digits_fit [] = false
digits_fit (b ∷ []) = is_digit b
digits_fit (b ∷ c ∷ l) = is_digit b && (not (eqb b 48) && every is_digit (c ∷ l))

-- the number that digits write, the digits before them being worth n
unfoldable pub digits_from : ℕ → List ℕ → ℕ
digits_from n [] = n
digits_from n (b ∷ l) = digits_from (10 * n + (b - 48)) l

-- "In a and b a minus may precede the digits, never before 0": whether it stands there, and what follows it. The flag
-- says whether the column may have one.
unfoldable pub has_minus : Bool → List ℕ → Bool
has_minus signed [] = false
has_minus signed (b ∷ l) = signed && eqb b minus_sign

unfoldable pub after_minus : Bool → List ℕ → List ℕ
after_minus signed [] = []
after_minus signed (b ∷ l) = cond (has_minus signed (b ∷ l)) l (b ∷ l)

-- the digits of a column
abbrev pub digits_of : Bool → List ℕ → List ℕ
digits_of signed l = after_minus signed (after_blanks l)

-- "A number is right-justified": whether a column's bytes are formed so
unfoldable pub column_fits : Bool → List ℕ → Bool
column_fits signed l =
    digits_fit (digits_of signed l)
    && not (has_minus signed (after_blanks l) && eqb (digits_from 0 (digits_of signed l)) 0)

-- the number of a column that is formed so
unfoldable pub column_number : Bool → List ℕ → ℤ
column_number signed l =
    let n = digits_from 0 (digits_of signed l) in
    cond (has_minus signed (after_blanks l)) (neg_ℤ (pos n)) (pos n)

-- the bytes of w columns, the first of them being column o + 1
abbrev pub columns : List ℕ → ℕ → ℕ → List ℕ
columns bytes o w = take w (drop o bytes)

-- the bytes of the header
abbrev pub header_bytes : ℕ
header_bytes = 13

-- A row's columns, number j of a row in the one of its place: "pattern number 1-6, score 7-12, a 13-19, b 20-26", and
-- "L .. in columns 27-32". "In a and b a minus may precede the digits".
abbrev pub is_signed : ℕ → Bool
is_signed j = between 2 3 j

abbrev pub column_bytes : ℕ → ℕ
column_bytes j = cond (is_signed j) 7 6

-- how many bytes the columns before it have
unfoldable pub column_start : ℕ → ℕ
column_start zero = 0
column_start (suc j) = column_start j + column_bytes j

-- the bytes of a row on a card of n coordinates: its columns, and LF
unfoldable pub row_bytes : ℕ → ℕ
row_bytes n = column_start (width n) + 1

abbrev pub ends_line : List ℕ → ℕ → Bool
ends_line bytes o = eqb (get_or bytes o 0) line_feed

-- "Header, 13 bytes: row count in columns 1-6, kind in 7-12 (1 field, 2 trim), LF."
unfoldable pub header_fits : List ℕ → Bool
header_fits bytes =
    column_fits false (columns bytes 0 6) && (column_fits false (columns bytes 6 6) && ends_line bytes 12)

unfoldable pub file_count : List ℕ → ℕ
file_count bytes = nat_of (column_number false (columns bytes 0 6))

unfoldable pub file_kind : List ℕ → ℕ
file_kind bytes = nat_of (column_number false (columns bytes 6 6))

-- where row i + 1 begins
abbrev pub row_start : ℕ → ℕ → ℕ
row_start n i = header_bytes + row_bytes n * i

-- the bytes of number j of the row that begins at o; whether they are formed as they must be, and the number
abbrev pub column_at : List ℕ → ℕ → ℕ → List ℕ
column_at bytes o j = columns bytes (o + column_start j) (column_bytes j)

unfoldable pub column_fits_at : List ℕ → ℕ → ℕ → Bool
column_fits_at bytes o j = column_fits (is_signed j) (column_at bytes o j)

unfoldable pub number_at : List ℕ → ℕ → ℕ → ℤ
number_at bytes o j = column_number (is_signed j) (column_at bytes o j)

-- row i + 1: its columns, then LF
unfoldable pub row_columns_fit : ℕ → List ℕ → ℕ → Bool
row_columns_fit n bytes i =
    let o = row_start n i in
    every (column_fits_at bytes o) (range 0 (width n)) && ends_line bytes (o + column_start (width n))

-- its numbers
unfoldable pub row_numbers : ℕ → List ℕ → ℕ → List ℤ
row_numbers n bytes i = map (number_at bytes (row_start n i)) (range 0 (width n))

-- the first m rows, as a table
unfoldable pub file_table : ℕ → List ℕ → ℕ → Table
file_table n bytes m = table n (each (row_numbers n bytes) (range 0 m))

-- "each row by 9, 6, 7": row i + 1, t being the file's table
unfoldable pub file_row_code : List ℕ → Table → ℕ → ℕ
file_row_code bytes t i = first (unless (row_columns_fit t.coordinates bytes i) bad_column ∷ row_code t i ∷ [])

-- the answer where row n + 1 follows rows that were answered so: "Refusals 6, 7, 9 add the row number"
unfoldable pub and_row : List ℕ → Table → ℕ → Loaded → Loaded
and_row bytes t n (Ok m) = cond (eqb (file_row_code bytes t n) 0) (Ok (n + 1))
    (unfit (file_row_code bytes t n) (n + 1))
and_row bytes t n (Err e) = Err e

-- the first n rows
unfoldable pub rows_loaded : List ℕ → Table → ℕ → Loaded
rows_loaded bytes t zero = Ok 0
rows_loaded bytes t (suc n) = and_row bytes t n (rows_loaded bytes t n)

-- "kind (10)": "header's kind isn't the one wanted, or the wanted one isn't" 1 to 4
unfoldable pub kind_fits : List ℕ → ℤ → Bool
kind_fits bytes kind = between 1 4 (nat_of kind) && eqb (file_kind bytes) (nat_of kind)

-- how many coordinates the wanted kind's card has
abbrev pub wanted : ℤ → ℕ
wanted kind = kind_coordinates (nat_of kind)

-- "Order: fewer than 13 bytes (8); header columns or LF (9); kind (10); count above 65,535 (4); length other than
-- 13 + 27 × count (8)", or 33
unfoldable pub head_code : List ℕ → ℤ → ℕ
head_code bytes kind =
    first
    (unless (leb header_bytes (length bytes)) cut_file
    ∷ unless (header_fits bytes) bad_column
    ∷ unless (kind_fits bytes kind) wrong_kind
    ∷ unless (leb (file_count bytes) most_rows) table_size
    ∷ unless (eqb (length bytes) (row_start (wanted kind) (file_count bytes))) cut_file
    ∷ [])

-- A file without a slice: these checks, which add 0, then "each row by 9, 6, 7".
unfoldable pub check_file : List ℕ → ℤ → Loaded
check_file bytes kind =
    let count = file_count bytes in
    cond (eqb (head_code bytes kind) 0) (rows_loaded bytes (file_table (wanted kind) bytes count) count)
    (unfit (head_code bytes kind) 0)

-- "then 11": the answer where a slice of so many numbers is lent, for rows of n coordinates
unfoldable pub and_slice : ℕ → ℕ → Loaded → Loaded
and_slice n room (Ok m) = cond (ltb room (width n * m)) (unfit short_slice 0) (Ok m)
and_slice n room (Err e) = Err e

-- the lent numbers after an answer: "the first 4 × count numbers are the rows, the rest untouched"
unfoldable pub loaded_into : ℕ → List ℕ → List ℤ → Loaded → List ℤ
loaded_into n bytes out (Ok m) = (file_table n bytes m).numbers ++ (after_rows m (table n out)).numbers
loaded_into n bytes out (Err e) = out

-- Reading a file into a lent slice: the answer, and the slice after it
unfoldable pub load_answer : List ℕ → ℤ → List ℤ → Loaded
load_answer bytes kind out = and_slice (wanted kind) (length out) (check_file bytes kind)

unfoldable pub load_numbers : List ℕ → ℤ → List ℤ → List ℤ
load_numbers bytes kind out = loaded_into (wanted kind) bytes out (load_answer bytes kind out)

-- "A check alone, without a slice and so without 11 .. returns the row count, or minus the refusal number."
unfoldable pub check_alone : List ℕ → ℤ → ℤ
check_alone bytes kind = signed (said_of (check_file bytes kind))
