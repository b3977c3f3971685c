-- The rules' worked query, and P1 to P12 as a single tabled fact. Assumes nothing.
use Rattle.std.specs.Prelude.{ℕ, zero, suc, ◌≡◌, refl, Bool, true, false, cond, List, [], ◌∷◌, ◌++◌, map, ℤ, pos}
use Rattle.std.specs.Prelude.{negsuc, get_or}
use Prim.Native.Char.{code}
use Prim.Native.String.{String, len, char_at}
use Rattle.std.proofs.Common.{sym, ap, ◌∙◌}
use Rattle.std.proofs.Math.ListN.{get_or-map}
use Rattle.rules.specs.declared.Query.{Query}
use Rattle.rules.specs.declared.Session.{Session}
use Rattle.rules.specs.declared.Answer.{Answer}
use Rattle.rules.specs.Numbers.{said}
use Rattle.rules.specs.Tables.{Table, old_table, qualifies}
use Rattle.rules.specs.Session.{weights, exact_query, places, ceiling}
use Rattle.rules.specs.Calls.{open_call, read_call, take_call}
use Rattle.rules.specs.File.{line_feed, column_fits, column_number}
use Rattle.rules.specs.Query.{whole_query, settled_session, field_file_table, trim_file_table, input_query}
use Rattle.rules.specs.Run.{run}

abbrev pub bytes_from : String → ℕ → ℕ → List ℕ
bytes_from s i zero = []
bytes_from s i (suc n) = code (char_at s i) ∷ bytes_from s (suc i) n

-- the bytes of a text
abbrev pub bytes : String → List ℕ
bytes s = bytes_from s 0 (len s)

-- lines, each ended by LF
abbrev pub text : List String → List ℕ
text [] = []
text (s ∷ l) = bytes s ++ (line_feed ∷ text l)

abbrev pub field_file : List ℕ
field_file =
    text
    ("     5     1"
    ∷ "   101    90      0      0"
    ∷ "   102    80    100      0"
    ∷ "   103    60      0    300"
    ∷ "   104    40    500    500"
    ∷ "   105    10      0      0"
    ∷ [])

abbrev pub trim_file : List ℕ
trim_file =
    text
    ("     5     2"
    ∷ "   201    70    400      0"
    ∷ "   202    50      3      4"
    ∷ "   203    30    100      5"
    ∷ "   204    20      0    300"
    ∷ "   205    15    500    500"
    ∷ [])

abbrev pub input : List ℕ
input = bytes "     2     1     5\n"

abbrev pub output : List ℕ
output =
    text
    ("     2     1     5"
    ∷ "     1   140   101   202       5       0"
    ∷ "     2   110   102   203       5       0"
    ∷ "     4     4           2"
    ∷ [])

-- the worked query's whole output
pub worked : whole_query field_file trim_file input ≡ output
unfolding run
worked = refl

abbrev pub fields : Table
fields = field_file_table field_file

abbrev pub trims : Table
trims = trim_file_table trim_file

abbrev pub query : Query
query = input_query input

-- the record after n reads
unfoldable pub after_reads : ℕ → Session
after_reads zero = (open_call query fields trims).session
after_reads (suc n) = (read_call fields trims (after_reads n)).session

abbrev pub shade : ℤ → ℤ → List ℤ
shade a b = a ∷ b ∷ []

-- what an entry of the table finds: whether it holds, a number, or what a take answers (2 and the pair's sum and rows;
-- 4 is finished)
abbrev pub test : Bool → List ℤ
test b = cond b (pos 1 ∷ []) (pos 0 ∷ [])

abbrev pub column : Bool → List ℕ → List ℤ
column signed l = cond (column_fits signed l) (column_number signed l ∷ []) []

abbrev pub told : Answer → List ℤ
told a = pos (said a).number ∷ map pos (said a).values

abbrev pub account : Session → List ℤ
account s = pos s.depth.field.0 ∷ pos s.depth.trim.0 ∷ pos s.joined ∷ []

pub record Entry : Type 0 where
  pub found : List ℤ
  pub said : List ℤ

abbrev pub entry : List ℤ → List ℤ → Entry
entry x y = record { found = x; said = y }

-- the record after five reads, written out: what P9 and P10 look at is computed once
abbrev five : Session
five =
    record {
      query = query;
      rows = record { field = record { 0 = 5 }; trim = record { 0 = 5 }; card = 2 };
      depth = record { field = record { 0 = 3 }; trim = record { 0 = 2 } };
      last = 1;
      out = 0;
      held = 1;
      pairs = places (record { sum = 140; field = 1; trim = 2 } ∷ []);
      joined = 1;
    }

is_five : after_reads 5 ≡ five
unfolding run after_reads
is_five = refl

-- whether two shades that are known qualify
abbrev near : ℕ → List ℤ → List ℤ → Bool
near radius = qualifies (exact_query 1 1 radius (weights 1 1))

-- P1 to P12, in the rules' order: what the rules find, and what is wanted; s is the record after five reads
abbrev entries_at : Session → List Entry
entries_at s =
    entry (test (near 5 (shade (pos 0) (pos 0)) (shade (pos 3) (pos 4)))) (test true)
    ∷ entry (test (near 4 (shade (pos 0) (pos 0)) (shade (pos 3) (pos 4)))) (test false)
    ∷ entry (test (near 0 (shade (pos 3) (pos 4)) (shade (pos 3) (pos 4)))) (test true)
    ∷ entry (test (near 25499 (shade (negsuc 12799) (pos 0)) (shade (pos 12700) (pos 0)))) (test false)
    ∷ entry (test (near 25500 (shade (negsuc 12799) (pos 0)) (shade (pos 12700) (pos 0)))) (test true)
    ∷ entry (column false (bytes "   101")) (pos 101 ∷ [])
    ∷ entry (column false (bytes "  0101")) []
    ∷ entry (column true (bytes "     -0")) []
    ∷ entry (pos (ceiling fields trims s) ∷ []) (pos 140 ∷ [])
    ∷ entry (told (take_call fields trims s).answer) (pos 2 ∷ pos 140 ∷ pos 1 ∷ pos 2 ∷ [])
    ∷ entry (account (settled_session query fields trims)) (pos 4 ∷ pos 4 ∷ pos 2 ∷ [])
    ∷ entry (told (take_call (old_table []) trims (open_call query (old_table []) trims).session).answer) (pos 4 ∷ [])
    ∷ []

pub entries : List Entry
entries = entries_at (after_reads 5)

-- the whole table at once, computed
holds : map (λ e. e.found) entries ≡ map (λ e. e.said) entries
unfolding run entries
holds = ap (λ (s : Session). map (λ e. e.found) (entries_at s)) is_five

-- each entry, P1 being entry 0
pub fact : (i : ℕ) → (get_or entries i (entry [] [])).found ≡ (get_or entries i (entry [] [])).said
fact i =
    let none = entry [] [] in
    sym (get_or-map (λ e. e.found) entries i none)
    ∙ ap (λ (l : List (List ℤ)). get_or l i []) holds
    ∙ get_or-map (λ e. e.said) entries i none
