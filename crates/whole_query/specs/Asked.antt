-- One whole query over two lent tables, answered in lent places: definitions. Assumes nothing.
use Rattle.std.specs.Prelude.{cond, List, [], ◌∷◌, ℕ, leb, eqb, ℤ, length}
use Rattle.rules.specs.Tables.{Table, field_table, trim_table}
use Rattle.rules.specs.Numbers.{short_slice, unless, first, Said, signed}
use Rattle.rules.specs.Calls.{open_code}
use Rattle.rules.specs.Query.{list, listing}
use Rattle.record_layout.specs.Flat.{query_size, query_in, kinds_in}
use Rattle.printing.specs.Put.{put_at}
use Rattle.outcomes.specs.Outcomes.{read_code}
use Rattle.listing.specs.Shown.{listing_room}
use Rattle.query_numbers.specs.Answers.{query_room, answered}

-- ---- What a query is refused by

-- the two lent tables, by the kinds that the lent query goes on with
abbrev pub asked_field : List ℕ → List ℤ → Table
asked_field l f = field_table (kinds_in l) f

abbrev pub asked_trim : List ℕ → List ℤ → Table
asked_trim l t = trim_table (kinds_in l) t

-- where the answer wants `least` places and there are `room`: 11 where no query can be seen; the opening's numbers;
-- the refusal that ended the reading; 11 for the place of the answer
unfoldable pub asked_code : ℕ → List ℕ → Table → Table → ℕ → ℕ
asked_code least l f t room =
    first
    (unless (leb query_size (length l)) short_slice
    ∷ open_code (query_in l) f t
    ∷ read_code (query_in l) f t
    ∷ unless (leb least room) short_slice
    ∷ [])

-- what such a number and the count that goes with none say
abbrev pub count_said : ℕ → ℕ → Said
count_said code count =
    record { accepted = eqb code 0; number = cond (eqb code 0) count code; values = [] }

-- the lent places after it: with the answer written; refused, all as it was
unfoldable pub written_unless : ℕ → List ℕ → List ℕ → List ℕ
written_unless code written out = cond (eqb code 0) written out

-- ---- The answer as numbers

abbrev pub lent_query_code : List ℕ → List ℤ → List ℤ → List ℕ → ℕ
lent_query_code l f t out = asked_code query_room l (asked_field l f) (asked_trim l t) (length out)

-- how many pairs there are, or minus the refusal's number
unfoldable pub lent_query_answer : List ℕ → List ℤ → List ℤ → List ℕ → ℤ
lent_query_answer l f t out =
    signed (count_said (lent_query_code l f t out) (length (list (query_in l) (asked_field l f) (asked_trim l t))))

unfoldable pub lent_query_numbers : List ℕ → List ℤ → List ℤ → List ℕ → List ℕ
lent_query_numbers l f t out =
    written_unless (lent_query_code l f t out) (answered (query_in l) (asked_field l f) (asked_trim l t) out) out

-- ---- The answer as the listing's bytes

abbrev pub lent_listing_code : List ℕ → List ℤ → List ℤ → List ℕ → ℕ
lent_listing_code l f t out = asked_code listing_room l (asked_field l f) (asked_trim l t) (length out)

-- how many bytes the listing takes, or minus the refusal's number
unfoldable pub lent_listing_answer : List ℕ → List ℤ → List ℤ → List ℕ → ℤ
lent_listing_answer l f t out =
    signed (count_said (lent_listing_code l f t out) (length (listing (query_in l) (asked_field l f) (asked_trim l t))))

unfoldable pub lent_listing_bytes : List ℕ → List ℤ → List ℤ → List ℕ → List ℕ
lent_listing_bytes l f t out =
    written_unless (lent_listing_code l f t out)
    (put_at 0 (listing (query_in l) (asked_field l f) (asked_trim l t)) out)
    out
