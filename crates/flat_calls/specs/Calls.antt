-- What the session's calls answer and leave in the slices that they are lent: the rules' calls over a record laid
-- out flat. Definitions only. Assumes nothing.
use Rattle.std.specs.Prelude.{ℕ, ◌+◌, ◌-◌, Bool, true, false, cond, ◌||◌, List, [], ◌∷◌, ltb, eqb, ℤ, length}
use Rattle.rules.specs.declared.Answer.{Answer}
use Rattle.rules.specs.declared.Answer.TheVariants.{Refused, Opened, Read, Settled, Given, NotYet, Finished}
use Rattle.rules.specs.declared.Session.{Session}
use Rattle.rules.specs.declared.Step.{Step}
use Rattle.rules.specs.Numbers.{short_slice, Said, said, signed}
use Rattle.rules.specs.Tables.{Table, field_table, trim_table}
use Rattle.rules.specs.Session.{lent_table}
use Rattle.rules.specs.Take.{last_block}
use Rattle.rules.specs.Calls.{step, lent_code, open_call, read_call, take_call}
use Rattle.rules.specs.Numbers.{refused}
use Rattle.record_layout.specs.Flat.{query_size, pair_size, flat_size, laid_at, laid_in, query_in, kinds_in, unflatten}

-- a slice that is too short for what it is lent for
abbrev pub too_short : ℕ → List ℕ → Bool
too_short least l = ltb (length l) least

-- 11 for such a slice comes first, because no record can be seen then
abbrev pub or_short : Bool → Step → Step
or_short short s = cond short (step (refused short_slice) s.session) s

-- the answers that come with another record than the one lent
abbrev pub is_new : Answer → Bool
is_new (Refused n) = false
is_new Opened = true
is_new Read = true
is_new Settled = false
is_new (Given p) = true
is_new NotYet = false
is_new Finished = false

-- the record's slice after a call: such a record is laid out in it; else it stands as it was
unfoldable pub left_in : List ℕ → Step → List ℕ
left_in l s = cond (is_new s.answer) (laid_in l s.session) l

-- the slice lent for an answer's values after it: they stand at its front, the rest as it was
abbrev pub written_in : List ℕ → Said → List ℕ
written_in l s = laid_at 0 s.values l

-- Opening: q is the slice of the query and of the tables' kinds
unfoldable pub open_step : List ℕ → List ℤ → List ℤ → List ℕ → Step
open_step q f t l =
    or_short (too_short query_size q || too_short flat_size l)
    (open_call (query_in q) (field_table (kinds_in q) f) (trim_table (kinds_in q) t))

unfoldable pub open_number : List ℕ → List ℤ → List ℤ → List ℕ → ℤ
open_number q f t l = signed (said (open_step q f t l).answer)

unfoldable pub open_leaves : List ℕ → List ℤ → List ℤ → List ℕ → List ℕ
open_leaves q f t l = left_in l (open_step q f t l)

-- Read; the slices f and t, here and below, are tables on the record's card
unfoldable pub read_step : List ℤ → List ℤ → List ℕ → Step
read_step f t l =
    let s = unflatten l in
    or_short (too_short flat_size l) (read_call (lent_table s f) (lent_table s t) s)

unfoldable pub read_number : List ℤ → List ℤ → List ℕ → ℤ
read_number f t l = signed (said (read_step f t l).answer)

unfoldable pub read_leaves : List ℤ → List ℤ → List ℕ → List ℕ
read_leaves f t l = left_in l (read_step f t l)

-- Take: p is the slice lent for the pair
unfoldable pub take_step : List ℤ → List ℤ → List ℕ → List ℕ → Step
take_step f t l p =
    let s = unflatten l in
    or_short (too_short flat_size l || too_short pair_size p) (take_call (lent_table s f) (lent_table s t) s)

unfoldable pub take_number : List ℤ → List ℤ → List ℕ → List ℕ → ℤ
take_number f t l p = signed (said (take_step f t l p).answer)

unfoldable pub take_leaves : List ℤ → List ℤ → List ℕ → List ℕ → List ℕ
take_leaves f t l p = left_in l (take_step f t l p)

unfoldable pub take_writes : List ℤ → List ℤ → List ℕ → List ℕ → List ℕ
take_writes f t l p = written_in p (said (take_step f t l p).answer)

-- Show: which table the rows last read came from, the first of them and how many
abbrev pub block_numbers : ℕ → ℕ → ℕ → List ℕ
block_numbers table block depth = table ∷ (last_block block depth + 1) ∷ (depth - last_block block depth) ∷ []

-- "Nothing read, or a refusal by 5 or 4: .. no number goes with it"
unfoldable pub shown_numbers : Table → Table → Session → List ℕ
shown_numbers f t s =
    let none : List ℕ = 0 ∷ 0 ∷ 0 ∷ [] in
    cond (eqb (lent_code f t s) 0)
    (cond (eqb s.last 1) (block_numbers 1 s.query.block s.depth.field.0)
    (cond (eqb s.last 2) (block_numbers 2 s.query.block s.depth.trim.0) none))
    none

-- p is the slice lent for these
unfoldable pub show_said : List ℤ → List ℤ → List ℕ → List ℕ → Said
show_said f t l p =
    let s = unflatten l in
    cond (too_short flat_size l || too_short pair_size p) (said (refused short_slice))
    (record { accepted = true; number = 0; values = shown_numbers (lent_table s f) (lent_table s t) s })

unfoldable pub show_number : List ℤ → List ℤ → List ℕ → List ℕ → ℤ
show_number f t l p = signed (show_said f t l p)

unfoldable pub show_writes : List ℤ → List ℤ → List ℕ → List ℕ → List ℕ
show_writes f t l p = written_in p (show_said f t l p)
