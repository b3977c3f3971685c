-- docs/RULES.md, "Refusals": the table of refusals. 0 is no refusal. Definitions only. Assumes nothing.
use Rattle.std.specs.Prelude.{ℕ, ◌≤◌, Bool, true, false, cond, List, [], ◌∷◌, eqb, ℤ, pos, neg_ℤ}
use Rattle.std.specs.Prelude.{Result, Ok, Err}
use Rattle.rules.specs.declared.Answer.{Answer}
use Rattle.rules.specs.declared.Answer.TheVariants.{Refused, Opened, Read, Settled, Given, NotYet, Finished}
use Rattle.rules.specs.declared.Meaning.{Meaning}
use Rattle.rules.specs.declared.Meaning.TheVariants.{Possibly, Surely}
use Rattle.rules.specs.declared.Unfit.{Unfit}
use Rattle.rules.specs.declared.Refusal.{Refusal}
use Rattle.rules.specs.declared.Refusal.TheVariants.{ListLength, BlockSize, RadiusRange, TableSize, BadRecord, RowLimit}
use Rattle.rules.specs.declared.Refusal.TheVariants.{RowOrder, CutFile, BadColumn, WrongKind, ShortSlice, WeightRange}
use Rattle.rules.specs.declared.Refusal.TheVariants.{OtherCard, ToleranceRange}

abbrev pub list_length : ℕ
list_length = 1

abbrev pub block_size : ℕ
block_size = 2

abbrev pub radius_range : ℕ
radius_range = 3

abbrev pub table_size : ℕ
table_size = 4

abbrev pub bad_record : ℕ
bad_record = 5

abbrev pub row_limit : ℕ
row_limit = 6

abbrev pub row_order : ℕ
row_order = 7

abbrev pub cut_file : ℕ
cut_file = 8

abbrev pub bad_column : ℕ
bad_column = 9

abbrev pub wrong_kind : ℕ
wrong_kind = 10

abbrev pub short_slice : ℕ
short_slice = 11

abbrev pub weight_range : ℕ
weight_range = 12

abbrev pub other_card : ℕ
other_card = 15

abbrev pub tolerance_range : ℕ
tolerance_range = 16

-- the number of each in the table
abbrev pub number_of : Refusal → ℕ
number_of ListLength = list_length
number_of BlockSize = block_size
number_of RadiusRange = radius_range
number_of TableSize = table_size
number_of BadRecord = bad_record
number_of RowLimit = row_limit
number_of RowOrder = row_order
number_of CutFile = cut_file
number_of BadColumn = bad_column
number_of WrongKind = wrong_kind
number_of ShortSlice = short_slice
number_of WeightRange = weight_range
number_of OtherCard = other_card
number_of ToleranceRange = tolerance_range

-- the refusal of a number of the table
abbrev pub refusal_of : ℕ → Refusal
refusal_of n =
    cond (eqb n list_length) ListLength
    (cond (eqb n block_size) BlockSize
    (cond (eqb n radius_range) RadiusRange
    (cond (eqb n table_size) TableSize
    (cond (eqb n bad_record) BadRecord
    (cond (eqb n row_limit) RowLimit
    (cond (eqb n row_order) RowOrder
    (cond (eqb n cut_file) CutFile
    (cond (eqb n bad_column) BadColumn
    (cond (eqb n wrong_kind) WrongKind
    (cond (eqb n short_slice) ShortSlice
    (cond (eqb n weight_range) WeightRange
    (cond (eqb n other_card) OtherCard ToleranceRange))))))))))))

-- the code of a check: 0 where it passed, else the refusal's number
abbrev pub code : {A : Type 0} → Result A Refusal → ℕ
code (Ok x) = 0
code (Err r) = number_of r

-- a number of the table, or 0
abbrev pub IsRefusal : ℕ → Type 0
IsRefusal n = n ≤ tolerance_range

-- number n, unless the test passes
abbrev pub unless : Bool → ℕ → ℕ
unless passes n = cond passes 0 n

-- of checks in their order the number of the first that refuses
abbrev pub first : List ℕ → ℕ
first [] = 0
first (c ∷ []) = c
first (c ∷ d ∷ l) = cond (eqb c 0) (first (d ∷ l)) c

-- What an answer says: whether the call was accepted; its number, which of a refusal is that of the table above; and
-- the values that go with it.
pub record Said : Type 0 where
  pub accepted : Bool
  pub number : ℕ
  pub values : List ℕ

-- of a session's call: accepted, the number tells which answer it is; a pair brought out goes with it, its sum, field
-- row and trim row
abbrev pub said : Answer → Said
said (Refused r) = record { accepted = false; number = number_of r; values = [] }
said Opened = record { accepted = true; number = 0; values = [] }
said Read = record { accepted = true; number = 0; values = [] }
said Settled = record { accepted = true; number = 1; values = [] }
said (Given p) = record { accepted = true; number = 2; values = p.sum ∷ p.field ∷ p.trim ∷ [] }
said NotYet = record { accepted = true; number = 3; values = [] }
said Finished = record { accepted = true; number = 4; values = [] }

-- what a file answers: its row count, or what it is refused by
abbrev pub Loaded : Type 0
Loaded = Result ℕ Unfit

-- of a file: accepted, "it answers the row count"; "Refusals 6, 7, 9 add the row number (0 for the header); others add
-- 0"
abbrev pub said_of : Loaded → Said
said_of (Ok n) = record { accepted = true; number = n; values = [] }
said_of (Err e) = record { accepted = false; number = number_of e.refusal; values = e.row ∷ [] }

-- the number that a call is refused by, 0 where it is accepted
abbrev pub refusal : Said → ℕ
refusal s = cond s.accepted 0 s.number

-- the number as one signed number: an accepted call's as it is, "or minus the refusal number"
abbrev pub signed : Said → ℤ
signed s = cond s.accepted (pos s.number) (neg_ℤ (pos s.number))

-- a meaning as a number
abbrev pub meaning_number : Meaning → ℕ
meaning_number Possibly = 0
meaning_number Surely = 1

-- the meaning that a number is: 0 is "possibly", any other "surely"
unfoldable pub meaning_of : ℕ → Meaning
meaning_of n = cond (eqb n 0) Possibly Surely

-- the answers that a call, and a file, is refused by a number of the table; a row goes with a file's
abbrev pub refused : ℕ → Answer
refused n = Refused (refusal_of n)

abbrev pub unfit : ℕ → ℕ → Loaded
unfit n row = Err (record { refusal = refusal_of n; row = row })
