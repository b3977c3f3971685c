-- Every code is 0 or a number of the table: what holds of these holds of it. Assumes nothing.
use Rattle.std.specs.Prelude.{◌≡◌, refl, Bool, true, false, cond, List, [], ◌∷◌, ℕ, zero, suc, ◌+◌, eqb, ℤ, leb, length}
use Rattle.std.specs.Prelude.{◌&&◌}
use Rattle.std.specs.Prelude.{Result, Err, ◌≤◌}
use Rattle.std.proofs.Common.{ap, arith}
use Rattle.rules.specs.declared.Answer.TheVariants.{Refused}
use Rattle.rules.specs.declared.Refusal.{Refusal}
use Rattle.rules.specs.declared.Refusal.TheVariants.{ListLength, BlockSize, RadiusRange, TableSize, BadRecord, RowLimit}
use Rattle.rules.specs.declared.Refusal.TheVariants.{RowOrder, CutFile, BadColumn, WrongKind, ShortSlice, WeightRange}
use Rattle.rules.specs.declared.Refusal.TheVariants.{OtherCard, ToleranceRange}
use Rattle.rules.specs.declared.Query.{Query}
use Rattle.rules.specs.declared.Session.{Session}
use Rattle.rules.specs.Tables.{Table, Terms, row_count, row_in_range, row_in_order, size_fits, most_rows}
use Rattle.rules.specs.Numbers.{IsRefusal, code, number_of, refusal_of, unless}
use Rattle.rules.specs.Numbers.{first, refused, unfit, said, said_of, refusal}
use Rattle.rules.specs.Calls.{between, most_tolerance, is_card, query_code, size_code, same_size_code, row_code}
use Rattle.rules.specs.Calls.{rows_code, record_fits, record_code, lent_code, call_code, new_block_code_by, kind_code}
use Rattle.rules.specs.Calls.{cards_code, open_code}
use Rattle.rules.specs.File.{header_bytes, header_fits, kind_fits, file_count, row_start, wanted, head_code}
use Rattle.rules.specs.File.{row_columns_fit, file_row_code}
use Rattle.std.proofs.lemmas.Bool.{eqb-false}

-- the codes of tests, each with what it refuses by
abbrev checked : List (Bool × Refusal) → List ℕ
checked [] = []
checked (x ∷ l) = unless x.0 (number_of x.1) ∷ checked l

module _ (P : ℕ → Type 0) (none : P 0) (each : (r : Refusal) → P (number_of r)) where
  either : (b : Bool) (c d : ℕ) → P c → P d → P (cond b c d)
  either true c d h k = h
  either false c d h k = k

  pub one : (b : Bool) (r : Refusal) → P (unless b (number_of r))
  one true r = none
  one false r = each r

  -- of a check and those behind it
  pub more : (c : ℕ) (l : List ℕ) → P c → P (first l) → P (first (c ∷ l))
  more c [] h k = h
  more c (d ∷ l) h k = either (eqb c 0) (first (d ∷ l)) c k h

  -- of tests, each with its refusal
  pub tests : (l : List (Bool × Refusal)) → P (first (checked l))
  tests [] = none
  tests (x ∷ l) = more (unless x.0 (number_of x.1)) (checked l) (one x.0 x.1) (tests l)

  pub of_query : (q : Query) → P (query_code q)
  unfolding query_code
  of_query q =
      tests
      ((between 1 64 q.k, ListLength)
      ∷ (between 1 1024 q.block, BlockSize)
      ∷ (leb q.radius 40000, RadiusRange)
      ∷ (between 1 9 q.weights.field.0, WeightRange)
      ∷ (between 1 9 q.weights.trim.0, WeightRange)
      ∷ (leb q.tolerances.field.0 most_tolerance, ToleranceRange)
      ∷ (leb q.tolerances.trim.0 most_tolerance, ToleranceRange)
      ∷ [])

  pub of_opening : (q : Query) (f t : Table) → P (open_code q f t)
  unfolding open_code kind_code size_code cards_code
  of_opening q f t =
      let l : List (Bool × Refusal) =
      (is_card f.coordinates, WrongKind)
      ∷ (is_card t.coordinates, WrongKind)
      ∷ (size_fits f, TableSize)
      ∷ (size_fits t, TableSize)
      ∷ (eqb f.coordinates t.coordinates, OtherCard)
      ∷ [] in
      more (query_code q) (checked l) (of_query q) (tests l)

  pub of_row : (t : Table) (i : ℕ) → P (row_code t i)
  unfolding row_code
  of_row t i = tests ((row_in_range t i, RowLimit) ∷ (row_in_order t i, RowOrder) ∷ [])

  pub of_rows : (t : Table) (a n : ℕ) → P (rows_code t a n)
  unfolding rows_code
  of_rows t a zero = none
  of_rows t a (suc n) = more (rows_code t a n) (row_code t (a + n) ∷ []) (of_rows t a n) (of_row t (a + n))

  pub of_lent : (f t : Table) (s : Session) → P (lent_code f t s)
  unfolding lent_code record_code same_size_code
  of_lent f t s =
      tests
      ((record_fits s, BadRecord)
      ∷ (size_fits f && eqb (row_count f) s.rows.field.0, TableSize)
      ∷ (size_fits t && eqb (row_count t) s.rows.trim.0, TableSize)
      ∷ [])

  pub of_call : (f t : Table) (s : Session) → P (call_code f t s)
  unfolding call_code
  of_call f t s =
      let x = rows_code f 0 s.depth.field.0 in
      let y = rows_code t 0 s.depth.trim.0 in
      more (lent_code f t s) (x ∷ y ∷ []) (of_lent f t s)
      (more x (y ∷ []) (of_rows f 0 s.depth.field.0) (of_rows t 0 s.depth.trim.0))

  pub of_new_block : (g : Query → Terms) (f t : Table) (s : Session) → P (new_block_code_by g f t s)
  unfolding new_block_code_by
  of_new_block g f t s = of_rows _ _ _

  pub of_head : (bytes : List ℕ) (kind : ℤ) → P (head_code bytes kind)
  unfolding head_code
  of_head bytes kind =
      tests
      ((leb header_bytes (length bytes), CutFile)
      ∷ (header_fits bytes, BadColumn)
      ∷ (kind_fits bytes kind, WrongKind)
      ∷ (leb (file_count bytes) most_rows, TableSize)
      ∷ (eqb (length bytes) (row_start (wanted kind) (file_count bytes)), CutFile)
      ∷ [])

  pub of_file_row : (bytes : List ℕ) (t : Table) (i : ℕ) → P (file_row_code bytes t i)
  unfolding file_row_code
  of_file_row bytes t i =
      let c = unless (row_columns_fit t.coordinates bytes i) (number_of BadColumn) in
      more c (row_code t i ∷ []) (one (row_columns_fit t.coordinates bytes i) BadColumn) (of_row t i)

-- ---- A refusal and its number are each other's

pub refusal_again : (r : Refusal) → refusal_of (number_of r) ≡ r
refusal_again ListLength = refl
refusal_again BlockSize = refl
refusal_again RadiusRange = refl
refusal_again TableSize = refl
refusal_again BadRecord = refl
refusal_again RowLimit = refl
refusal_again RowOrder = refl
refusal_again CutFile = refl
refusal_again BadColumn = refl
refusal_again WrongKind = refl
refusal_again ShortSlice = refl
refusal_again WeightRange = refl
refusal_again OtherCard = refl
refusal_again ToleranceRange = refl

-- every refusal's number is one of the table's, and none is 0
pub number_range : (r : Refusal) → IsRefusal (number_of r) × (1 ≤ number_of r)
number_range r = grind arith

-- a check that refused has a code, and it is that refusal's
pub refused_is : {A : Type 0} (r : Result A Refusal) (e : Refusal) → r ≡ Err e
    → (eqb (code r) 0 ≡ false) × (refused (code r) ≡ Refused e)
refused_is r e was = rw was (grind arith, ap (λ (x : Refusal). Refused x) (refusal_again e))

-- a number of the table, unless it is 0
abbrev pub Known : ℕ → Type 0
Known n = eqb n 0 ≡ false → number_of (refusal_of n) ≡ n

pub known_none : Known 0
known_none e = refl-clash e
  where
    refl-clash : true ≡ false → number_of (refusal_of 0) ≡ 0
    refl-clash e = absurd (eqb-false 0 0 e refl)

pub known : (r : Refusal) → Known (number_of r)
known ListLength e = refl
known BlockSize e = refl
known RadiusRange e = refl
known TableSize e = refl
known BadRecord e = refl
known RowLimit e = refl
known RowOrder e = refl
known CutFile e = refl
known BadColumn e = refl
known WrongKind e = refl
known ShortSlice e = refl
known WeightRange e = refl
known OtherCard e = refl
known ToleranceRange e = refl

-- the number that a refused call, and a refused file, says
pub refused_says : (n : ℕ) → Known n → eqb n 0 ≡ false → refusal (said (refused n)) ≡ n
refused_says n h e = h e

pub unfit_says : (n row : ℕ) → Known n → eqb n 0 ≡ false → refusal (said_of (unfit n row)) ≡ n
unfit_says n row h e = h e

-- ---- Each code is 0 or a number of the table, so what is said of a refused call is the code

pub known_opening : (q : Query) (f t : Table) → Known (open_code q f t)
known_opening = of_opening Known known_none known

pub known_call : (f t : Table) (s : Session) → Known (call_code f t s)
known_call = of_call Known known_none known

pub known_new_block : (g : Query → Terms) (f t : Table) (s : Session) → Known (new_block_code_by g f t s)
known_new_block = of_new_block Known known_none known

pub known_head : (bytes : List ℕ) (kind : ℤ) → Known (head_code bytes kind)
known_head = of_head Known known_none known

pub known_file_row : (bytes : List ℕ) (t : Table) (i : ℕ) → Known (file_row_code bytes t i)
known_file_row = of_file_row Known known_none known
