-- The steps of the program and the whole. Assumes nothing.
use mathlib.Core.Path.{◌≡◌, refl, sym, ap, subst, ◌∙◌}
use Rattle.std.proofs.Common.{subst₂}
use Rattle.std.specs.Prelude.{Result, Ok, Err, IsErrAnd}
use mathlib.Core.Logic.{◌⊎◌, inl, inr, ⊎_elim}
use mathlib.Core.Bool.{cond, ◌||◌}
use lib.Dec.{eqb}
use borrow.Author.Tests.{eq-eqb}
use Rattle.lists.specs.Bools.{or_true}
use mathlib.Core.List.{List, ◌++◌}
use Prim.Native.Nat.{ℕ, ◌*◌, ◌≤◌}
use native.Mathlib.Omega.{arith}
use lib.IntN.{ℤ, pos}
use lib.ListN.{length, drop}
use lib.Seq.{take_at}
use Rattle.rules.specs.Tables.{Table, table, kind_coordinates, width, HasRows, first_rows, after_rows}
use Rattle.rules.specs.Tables.{field_table, trim_table}
use Rattle.rules.specs.declared.Kinds.{Kinds}
use Rattle.rules.specs.Widths.{rows_less}
use Rattle.rules.specs.Numbers.{said_of, refusal, Loaded}
use Rattle.rules.specs.File.{file_table, loaded_into}
use Rattle.rules.specs.Query.{program_kind, program_file_code, table_of, field_file_kind, trim_file_kind}
use Rattle.rules.specs.Query.{field_file_table, trim_file_table}
use Rattle.rules.specs.Query.{refusal_line, whole_query}
use Rattle.file_laws.specs.Accepted.{accepted}
use Rattle.file_laws.specs.Table.{table_length}
use Rattle.printing.specs.Put.{put_front}
use Rattle.listing.specs.Shown.{listing_room}
use Rattle.program_sizes.specs.Sizes.{table_rows, table_room, table_most}
use Rattle.program_file.specs.Given.{program_file, program_code, program_rows, kind_either}
use Rattle.rules.specs.declared.Refusal.{Refusal}
use Rattle.rules.specs.declared.Unfit.{Unfit}
use Rattle.rules.specs.declared.Query.{Query}
use Rattle.rules.specs.Numbers.{number_of, code}
use Rattle.rules.specs.Calls.{open_code}
use Rattle.rules.specs.Query.{listing, input_code, input_query, whole_query_code}
use Rattle.codes.specs.Steps.{passed, stopped}
use Rattle.program_input.specs.Given.{input_held, held_code, held_given}
use Rattle.program.specs.Program.{Gives, input_and_opening}
use Rattle.program.specs.Program.{Written, or_refusal, refusal_none, refusal_some}

-- ---- A file

-- its table stands at the front
pub table_front : (bytes : List ℕ) (kind : ℕ) (lent out : List ℤ) (x : Loaded) (n : ℕ) → x ≡ program_file bytes kind →
    x ≡ Ok n → out ≡ loaded_into (kind_coordinates kind) bytes lent x →
    first_rows n (table (kind_coordinates kind) out) ≡ table_of kind bytes
unfolding loaded_into file_table
table_front bytes kind lent out x n ex e i =
    let c = kind_coordinates kind in
    ap (λ l. first_rows n (table c l)) (i ∙ ap (loaded_into c bytes lent) e)
    ∙ ap (table c)
    (take_at (file_table c bytes n).numbers (after_rows n (table c lent)).numbers (width c * n)
    (table_length c bytes n))
    ∙ ap (file_table c bytes) (sym (accepted bytes (pos kind) n (program_rows bytes kind n (sym ex ∙ e)).0).count)

-- so do its rows, cut off there
pub file_rows : (bytes : List ℕ) (kind m : ℕ) (l out : List ℤ) → let c = kind_coordinates kind in
    l ≡ (first_rows m (table c out)).numbers → first_rows m (table c out) ≡ table_of kind bytes →
    table c l ≡ table_of kind bytes
file_rows bytes kind m l out e front = ap (table (kind_coordinates kind)) e ∙ front

-- its numbers are there
pub table_there : (bytes : List ℕ) (kind : ℕ) (out : List ℤ) (x : Loaded) (n : ℕ) → x ≡ program_file bytes kind →
    x ≡ Ok n → length out ≡ table_room → HasRows (table (kind_coordinates kind) out) n
table_there bytes kind out x n ex e long =
    rows_less (table (kind_coordinates kind) out) n table_rows (program_rows bytes kind n (sym ex ∙ e)).1
    (omega (arith, table_most kind))

-- the kinds that files are read as are the tables' own
pub kind_few : (old new : ℕ) (bytes : List ℕ) → old ≤ 4 → new ≤ 4 → program_kind old new bytes ≤ 4
kind_few old new bytes h k =
    ⊎_elim (λ e. omega (arith, e)) (λ e. omega (arith, e)) (kind_either old new bytes)

module _ (bytes : List ℕ) (kinds : Kinds) (l : List ℤ) where
  -- one of two kinds, whatever stands there for another
  either : (a b kind : ℕ) → (kind ≡ a) ⊎ (kind ≡ b)
      → table (cond (eqb kind a || eqb kind b) (kind_coordinates kind) 0) l ≡ table (kind_coordinates kind) l
  either a b kind (inl e) = rw (eq-eqb kind a e)
  either a b kind (inr e) = rw (eq-eqb kind b e, or_true (eqb kind a))

  pub field_own : kinds.field.0 ≡ field_file_kind bytes
      → field_table kinds l ≡ table (kind_coordinates kinds.field.0) l
  field_own e = either 1 3 kinds.field.0 (⊎_elim (λ i. inl (e ∙ i)) (λ i. inr (e ∙ i)) (kind_either 1 3 bytes))

  pub trim_own : kinds.trim.0 ≡ trim_file_kind bytes → trim_table kinds l ≡ table (kind_coordinates kinds.trim.0) l
  trim_own e = either 2 4 kinds.trim.0 (⊎_elim (λ i. inl (e ∙ i)) (λ i. inr (e ∙ i)) (kind_either 2 4 bytes))

-- ---- What is written

pub written_as : {x y l m : List ℕ} {n : ℕ} → x ≡ y → Written x l m n → Written y l m n
written_as {l = l} {m = m} {n = n} e w = subst (λ z. Written z l m n) e w

pub refused_as : (code other : ℕ) (b : List ℕ) → code ≡ other → (code ≡ 0 → ⊥) → refusal_line code ≡ or_refusal other b
refused_as code other b e h = sym (refusal_some code b h) ∙ ap (λ (c : ℕ). or_refusal c b) e

pub passed_as : (code : ℕ) (b : List ℕ) → code ≡ 0 → b ≡ or_refusal code b
passed_as code b e = sym (refusal_none code b e)

-- ---- The whole, step by step

pub refuses : (n : ℕ) (bytes old : List ℕ) (e : Refusal) (r : Result ℕ Refusal) → IsErrAnd r (λ x. x ≡ e)
    → number_of e ≡ n → Gives n bytes old old r
refuses n bytes old e (Ok x) h k = elim h [ ]
refuses n bytes old e (Err x) h k = (ap number_of h ∙ k, refl)

module _ (bytes : List ℕ) (kind : ℕ) (x : Loaded) (ex : x ≡ program_file bytes kind) where
  pub load_refused : (e : Unfit) → x ≡ Err e → number_of e.refusal ≡ program_file_code bytes kind
  load_refused e h = ap (λ (y : Loaded). refusal (said_of y)) (sym h ∙ ex) ∙ program_code bytes kind

  pub load_passed : (n : ℕ) → x ≡ Ok n → program_file_code bytes kind ≡ 0
  load_passed n h = sym (program_code bytes kind) ∙ ap (λ (y : Loaded). refusal (said_of y)) (sym ex ∙ h)

module _ (input : List ℕ) (f t : Table) where
  pub asked_refused : (e : Refusal) → Err e ≡ input_held input → number_of e ≡ input_and_opening input f t
  asked_refused e h =
      sym (stopped {A = Query} (input_code input) (open_code (input_query input) f t) (Err e) e refl
      (ap code h ∙ held_code input))

  pub asked_given : (q : Query) (old new : List ℕ) (r : Result ℕ Refusal) → Ok q ≡ input_held input
      → Gives (open_code q f t) (listing q f t) old new r
      → Gives (input_and_opening input f t) (listing (input_query input) f t) old new r
  asked_given q old new r h g =
      let same = held_given input q (sym h) in
      let none : ◌≡◌ {A = ℕ} 0 (input_code input) = ap code h ∙ held_code input in
      let whole : open_code (input_query input) f t ≡ input_and_opening input f t =
      sym (passed {A = Query} (input_code input) (open_code (input_query input) f t) (Ok q) q refl none refl) in
      subst₂ (λ c b. Gives c b old new r) (ap (λ (q : Query). open_code q f t) same ∙ whole)
      (ap (λ (q : Query). listing q f t) same) g

module _ (field trim input : List ℕ) where
  pub field_refused : (e : Refusal) → number_of e ≡ program_file_code field (field_file_kind field)
      → number_of e ≡ whole_query_code field trim input
  unfolding whole_query_code
  field_refused e h = sym (stopped {A = ℕ} (program_file_code field (field_file_kind field)) _ (Err e) e refl h)

  pub trim_refused : (e : Refusal) → program_file_code field (field_file_kind field) ≡ 0
      → number_of e ≡ program_file_code trim (trim_file_kind trim)
      → number_of e ≡ whole_query_code field trim input
  unfolding whole_query_code
  trim_refused e z h =
      sym (passed {A = ℕ} (program_file_code field (field_file_kind field)) _ (Ok 0) 0 refl (sym z)
      (stopped {A = ℕ} (program_file_code trim (trim_file_kind trim)) _ (Err e) e refl h))

  pub whole_asked : program_file_code field (field_file_kind field) ≡ 0
      → program_file_code trim (trim_file_kind trim) ≡ 0
      → input_and_opening input (field_file_table field) (trim_file_table trim) ≡ whole_query_code field trim input
  unfolding whole_query_code
  whole_asked y z =
      sym (passed {A = ℕ} (program_file_code field (field_file_kind field)) _ (Ok 0) 0 refl (sym y)
      (passed {A = ℕ} (program_file_code trim (trim_file_kind trim)) _ (Ok 0) 0 refl (sym z) refl))

  abbrev whole_listing : List ℕ
  whole_listing = listing (input_query input) (field_file_table field) (trim_file_table trim)

  pub whole_listed : whole_query_code field trim input ≡ 0
      → listing (input_query input) (field_file_table field) (trim_file_table trim) ≡ whole_query field trim input
  unfolding whole_query or_refusal
  whole_listed z = sym (refusal_none (whole_query_code field trim input) whole_listing z)

  pub whole_refused : (e : Refusal) → number_of e ≡ whole_query_code field trim input
      → refusal_line (number_of e) ≡ whole_query field trim input
  unfolding whole_query or_refusal
  whole_refused e h =
      refused_as (number_of e) (whole_query_code field trim input) whole_listing h
      (λ z.
      let one : ◌≡◌ {A = ℕ} 1 (number_of e) = stopped {A = ℕ} 0 1 (Err e) e refl z in
      absurd (omega (arith, one, z)))

pub to_front : {w l m : List ℕ} {n : ℕ} → listing_room ≤ length l → Written w l m n →
    ((n ≤ listing_room) × (n ≡ length w)) × (m ≡ w ++ drop n l)
to_front {w} {l} {m} {n} h r =
    let size : length w ≤ length l = omega (arith, r.count, r.short) in
    ((r.short, r.count), r.front ∙ put_front w l size ∙ ap (λ (k : ℕ). w ++ drop k l) (sym r.count))
