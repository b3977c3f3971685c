-- `put_whole` meets its contract: the checks in the rules' order, then the listing. Assumes nothing.
use mathlib.Core.Path.{◌≡◌, ap, subst, subst₂, ◌∙◌}
use Rattle.std.specs.Prelude.{Ok}
use mathlib.Core.List.{List}
use Prim.Native.Nat.{ℕ}
use native.Mathlib.Omega.{arith}
use lib.IntN.{ℤ}
use lib.ListN.{length, length-replicate}
use Rattle.rules.specs.declared.Kinds.{Kinds}
use Rattle.rules.specs.Numbers.{Loaded}
use Rattle.rules.specs.File.{loaded_into}
use Rattle.rules.specs.Query.{table_of, field_file_kind, trim_file_kind, field_file_table, trim_file_table, listing}
use Rattle.rules.specs.Query.{input_query}
use Rattle.rules.specs.Tables.{table, kind_coordinates, field_table, trim_table, first_rows}
use Rattle.program_sizes.specs.Sizes.{table_room}
use Rattle.program_file.specs.Given.{program_file}
use Rattle.program.specs.Program.{Gives, input_and_opening}
use Rattle.program.proofs.Steps.{table_front, table_there, file_rows, kind_few, field_own, trim_own, refuses}
use Rattle.program.proofs.Steps.{load_refused, load_passed, field_refused, trim_refused, whole_asked}
use borrow.Author.Rules.{rules}
use Rattle.program.proofs.put_whole.Goals as goal

-- the rows are the files' tables
module _ (bytes : List ℕ) (kinds : Kinds) (l lent out : List ℤ) (x : Loaded) (n : ℕ) (en : x ≡ Ok n) where
  field_rows : kinds.field.0 ≡ field_file_kind bytes → x ≡ program_file bytes kinds.field.0 →
      out ≡ loaded_into (kind_coordinates kinds.field.0) bytes lent x →
      l ≡ (first_rows n (table (kind_coordinates kinds.field.0) out)).numbers →
      field_table kinds l ≡ table_of (field_file_kind bytes) bytes
  field_rows k ex i e =
      field_own bytes kinds l k
      ∙ file_rows bytes kinds.field.0 n l out e (table_front bytes kinds.field.0 lent out x n ex en i)
      ∙ ap (λ c. table_of c bytes) k

  trim_rows : kinds.trim.0 ≡ trim_file_kind bytes → x ≡ program_file bytes kinds.trim.0 →
      out ≡ loaded_into (kind_coordinates kinds.trim.0) bytes lent x →
      l ≡ (first_rows n (table (kind_coordinates kinds.trim.0) out)).numbers →
      trim_table kinds l ≡ table_of (trim_file_kind bytes) bytes
  trim_rows k ex i e =
      trim_own bytes kinds l k
      ∙ file_rows bytes kinds.trim.0 n l out e (table_front bytes kinds.trim.0 lent out x n ex en i)
      ∙ ap (λ c. table_of c bytes) k

pub load_table-requires : goal.load_table-requires
load_table-requires c =
    let few = kind_few 1 3 c.args.field.now (omega arith) (omega arith) in
    (omega (arith, c.file_kind-of_field.ensures), search rules)

pub returns-in_err-m : goal.returns-in_err-m
returns-in_err-m c =
    let s = c.args in
    let e = c.in_err-m.field-0.0 in
    let loaded = c.load_table.ensures.value ∙ ap (program_file s.field.now) c.file_kind-of_field.ensures in
    refuses _ _ _ e.refusal c.from_residual.result c.from_residual.ensures.1
    (field_refused s.field.now s.trim.now s.input.now e.refusal
    (load_refused s.field.now (field_file_kind s.field.now) c.load_table.result loaded e c.in_err-m.was))

pub load_table-requires-2 : goal.load_table-requires-2
load_table-requires-2 c =
    let few = kind_few 2 4 c.args.trim.now (omega arith) (omega arith) in
    (omega (arith, c.file_kind-of_trim.ensures), search rules)

pub returns-in_err-n : goal.returns-in_err-n
returns-in_err-n c =
    let s = c.args in
    let e = c.in_err-n.field-0.0 in
    let loaded = c.load_table.ensures.value ∙ ap (program_file s.field.now) c.file_kind-of_field.ensures in
    let loaded2 = c.load_table-2.ensures.value ∙ ap (program_file s.trim.now) c.file_kind-of_trim.ensures in
    refuses _ _ _ e.refusal c.from_residual-in_err-n.result c.from_residual-in_err-n.ensures.1
    (trim_refused s.field.now s.trim.now s.input.now e.refusal
    (load_passed s.field.now (field_file_kind s.field.now) c.load_table.result loaded c.in_ok-m.m c.in_ok-m.was)
    (load_refused s.trim.now (trim_file_kind s.trim.now) c.load_table-2.result loaded2 e c.in_err-n.was))

pub rows_of-fields-requires : goal.rows_of-fields-requires
rows_of-fields-requires c =
    let x = c.load_table in
    let size : length x.new.out ≡ table_room = x.auto.out ∙ simp length-replicate in
    table_there c.args.field.now c.file_kind-of_field.result x.new.out x.result c.in_ok-m.m x.ensures.value
    c.in_ok-m.was size

pub rows_of-trims-requires : goal.rows_of-trims-requires
rows_of-trims-requires c =
    let y = c.load_table-2 in
    let size : length y.new.out ≡ table_room = y.auto.out ∙ simp length-replicate in
    table_there c.args.trim.now c.file_kind-of_trim.result y.new.out y.result c.in_ok-n.n y.ensures.value
    c.in_ok-n.was size

pub returns : goal.returns
returns c =
    let s = c.args in
    let a = c.load_table in
    let b = c.load_table-2 in
    let of_field = c.file_kind-of_field in
    let of_trim = c.file_kind-of_trim in
    let loaded = a.ensures.value ∙ ap (program_file s.field.now) of_field.ensures in
    let loaded2 = b.ensures.value ∙ ap (program_file s.trim.now) of_trim.ensures in
    let kinds : Kinds = record { field = record { 0 = of_field.result }; trim = record { 0 = of_trim.result } } in
    let f =
    field_rows s.field.now kinds c.rows_of-fields.result.now _ a.new.out a.result c.in_ok-m.m c.in_ok-m.was
    of_field.ensures
    a.ensures.value a.ensures.out_after c.rows_of-fields.ensures in
    let t =
    trim_rows s.trim.now kinds c.rows_of-trims.result.now _ b.new.out b.result c.in_ok-n.n c.in_ok-n.was
    of_trim.ensures
    b.ensures.value b.ensures.out_after c.rows_of-trims.ensures in
    let tables =
    subst₂ (λ x y. Gives (input_and_opening s.input.now x y) (listing (input_query s.input.now) x y) s.out.now
    c.put_asked.new.out c.put_asked.result) f t c.put_asked.ensures in
    subst (λ n. Gives n (listing (input_query s.input.now) (field_file_table s.field.now) (trim_file_table s.trim.now))
    s.out.now c.put_asked.new.out c.put_asked.result)
    (whole_asked s.field.now s.trim.now s.input.now
    (load_passed s.field.now (field_file_kind s.field.now) a.result loaded c.in_ok-m.m c.in_ok-m.was)
    (load_passed s.trim.now (trim_file_kind s.trim.now) b.result loaded2 c.in_ok-n.n c.in_ok-n.was))
    tables
