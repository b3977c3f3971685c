-- `load_table` meets its contract. Assumes nothing.
use Rattle.std.proofs.Common.{◌≡◌, refl, sym, ap, ◌∙◌, leb, ℤ, pos, length, arith, le-leb, to_z}
use Rattle.std.proofs.lemmas.Bool.{lt-leb}
use mir.Syntax.{w32}
use mir.Facts.{to_z_pos}
use Rattle.rules.specs.Tables.{kind_coordinates}
use Rattle.rules.specs.File.{wanted, load_answer, load_numbers, loaded_into}
use Rattle.rules.specs.Query.{most_file_bytes}
use Rattle.program_file.specs.Given.{program_file}
use Rattle.program_file.proofs.Steps.{load_small}
use Rattle.program_file.proofs.load_table.Goals as goal
use Rattle.program_file.proofs.load_table.Goals.{After-most_bytes}

-- the kind that is handed in, and the bytes of its longest file
kind_is : (c : After-most_bytes) → to_z w32 c.args.kind ≡ pos c.args.kind
kind_is c = to_z_pos w32 {n = c.args.kind} (omega (arith, c.requires.0))

most_is : (c : After-most_bytes) → c.most_bytes.result ≡ most_file_bytes (kind_coordinates c.args.kind)
most_is c = c.most_bytes.ensures ∙ ap (λ (z : ℤ). most_file_bytes (wanted z)) (kind_is c)

pub returns-then-most_bytes-bytes : goal.returns-then-most_bytes-bytes
unfolding program_file loaded_into
returns-then-most_bytes-bytes c =
    let size = length c.args.bytes.now in
    let long = lt-leb size c.most_bytes.result c.if-most_bytes-bytes.true in
    let most = most_is (goal.at.returns-then-most_bytes-bytes c).After-most_bytes in
    record { value = simp (ap (leb size) (sym most) ∙ long); out_after = refl }

pub returns : goal.returns
unfolding load_numbers
returns c =
    let s = c.args in
    let bytes = s.bytes.now in
    let kind = s.kind in
    let lent = s.out.now in
    let load = c.load in
    let at = (goal.at.returns c).After-most_bytes in
    let short = le-leb (length bytes) c.most_bytes.result c.if-most_bytes-bytes.false in
    let small = ap (leb (length bytes)) (sym (most_is at)) ∙ short in
    let e : load.result ≡ load_answer bytes (pos kind) lent =
    load.ensures.value ∙ ap (λ (z : ℤ). load_answer bytes z lent) (kind_is at) in
    let i : load.new.out ≡ load_numbers bytes (pos kind) lent =
    load.ensures.out_after ∙ ap (λ (z : ℤ). load_numbers bytes z lent) (kind_is at) in
    record {
      value = e ∙ load_small bytes kind lent small c.requires.1;
      out_after = i ∙ ap (loaded_into (kind_coordinates kind) bytes lent) (sym e);
    }
