-- `check_rows` meets its contract: the rows passed are accepted, and the first that is not decides. Assumes nothing.
use Rattle.std.proofs.Common.{◌≡◌, refl, sym, ap, ◌∙◌, Some, to_z, of_z}
use mir.Syntax.{w32}
use borrow.Author.Rules.{rules}
use Rattle.rules.specs.File.{file_table, rows_loaded}
use Rattle.file_rows.proofs.Rows.{checked_is, score_is, one_more, refused}
use Rattle.file_rows.proofs.check_rows.Goals as goal

pub loop-i-init : goal.loop-i-init
unfolding rows_loaded
loop-i-init c = record { so_far = refl; before = refl }

pub returns-in-Err : goal.returns-in-Err
returns-in-Err c =
    let s = c.args in
    let l = c.loop-i in
    let e = c.in-Err.refusal in
    let k = checked_is s.n s.bytes.now s.count l.i c.loop-i-test.true c.row_bytes-size.result c.row_bytes-size.ensures
    _ l.before l.invariant.before c.in-Err.ensures.number in
    refused s.bytes.now (file_table s.n s.bytes.now s.count) l.i l.invariant.so_far e k s.count c.loop-i-test.true

pub loop-i-preserved : goal.loop-i-preserved
loop-i-preserved c =
    let s = c.args in
    let l = c.loop-i in
    let z = c.in-Ok.score in
    let size = c.row_bytes-size in
    let k = checked_is s.n s.bytes.now s.count l.i c.loop-i-test.true size.result size.ensures _ l.before
    l.invariant.before c.in-Ok.ensures.number in
    let told : to_z w32 (of_z w32 z) ≡ z = search rules in
    record {
      so_far = one_more s.bytes.now (file_table s.n s.bytes.now s.count) l.i l.invariant.so_far (sym k);
      before = ap Some told
          ∙ score_is s.n s.bytes.now s.count l.i c.loop-i-test.true size.result size.ensures z
          (c.in-Ok.ensures.score z refl);
    }
