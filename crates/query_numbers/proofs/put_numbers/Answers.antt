-- `put_numbers` meets its contract. Assumes nothing.
use mathlib.Core.Path.{◌∙◌}
use native.Mathlib.Omega.{arith}
use lib.ListN.{length}
use borrow.Author.Tests.{le-leb, lt-leb}
use Rattle.rules.specs.Tables.{table}
use Rattle.query_numbers.specs.Answers.{roots_room, head_numbers}
use Rattle.query_numbers.proofs.Steps.{put_over, answered_roots, answered_numbers}
use Rattle.query_numbers.proofs.put_numbers.Goals as goal

pub returns-then-out-ge-ROOTS_ROOM : goal.returns-then-out-ge-ROOTS_ROOM
returns-then-out-ge-ROOTS_ROOM c =
    let s = c.args in
    let head =
    put_over 0 3 s.out.now _ (head_numbers s.run.session)
    (c.copy_from_slice.ensures.after ∙ simp (c.from.ensures, c.from-2.ensures)) (omega arith) (omega arith) in
    answered_roots (table s.n s.f.now) (table s.n s.t.now) s.run s.out.now _ c.put_parts.new.out c.requires.1 head
    c.put_parts.ensures c.put_parts-then-out-ge-ROOTS_ROOM.new.out (le-leb roots_room (length s.out.now) (omega arith))
    c.put_parts-then-out-ge-ROOTS_ROOM.ensures

pub returns-else-out-ge-ROOTS_ROOM : goal.returns-else-out-ge-ROOTS_ROOM
returns-else-out-ge-ROOTS_ROOM c =
    let s = c.args in
    let head =
    put_over 0 3 s.out.now _ (head_numbers s.run.session)
    (c.copy_from_slice.ensures.after ∙ simp (c.from.ensures, c.from-2.ensures)) (omega arith) (omega arith) in
    answered_numbers (table s.n s.f.now) (table s.n s.t.now) s.run s.out.now _ c.put_parts.new.out c.requires.1 head
    c.put_parts.ensures (lt-leb roots_room (length s.out.now) (omega arith))
