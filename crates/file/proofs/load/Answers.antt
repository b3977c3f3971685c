-- `load` meets its contract: the whole file is checked before a number is written. Assumes nothing.
use Rattle.std.proofs.Common.{◌≡◌, sym, ap, ap₂, subst, ◌∙◌, List, ◌++◌, ℕ, ◌≤◌, ℤ, length, arith}
use mir.Facts.{to_z-of_z}
use borrow.Author.Rules.{rules}
use Rattle.rules.specs.Numbers.{Loaded}
use Rattle.rules.specs.Tables.{table, HasRows, after_rows, most_rows}
use Rattle.rules.specs.File.{row_start, file_table, wanted, check_file, and_slice}
use Rattle.file_laws.specs.Accepted.{accepted}
use Rattle.file.specs.Put.{RowsFit}
use Rattle.file.proofs.Ends.{unfit_load, whole_load, read_passed}
use Rattle.file.proofs.load.Goals as goal
use Rattle.file.proofs.load.Goals.{After-and_room}

-- what the writing of m rows of n coordinates asks
abbrev Asked : List ℕ → List ℤ → ℕ → ℕ → Type 0
Asked bytes out m n =
    ((m ≤ most_rows) × (row_start n m ≤ length bytes) × HasRows (table n out) m) × RowsFit n bytes m

-- the coordinates of the kind that is handed in, and what is answered
few : (c : After-and_room) → c.kind_coordinates-n.result ≡ wanted c.args.kind
few c = c.kind_coordinates-n.ensures ∙ ap wanted (to_z-of_z c.ranges.kind)

answered : (c : After-and_room) → c.and_room.result
    ≡ and_slice (wanted c.args.kind) (length c.args.out.now) (check_file c.args.bytes.now c.args.kind)
answered c =
    let checked = simp (to_z-of_z c.ranges.kind) at c.check.ensures in
    c.and_room.ensures ∙ ap₂ (λ (n : ℕ) (x : Loaded). and_slice n (length c.args.out.now) x) (few c) checked

pub returns-in_err-count : goal.returns-in_err-count
returns-in_err-count c =
    let s = c.args in
    let e = sym c.in_err-count.was ∙ answered (goal.at.returns-in_err-count c).After-and_room in
    let w = unfit_load s.bytes.now s.kind s.out.now c.in_err-count.field-0.0 e in
    record { value = search (rules, w.0); out_after = w.1 }

pub put_rows-requires : goal.put_rows-requires
unfolding file_table
put_rows-requires c =
    let s = c.args in
    let at = (goal.at.put_rows-requires c).After-and_room in
    let m = c.in_ok-count.count in
    let p = read_passed s.bytes.now s.kind s.out.now m (sym c.in_ok-count.was ∙ answered at) in
    let f = accepted s.bytes.now s.kind m p.0 in
    let all : Asked s.bytes.now s.out.now m c.kind_coordinates-n.result =
    subst (Asked s.bytes.now s.out.now m) (sym (few at))
    ((f.few, omega (arith, f.size), p.1), λ i h. (f.rows i h).columns) in
    record { count_le_most_rows = all.0; rows_fit = all.1 }

pub returns : goal.returns
returns c =
    let s = c.args in
    let at = (goal.at.returns c).After-and_room in
    let m = c.in_ok-count.count in
    let written : ℕ → List ℤ =
    λ n. (file_table n s.bytes.now m).numbers ++ (after_rows m (table n s.out.now)).numbers in
    let w = whole_load s.bytes.now s.kind s.out.now m (sym c.in_ok-count.was ∙ answered at) in
    record { value = w.0; out_after = c.put_rows.ensures ∙ ap written (few at) ∙ w.1 }
