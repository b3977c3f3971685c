-- Reading a file, and what it comes to. Assumes nothing.
use mathlib.Core.Path.{◌≡◌, refl, sym, ap, ap₂, ◌∙◌}
use mathlib.Core.Bool.{Bool, true, false, ◌&&◌}
use mathlib.Core.List.{List, [], ◌∷◌}
use Prim.Native.Nat.{ℕ, ◌+◌, ◌*◌, ◌≤◌, ◌<◌}
use native.Mathlib.Nat.{mul-le-mul_left}
use native.Mathlib.Omega.{arith}
use lib.Dec.{leb, eqb}
use lib.IntN.{ℤ, pos}
use lib.ListN.{length, get_or, get_or-eq_default}
use borrow.Author.Tests.{le-ltb, ne_eqb, eq-eqb, eqb-true, eqb-false}
use Rattle.std.specs.List.{list_all}
use Rattle.lists.specs.Lists.{every}
use Rattle.lists.specs.Bools.{and_false}
use Rattle.rules.specs.Numbers.{Loaded}
use Rattle.std.proofs.Common.{Ok, Err}
use Rattle.rules.specs.Tables.{kind_coordinates, width}
use Rattle.rules.specs.File.{blank, columns, check_file, and_slice, load_answer}
use Rattle.rules.specs.Query.{peeked, program_kind, most_file_bytes}
use Rattle.program_sizes.specs.Sizes.{table_room, table_most}
use Rattle.program_file.specs.Given.{program_file, program_rows}

-- ---- Its rows

module _ (bytes : List ℕ) (kind : ℕ) (lent : List ℤ)
    (h : leb (length bytes) (most_file_bytes (kind_coordinates kind)) ≡ true) (long : table_room ≤ length lent) where
  checked : program_file bytes kind ≡ check_file bytes (pos kind)
  unfolding program_file
  checked = simp h

  -- there is room for the rows of every accepted file
  pub load_small : load_answer bytes (pos kind) lent ≡ program_file bytes kind
  unfolding load_answer and_slice
  load_small = go (check_file bytes (pos kind)) refl ∙ sym checked
    where
      w : ℕ
      w = width (kind_coordinates kind)

      go : (x : Loaded) → check_file bytes (pos kind) ≡ x →
          and_slice (kind_coordinates kind) (length lent) (check_file bytes (pos kind)) ≡ check_file bytes (pos kind)
      go (Err u) e = ap (and_slice (kind_coordinates kind) (length lent)) e ∙ sym e
      go (Ok n) e =
          let few = (program_rows bytes kind n (checked ∙ e)).1 in
          let fits : w * n ≤ length lent = omega (arith, mul-le-mul_left w few, table_most kind, long) in
          ap (and_slice (kind_coordinates kind) (length lent)) e ∙ rw (le-ltb (length lent) (w * n) fits) (sym e)

-- ---- The peek at its kind

blank_is : (b : ℕ) → eqb b blank ≡ eqb blank b
blank_is b = go (eqb b blank) refl
  where
    go : (t : Bool) → eqb b blank ≡ t → t ≡ eqb blank b
    go true e = sym (eq-eqb blank b (sym (eqb-true b blank e)))
    go false e = sym (ne_eqb blank b (λ z. eqb-false b blank e (sym z)))

blanks_are : (l : List ℕ) → list_all (λ b. eqb b blank) l ≡ every (eqb blank) l
unfolding every
blanks_are [] = refl
blanks_are (b ∷ l) = ap₂ (λ (x y : Bool). x && y) (blank_is b) (blanks_are l)

module _ (old new : ℕ) (l : List ℕ) where
  -- a file that is too short has no such digit
  pub kind_short : length l < 12 → old ≡ program_kind old new l
  unfolding program_kind
  kind_short h =
      let none : get_or l 11 0 ≡ 0 = get_or-eq_default l 0 {n = 11} (omega arith) in
      let other = ne_eqb (get_or l 11 0) (48 + new) (λ e. omega (arith, none, e)) in
      simp (other, and_false)

  -- what is looked at is the rules' peek
  looked : list_all (λ b. eqb b blank) (columns l 6 5) && eqb (get_or l 11 0) (48 + new) ≡ peeked new l
  looked = ap (λ (t : Bool). t && eqb (get_or l 11 0) (48 + new)) (blanks_are (columns l 6 5))

  pub kind_new : list_all (λ b. eqb b blank) (columns l 6 5) && eqb (get_or l 11 0) (48 + new) ≡ true
      → new ≡ program_kind old new l
  unfolding program_kind
  kind_new h = rw (sym looked ∙ h)

  pub kind_old : list_all (λ b. eqb b blank) (columns l 6 5) && eqb (get_or l 11 0) (48 + new) ≡ false
      → old ≡ program_kind old new l
  unfolding program_kind
  kind_old h = rw (sym looked ∙ h)

-- the steps of the peek
pub ruleset peek_steps = (kind_short, kind_new, kind_old)
