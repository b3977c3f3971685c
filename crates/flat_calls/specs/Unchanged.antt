-- A refused call changes no lent number; the record that stands in the slice after a call is the call's; and show's
-- three numbers name the rows that the rules' show returns. Assumes nothing.
use Rattle.std.specs.Prelude.{◌≡◌, Bool, List, [], ◌∷◌, ℕ, ◌+◌, ◌-◌, eqb, ℤ, length, get_or, drop}
use Rattle.std.proofs.Math.Path.{refl, sym}
use Rattle.std.proofs.Common.{ap, arith}
use Rattle.std.proofs.Math.Bool.{true, false, cond}
use Rattle.lists.specs.Bools.{clash}
use Rattle.rules.specs.declared.Answer.{Answer}
use Rattle.rules.specs.declared.Answer.TheVariants.{Refused, Opened, Read, Settled, Given, NotYet, Finished}
use Rattle.rules.specs.declared.Session.{Session}
use Rattle.rules.specs.declared.Step.{Step}
use Rattle.rules.specs.Numbers.{said}
use Rattle.rules.specs.Tables.{Table, part}
use Rattle.rules.specs.Session.{place_count}
use Rattle.rules.specs.Take.{last_block, shown_rows}
use Rattle.rules.specs.Query.{was_given}
use Rattle.rules.specs.Calls.{lent_code, show_call}
use Rattle.record_layout.specs.Flat.{flat_size, laid_in, unflatten}
use Rattle.record_layout.specs.RoundTrip.{back}
use Rattle.flat_calls.specs.Calls.{is_new, left_in, written_in, block_numbers, shown_numbers}

module _ (l : List ℕ) (s : Step) where
  pub new_left : is_new s.answer ≡ true → left_in l s ≡ laid_in l s.session
  unfolding left_in
  new_left e = rw e

  -- of every call: refused, its record's slice stands as it was
  pub refused_left : (said s.answer).accepted ≡ false → left_in l s ≡ l
  unfolding left_in
  refused_left e = go s.answer e
    where
      go : (a : Answer) → (said a).accepted ≡ false → cond (is_new a) (laid_in l s.session) l ≡ l
      go (Refused n) e = refl
      go Opened e = clash refl e
      go Read e = clash refl e
      go Settled e = refl
      go (Given p) e = clash refl e
      go NotYet e = refl
      go Finished e = refl

  -- after a call that comes with another record, or gives back the one lent, its record stands in the slice
  pub record_left : length s.session.pairs ≡ place_count → (is_new s.answer ≡ false → s.session ≡ unflatten l)
      → unflatten (left_in l s) ≡ s.session
  unfolding left_in
  record_left full same = go (is_new s.answer) refl
    where
      go : (b : Bool) → is_new s.answer ≡ b → unflatten (cond b (laid_in l s.session) l) ≡ s.session
      go true e = back s.session (drop flat_size l) full
      go false e = sym (same e)

-- an answer that brings out no pair has no values to write
pub nothing_written : (l : List ℕ) (a : Answer) → was_given a ≡ false → written_in l (said a) ≡ l
nothing_written l (Refused n) e = refl
nothing_written l Opened e = refl
nothing_written l Read e = refl
nothing_written l Settled e = refl
nothing_written l (Given p) e = clash refl e
nothing_written l NotYet e = refl
nothing_written l Finished e = refl

-- what show's three numbers name: rows first to first + count - 1 of the table
unfoldable pub named_rows : Table → Table → List ℕ → List ℤ
named_rows f t three =
    let table = get_or three 0 0 in
    let first = get_or three 1 0 - 1 in
    let count = get_or three 2 0 in
    cond (eqb table 1) (part f first count).numbers (cond (eqb table 2) (part t first count).numbers [])

less_one : (n : ℕ) → n + 1 - 1 ≡ n
less_one n = omega arith

pub shown_named : (f t : Table) (s : Session) → named_rows f t (shown_numbers f t s) ≡ show_call f t s
unfolding named_rows shown_numbers show_call shown_rows
shown_named f t s = go (eqb (lent_code f t s) 0) (eqb s.last 1) (eqb s.last 2)
  where
    d : ℕ
    d = s.depth.field.0

    e : ℕ
    e = s.depth.trim.0

    b : ℕ
    b = s.query.block

    none : List ℕ
    none = 0 ∷ 0 ∷ 0 ∷ []

    go : (x y z : Bool)
        → named_rows f t (cond x (cond y (block_numbers 1 b d) (cond z (block_numbers 2 b e) none)) none)
        ≡ cond x
        (cond y (part f (last_block b d) (d - last_block b d)).numbers
        (cond z (part t (last_block b e) (e - last_block b e)).numbers []))
        []
    go false y z = refl
    go true true z = ap (λ (a : ℕ). (part f a (d - last_block b d)).numbers) (less_one (last_block b d))
    go true false true = ap (λ (a : ℕ). (part t a (e - last_block b e)).numbers) (less_one (last_block b e))
    go true false false = refl
