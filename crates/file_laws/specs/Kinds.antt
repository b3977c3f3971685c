-- The coordinates of a kind's card: two or three. Assumes nothing.
use Rattle.std.specs.Prelude.{◌≡◌, Bool, true, false, cond, ℕ, ◌≤◌, List, leb, eqb, ℤ}
use Rattle.std.proofs.Common.{arith}
use Rattle.lists.specs.Bools.{and_left}
use Rattle.rules.specs.declared.Card.TheVariants.{Old, New}
use Rattle.rules.specs.Tables.{nat_of, coordinates, kind_card, kind_coordinates}
use Rattle.rules.specs.Calls.{between}
use Rattle.rules.specs.File.{file_kind, kind_fits, wanted, row_bytes}
use Rattle.file_laws.specs.Columns.{row_most}

card_most : (t : Bool) → coordinates (cond t Old New) ≤ 3
card_most true = omega arith
card_most false = omega arith

card_least : (t : Bool) → 2 ≤ coordinates (cond t Old New)
card_least true = omega arith
card_least false = omega arith

pub kind_most : (kind : ℕ) → kind_coordinates kind ≤ 3
unfolding kind_coordinates
kind_most kind = go (between 1 4 kind)
  where
    go : (t : Bool) → cond t (coordinates (kind_card kind)) 0 ≤ 3
    go true = card_most (leb kind 2)
    go false = omega arith

pub kind_least : (kind : ℕ) → between 1 4 kind ≡ true → 2 ≤ kind_coordinates kind
unfolding kind_coordinates
kind_least kind h = rw h (card_least (leb kind 2))

-- a header's kind that is the wanted one is a kind
pub fits_least : (bytes : List ℕ) (kind : ℤ) → kind_fits bytes kind ≡ true → 2 ≤ wanted kind
unfolding kind_fits
fits_least bytes kind h =
    kind_least (nat_of kind) (and_left (between 1 4 (nat_of kind)) (eqb (file_kind bytes) (nat_of kind)) h)

-- the rows of no kind are long
pub row_short : (kind : ℕ) → row_bytes (kind_coordinates kind) ≤ 36
row_short kind = omega (arith, row_most (kind_coordinates kind), kind_most kind)
