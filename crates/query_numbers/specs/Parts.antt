-- What is written of a pair by one loop: its numbers, or its roots. Assumes nothing.
use Rattle.std.specs.Prelude.{◌≡◌, refl, List, ℕ, length}
use Rattle.lists.specs.Lists.{each}
use Rattle.rules.specs.declared.Pair.{Pair}
use Rattle.rules.specs.declared.Query.{Query}
use Rattle.rules.specs.Query.{list}
use Rattle.query_numbers.specs.declared.Part.{Part}
use Rattle.query_numbers.specs.declared.Part.TheVariants.{Numbers, Roots}
use Rattle.query_numbers.specs.Answers.{pair_length, root_length, pair_numbers, root_numbers}
use Rattle.rules.specs.Tables.{Table}

abbrev pub part_length : Part → ℕ
part_length Numbers = pair_length
part_length Roots = root_length

unfoldable pub part_numbers : Part → Table → Table → Pair → List ℕ
part_numbers Numbers f t p = pair_numbers f t p
part_numbers Roots f t p = root_numbers f t p

pub part_length_lem : (part : Part) (f t : Table) (p : Pair) → length (part_numbers part f t p) ≡ part_length part
unfolding part_numbers pair_numbers root_numbers
part_length_lem Numbers f t p = refl
part_length_lem Roots f t p = refl

-- of every pair of the list
unfoldable pub list_parts : Part → Query → Table → Table → List ℕ
list_parts part q f t = each (part_numbers part f t) (list q f t)
