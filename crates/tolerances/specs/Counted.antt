-- How the code counts a query's tolerances. Definitions only. Assumes nothing.
use Rattle.std.specs.Prelude.{List, ℕ, ◌+◌, ◌*◌, ◌-◌, ◌≤◌, ◌<◌, ℤ, pos, length, get_or}
use Rattle.rules.specs.declared.Meaning.{Meaning}
use Rattle.rules.specs.declared.Meaning.TheVariants.{Possibly, Surely}
use Rattle.rules.specs.declared.Query.{Query}
use Rattle.rules.specs.Tables.{gap, tolerance}
use Rattle.rules.specs.Calls.{most_tolerance}

-- both tolerances keep their range
abbrev pub TolerancesFit : Query → Type 0
TolerancesFit q = (q.tolerances.field.0 ≤ most_tolerance) × (q.tolerances.trim.0 ≤ most_tolerance)

-- what a gap is raised by where the farthest places count, and what it is lowered by where the nearest do
abbrev pub more_by : Meaning → ℕ → ℕ
more_by Surely t = t
more_by Possibly t = 0

abbrev pub less_by : Meaning → ℕ → ℕ
less_by Surely t = 0
less_by Possibly t = t

unfoldable pub more : Query → ℕ
more q = more_by q.meaning (tolerance q)

unfoldable pub less : Query → ℕ
less q = less_by q.meaning (tolerance q)

-- how far apart two numbers count as
abbrev pub counted : ℕ → ℕ → ℤ → ℤ → ℕ
counted more less x y = gap x y + more - less

-- how far apart two numbers may lie that count as no farther apart than the radius; where none may, 0
unfoldable pub reach : Query → ℕ
reach q = q.radius + less q - more q

-- how far apart two shades that qualify may lie, or more: what three coordinates are lowered by comes back
unfoldable pub wide : Query → ℕ
wide q = q.radius + 3 * less q

-- two shades lie farther apart than this in some coordinate
abbrev pub Beyond : ℕ → List ℤ → List ℤ → Type 0
Beyond reach x y =
    (k : ℕ) × (k < length x) × (k < length y) × (reach < gap (get_or x k (pos 0)) (get_or y k (pos 0)))
