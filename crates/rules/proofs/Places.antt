-- A session's record has 64 pair places: that is its array's type. Assumes nothing.
use mathlib.Core.Path.{◌≡◌}
use mathlib.Core.List.{List}
use lib.ListN.{length}
use mir.Val.{Val}
use denote.Laws.{Is}
use denote.Struct.Declared.{row}
use Rattle.rules.specs.declared.Session.{Session}
use Rattle.rules.specs.Session.{place_count}
use Rattle.rules.specs.contracts.Session.{the_type}

-- of a record that stands in memory, as `.good` of a call's start has it
pub pairs_long : (s : Session) (v : List Val) → Is (row the_type) s v → length s.pairs ≡ place_count
pairs_long s v good =
    let fields = good.1.1 in
    let counts = fields.1.1.1 in
    let pairs = counts.1.1.1.0 in
    pairs.1.0.1
