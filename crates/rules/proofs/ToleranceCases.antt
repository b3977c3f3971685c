-- Tolerances, run on small numbers. Assumes nothing.
use Rattle.std.specs.Prelude.{ℕ, ◌≡◌, refl, Bool, true, false, List, [], ◌∷◌, map, ℤ, pos, negsuc}
use Rattle.rules.specs.declared.Answer.{Answer}
use Rattle.rules.specs.declared.Meaning.{Meaning}
use Rattle.rules.specs.declared.Meaning.TheVariants.{Possibly, Surely}
use Rattle.rules.specs.declared.Query.{Query}
use Rattle.rules.specs.declared.Session.{Session}
use Rattle.rules.specs.Tables.{Table, table, old_table, qualifies}
use Rattle.rules.specs.Session.{tolerances}
use Rattle.rules.specs.Numbers.{said}
use Rattle.rules.specs.Calls.{query_code, record_code, open_code, open_call, read_call, take_call}
use Rattle.rules.specs.Query.{settled_session, list}
use Rattle.rules.specs.Run.{run}
use Rattle.rules.proofs.Example.{query, after_reads}
use Rattle.rules.proofs.Small.{asked, weighing, with_query}

-- a query with these tolerances, and this made of them
abbrev pub faded : ℕ → ℕ → Meaning → Query → Query
faded u v m q =
    record {
      k = q.k;
      block = q.block;
      radius = q.radius;
      weights = q.weights;
      tolerances = tolerances u v;
      meaning = m;
    }

-- ---- Two shades, 3 and 4 apart: at most 5 and 6 at tolerances 1 and 1, at least 1 and 2

abbrev near : ℕ → ℕ → Meaning → ℕ → Bool
near u v m radius = qualifies (faded u v m (asked 1 1 radius)) (pos 0 ∷ pos 0 ∷ []) (pos 3 ∷ negsuc 3 ∷ [])

pub surely_farthest : near 1 1 Surely 8 ∷ near 1 1 Surely 7 ∷ [] ≡ true ∷ false ∷ []
unfolding run
surely_farthest = refl

pub possibly_nearest : near 1 1 Possibly 3 ∷ near 1 1 Possibly 2 ∷ [] ≡ true ∷ false ∷ []
unfolding run
possibly_nearest = refl

-- both tolerances count, and neither alone is enough
pub both_tolerances :
    near 4 0 Possibly 0 ∷ near 0 4 Possibly 0 ∷ near 3 1 Possibly 0 ∷ near 3 0 Possibly 0 ∷ near 0 3 Possibly 0 ∷ []
    ≡ true ∷ true ∷ true ∷ false ∷ false ∷ []
unfolding run
both_tolerances = refl

-- "max(0, d - t)": a coordinate that differs by less than t differs by 0
pub not_below_zero : near 4 0 Possibly 0 ∷ near 5 0 Possibly 0 ∷ near 500 500 Possibly 0 ∷ [] ≡ true ∷ true ∷ true ∷ []
unfolding run
not_below_zero = refl

-- ---- 16: 0 to 500 each, after the weights, before the kinds

abbrev codes : List ℕ
codes =
    query_code (faded 500 500 Surely (asked 2 1 5))
    ∷ query_code (faded 501 0 Possibly (asked 2 1 5))
    ∷ query_code (faded 0 501 Surely (asked 2 1 5))
    ∷ query_code (faded 501 501 Surely (weighing 0 1 (asked 2 1 5)))
    ∷ open_code (faded 501 0 Surely (asked 2 1 5)) (table 0 []) (table 0 [])
    ∷ open_code (faded 500 0 Surely (asked 2 1 5)) (table 0 []) (table 0 [])
    ∷ []

pub tolerances_in_order : codes ≡ 0 ∷ 16 ∷ 16 ∷ 12 ∷ 16 ∷ 10 ∷ []
unfolding run
tolerances_in_order = refl

-- ---- Surely at tolerances 2 and 3 and radius 8: 50 ≤ 64 < 75, so that nothing can qualify on the new card

abbrev hard : Query
hard = faded 2 3 Surely (asked 1 1 8)

abbrev old_row : Table
old_row = old_table (pos 1 ∷ pos 9 ∷ pos 0 ∷ pos 0 ∷ [])

abbrev new_row : Table
new_row = table 3 (pos 1 ∷ pos 9 ∷ pos 0 ∷ pos 0 ∷ pos 0 ∷ [])

-- how many rows are read of each table, and the sums of the list
abbrev ends : Query → Table → List (List ℕ)
ends q t =
    let s = settled_session q t t in
    (s.depth.field.0 ∷ s.depth.trim.0 ∷ []) ∷ map (λ p. p.sum) (list q t t) ∷ []

pub settled_by_card :
    ends hard old_row ∷ ends hard new_row ∷ ends (faded 2 3 Possibly (asked 1 1 8)) new_row ∷ []
    ≡ ((1 ∷ 1 ∷ []) ∷ (18 ∷ []) ∷ [])
    ∷ ((0 ∷ 0 ∷ []) ∷ [] ∷ [])
    ∷ ((1 ∷ 1 ∷ []) ∷ (18 ∷ []) ∷ [])
    ∷ []
unfolding run
settled_by_card = refl

-- at once: the read that follows the opening answers settled, the take finished
abbrev opening : Session
opening = (open_call hard new_row new_row).session

abbrev number : Answer → ℕ
number a = (said a).number

pub settled_at_opening :
    number (read_call new_row new_row opening).answer ∷ number (take_call new_row new_row opening).answer ∷ [] ≡ 1 ∷ 4
    ∷ []
unfolding run
settled_at_opening = refl

-- ---- 5: a record of such a query with rows read, and tolerances outside

abbrev recorded : Query → ℕ → ℕ
recorded q n = record_code (with_query q (after_reads n))

pub rows_read_refused :
    recorded (faded 3 1 Surely query) 0
    ∷ recorded (faded 3 1 Surely query) 1
    ∷ recorded (faded 3 0 Surely query) 1
    ∷ recorded (faded 3 1 Possibly query) 1
    ∷ recorded (faded 501 0 Possibly query) 0
    ∷ recorded (faded 0 501 Possibly query) 0
    ∷ [] ≡ 0 ∷ 5 ∷ 0 ∷ 0 ∷ 5 ∷ 5 ∷ []
unfolding run after_reads
rows_read_refused = refl

-- ---- Gaps of blocks are lowered by the tolerances, by either meaning: how many block pairs are joined

abbrev joined : Meaning → ℤ → ℕ
joined m a =
    (settled_session (faded 1 1 m (asked 1 2 5)) old_row (old_table (pos 1 ∷ pos 9 ∷ a ∷ pos 0 ∷ []))).joined

pub gaps_lowered :
    map (joined Surely) (pos 7 ∷ pos 8 ∷ []) ∷ map (joined Possibly) (pos 7 ∷ pos 8 ∷ []) ∷ []
    ≡ (1 ∷ 0 ∷ []) ∷ (1 ∷ 0 ∷ []) ∷ []
unfolding run
gaps_lowered = refl
