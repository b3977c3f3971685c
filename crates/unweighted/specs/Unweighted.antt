-- The rules without weights: what a row adds to a sum is its score, and the largest held sum is 19,998. Definitions
-- only. Assumes nothing.
use Rattle.std.specs.Prelude.{ℕ, ◌+◌, Bool, cond, List, [], ◌∷◌, leb}
use Rattle.lists.specs.Lists.{every}
use Rattle.rules.specs.declared.Pair.{Pair}
use Rattle.rules.specs.declared.Query.{Query}
use Rattle.rules.specs.declared.Session.{Session}
use Rattle.rules.specs.declared.Step.{Step}
use Rattle.rules.specs.Numbers.{refused}
use Rattle.rules.specs.Tables.{Table, unweighted}
use Rattle.rules.specs.Session.{lent_table, held_pairs}
use Rattle.rules.specs.Numbers.{bad_record}
use Rattle.rules.specs.Calls.{step, open_call, read_call_by, take_call_by}
use Rattle.rules.specs.Query.{read_until_settled_by, take_until_finished_by}
use Rattle.demand.specs.Demand.{Call, reading, taking, Line}

-- "a held sum is outside 0 to 19,998"
abbrev pub most_low_sum : ℕ
most_low_sum = 19998

abbrev pub is_low : Pair → Bool
is_low p = leb p.sum most_low_sum

unfoldable pub low_sums : Session → Bool
low_sums s = every is_low (held_pairs s)

-- such a sum is one more ground of 5, which is asked before anything else
abbrev pub unless_high : Session → Step → Step
unless_high s r = cond (low_sums s) r (step (refused bad_record) s)

-- read and take
unfoldable pub read_unweighted : Table → Table → Session → Step
read_unweighted f t s = unless_high s (read_call_by unweighted f t s)

unfoldable pub take_unweighted : Table → Table → Session → Step
take_unweighted f t s = unless_high s (take_call_by unweighted f t s)

abbrev pub call_unweighted : Call → Table → Table → Session → Step
call_unweighted reading f t s = read_unweighted f t s
call_unweighted taking f t s = take_unweighted f t s

-- what they give of a sequence of calls, each step going on from the record that they gave last
abbrev pub by_unweighted : Session → List Line → List Step
by_unweighted s [] = []
by_unweighted s (l ∷ lines) =
    let gave = call_unweighted l.call (lent_table s l.field) (lent_table s l.trim) s in
    gave ∷ by_unweighted gave.session lines

-- one whole query: the record when it is settled, and the list
unfoldable pub settled_unweighted : Query → Table → Table → Session
settled_unweighted q f t =
    let s = (open_call q f t).session in
    read_until_settled_by (read_unweighted f t) (s.rows.field.0 + s.rows.trim.0 + 1) s

unfoldable pub list_unweighted : Query → Table → Table → List Pair
list_unweighted q f t = take_until_finished_by (take_unweighted f t) (q.k + 1) (settled_unweighted q f t)
