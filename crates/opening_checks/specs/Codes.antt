-- What two tables are refused by at opening. Assumes nothing.
use Rattle.std.specs.Prelude.{◌≡◌, refl, false, [], ◌∷◌, ℕ, eqb, Result, Err}
use Rattle.std.proofs.Common.{◌∙◌, sym, ap, arith}
use Rattle.rules.specs.declared.Answer.TheVariants.{Refused}
use Rattle.rules.specs.declared.Query.{Query}
use Rattle.rules.specs.declared.Refusal.{Refusal}
use Rattle.rules.specs.Tables.{Table, size_fits}
use Rattle.rules.specs.Numbers.{wrong_kind, table_size, other_card, unless, first, code, refused}
use Rattle.rules.specs.Calls.{is_card, query_code, kind_code, size_code, cards_code, open_code}
use Rattle.codes.specs.Steps.{passed, stopped}

unfoldable pub tables_code : Table → Table → ℕ
tables_code f t = first (kind_code f ∷ kind_code t ∷ size_code f ∷ size_code t ∷ cards_code f t ∷ [])

-- it stands behind the query's number
pub open_is : (q : Query) (f t : Table) → open_code q f t ≡ first (query_code q ∷ tables_code f t ∷ [])
unfolding tables_code open_code
open_is q f t = refl

-- each check is one test
pub kind_is : (t : Table) → kind_code t ≡ unless (is_card t.coordinates) wrong_kind
unfolding kind_code
kind_is t = refl

pub size_is : (t : Table) → size_code t ≡ unless (size_fits t) table_size
unfolding size_code
size_is t = refl

pub cards_is : (f t : Table) → cards_code f t ≡ unless (eqb f.coordinates t.coordinates) other_card
unfolding cards_code
cards_is f t = refl

pub ruleset steps = (passed, stopped, kind_is, size_is, cards_is, open_is)
