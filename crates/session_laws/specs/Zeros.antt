-- "the zeros of a refused one are refused by 5 in every read and take". Assumes nothing.
use Rattle.std.specs.Prelude.{◌≡◌, refl, false, eqb}
use Rattle.rules.specs.declared.Query.{Query}
use Rattle.rules.specs.Numbers.{refused}
use Rattle.rules.specs.Session.{opened, zeros}
use Rattle.rules.specs.Numbers.{bad_record}
use Rattle.rules.specs.Calls.{query_code, record_fits, record_code, lent_code, call_code, step, open_code, open_call}
use Rattle.rules.specs.Calls.{read_call_by, read_call, take_call_by, take_call}
use Rattle.rules.specs.Tables.{Table}

pub zeros_read : (f t : Table) → read_call f t zeros ≡ step (refused bad_record) zeros
unfolding read_call_by call_code lent_code record_code record_fits query_code zeros opened
zeros_read f t = refl

pub zeros_take : (f t : Table) → take_call f t zeros ≡ step (refused bad_record) zeros
unfolding take_call_by call_code lent_code record_code record_fits query_code zeros opened
zeros_take f t = refl

-- and a refused opening gives them
pub refused_zeros : (q : Query) (f t : Table) → eqb (open_code q f t) 0 ≡ false → (open_call q f t).session ≡ zeros
unfolding open_call
refused_zeros q f t h = rw h
