-- How many bytes the line of a refusal has, and a listing's first and last. Assumes nothing.
use Rattle.std.specs.Prelude.{◌≡◌, ℕ, length}
use Rattle.std.proofs.Common.{length-append}
use Rattle.rules.specs.declared.Query.{Query}
use Rattle.rules.specs.declared.Session.{Session}
use Rattle.rules.specs.Query.{input_length, query_line, last_line, refusal_line}
use Rattle.printing.specs.Numbers.{decimal_length}

abbrev pub last_length : ℕ
last_length = 25

abbrev pub refusal_length : ℕ
refusal_length = 7

pub query_length : (q : Query) → length (query_line q) ≡ input_length
unfolding query_line
query_length q = simp (length-append, decimal_length)

pub last_length_lem : (s : Session) → length (last_line s) ≡ last_length
unfolding last_line
last_length_lem s = simp (length-append, decimal_length)

pub refusal_length_lem : (code : ℕ) → length (refusal_line code) ≡ refusal_length
unfolding refusal_line
refusal_length_lem code = simp (length-append, decimal_length)
