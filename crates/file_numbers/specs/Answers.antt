-- What a file's check and its reading answer, as one signed number. Assumes nothing.
use Rattle.std.specs.Prelude.{◌≡◌, List, ℕ, ◌+◌, ◌*◌, ℤ, pos, neg_ℤ, get_or, Ok, Err}
use Rattle.std.proofs.Common.{ap, arith}
use Rattle.rules.specs.Numbers.{Loaded, number_of, Said, said_of, signed}
use Rattle.rules.specs.File.{check_file, load_answer, check_alone}
use Rattle.file_laws.specs.Sizes.{check_told}

-- a refusal's number with its row added so many times
abbrev pub with_row : ℕ → Said → Said
with_row times s =
    record { accepted = s.accepted; number = s.number + times * get_or s.values 0 0; values = s.values }

unfoldable pub numbered : ℕ → Loaded → ℤ
numbered times x = signed (with_row times (said_of x))

-- a hundred times: number and row can both be told from it
abbrev pub row_times : ℕ
row_times = 100

-- the row count, or minus the refusal's number and a hundred times its row
unfoldable pub load_signed : List ℕ → ℤ → List ℤ → ℤ
load_signed bytes kind lent = numbered row_times (load_answer bytes kind lent)

-- with its row added no time it is the number alone
pub number_alone : (x : Loaded) → numbered 0 x ≡ signed (said_of x)
unfolding numbered
number_alone (Ok n) = let e : n + 0 * 0 ≡ n = omega arith in ap pos e
number_alone (Err u) =
    let n = number_of u.refusal in
    let e : n + 0 * u.row ≡ n = omega arith in
    ap (λ (m : ℕ). neg_ℤ (pos m)) e

pub alone_is : (bytes : List ℕ) (kind : ℤ) → numbered 0 (check_file bytes kind) ≡ check_alone bytes kind
unfolding check_alone
alone_is bytes kind = number_alone (check_file bytes kind)

-- what the check alone asks
pub ruleset check_steps = (check_told, alone_is)
