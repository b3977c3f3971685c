-- docs/RULES.md, "Distance". Definitions only. Assumes nothing.
use Rattle.std.specs.Prelude.{ℕ, zero, suc, ◌*◌, ◌-◌, true, false, leb}

-- the greatest of 0 to b whose square is not above n
unfoldable pub root_up_to : ℕ → ℕ → ℕ
root_up_to n zero = 0
root_up_to n (suc b) = elim (leb (suc b * suc b) n) [ true ↦ suc b | false ↦ root_up_to n b ]

-- "the greatest whole s with s × s not above the squared distance": it is not above n itself
unfoldable pub root : ℕ → ℕ
root n = root_up_to n n

-- "and the exact remainder"
unfoldable pub remainder : ℕ → ℕ
remainder n = n - root n * root n
