-- The library's version as one number, so that a caller can compare it with the header's. Definitions only. Assumes
-- nothing.
use Rattle.std.specs.Prelude.{ℕ, ◌+◌, ◌*◌}

abbrev pub version_of : ℕ → ℕ → ℕ → ℕ
version_of major minor patch = 10000 * major + 100 * minor + patch

-- 1.0.0
abbrev pub version : ℕ
version = version_of 1 0 0
