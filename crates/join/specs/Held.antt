-- What a session holds of a region, some of whose pairs are out. Definitions only. Assumes nothing.
use Rattle.std.specs.Prelude.{ℕ, ◌-◌, ◌≤◌, ◌<◌, ◌≡◌, Bool, true, ◌⊎◌, length, take}
use mathlib.Core.List.{List, Memᴰ}
use Rattle.lists.specs.Lists.{ranked}
use Rattle.lists.specs.Words.{Strict, Distinct}

-- a rank of pairs: a strict order in which a higher sum stands ahead
pub record Rank {P : Type 0} (ahead : P → P → Bool) (sum : P → ℕ) : Type 0 where
  pub order : Strict ahead
  pub higher : (p q : P) → sum q < sum p → ahead p q ≡ true

-- fact 4: the pairs of the region that are not out, ranked, are `rest`, and the held pairs are the first of them, at
-- most k
-- less those out
pub record Holds {P : Type 0} (ahead : P → P → Bool) (k : ℕ) (Region : P → Type 0) (out rest held : List P) : Type 0
  where
    pub in_rank : ranked ahead rest ≡ true
    pub front : held ≡ take (k - length out) rest
    pub room : length out ≤ k
    pub once : Distinct out
    pub apart : (p : P) → Memᴰ p out → Memᴰ p rest → ⊥
    pub inside : (p : P) → Memᴰ p out ⊎ Memᴰ p rest → Region p
    pub known : (p : P) → Region p → Memᴰ p out ⊎ Memᴰ p rest
