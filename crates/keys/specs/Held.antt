-- Pairs held as keys, and a pair put among them. Definitions only. Assumes nothing.
use Rattle.std.specs.Prelude.{ℕ, suc, ◌+◌, ◌*◌, ◌-◌, ◌/◌, ◌%◌, ◌≤◌, ◌<◌, ◌≡◌, Bool, cond, List, [], ◌∷◌, ◌++◌, map, ltb}
use Rattle.std.specs.Prelude.{length, get_or, take, drop, eqb, ◌&&◌}
use Rattle.lists.specs.Lists.{ins}
use Rattle.lists.specs.Words.{All}
use Rattle.rules.specs.declared.Pair.{Pair}
use Rattle.rules.specs.Tables.{ahead}
use Rattle.rules.specs.Session.{no_pair}

-- the key of a pair: the higher the sum the lower, then by field row, then by trim row
unfoldable pub key_of : Pair → ℕ
key_of p = (4294967295 - p.sum) * 4294967296 + p.field * 65536 + p.trim

-- the pair of a key
unfoldable pub pair_of : ℕ → Pair
pair_of k = record { sum = 4294967295 - k / 4294967296; field = k / 65536 % 65536; trim = k % 65536 }

-- a pair that a key has room for
pub record Narrow (p : Pair) : Type 0 where
  pub sum : p.sum < 4294967296
  pub field : p.field < 65536
  pub trim : p.trim < 65536

-- keys that stand for these pairs
pub record Keyed (l : List Pair) (ks : List ℕ) : Type 0 where
  pub keys : ks ≡ map key_of l
  pub narrow : All Narrow l

-- place i of the pairs that keys stand for: zeros beyond
abbrev pub place_at : List ℕ → ℕ → Pair
place_at ks i = cond (ltb i (length ks)) (pair_of (get_or ks i 0)) no_pair

-- a pair that falls off, if there is room for any: the room is used up, and the last key is lower
abbrev pub falls_off : ℕ → List ℕ → Pair → Bool
falls_off room ks p = eqb (length ks) room && ltb (get_or ks (room - 1) 0) (key_of p)

-- how many keys stand before the place of p
unfoldable pub place_of : ℕ → List ℕ → ℕ
place_of p [] = 0
place_of p (q ∷ l) = cond (ltb q p) (suc (place_of p l)) 0

-- p before the element i of l
unfoldable pub insert_at : ℕ → ℕ → List ℕ → List ℕ
insert_at i p l = take i l ++ p ∷ drop i l

-- p among the pairs that keys stand for, of which at most `room` are kept: those that `after` stands for
pub record Put (room : ℕ) (p : Pair) (ks after : List ℕ) : Type 0 where
  pub few : length after ≤ room
  pub held : (l : List Pair) → Keyed l ks → Keyed (take room (ins ahead p l)) after
