-- A loop that looks through a record's pair places: what it knows before a turn, and what it ends with. Assumes
-- nothing.
use mathlib.Core.Path.{◌≡◌, refl, sym, ap, ◌∙◌}
use mathlib.Core.Bool.{Bool, true, false, ◌&&◌}
use mathlib.Core.List.{List}
use mathlib.Core.Logic.{inl, inr}
use Prim.Native.Nat.{ℕ, zero, suc, ◌+◌, ◌≤◌, ◌<◌}
use native.Mathlib.Omega.{arith}
use native.Mathlib.Numerals.{add-one}
use lib.ListN.{length, drop, get_or}
use Rattle.rules.specs.declared.Counts.{Counts}
use Rattle.rules.specs.declared.Pair.{Pair}
use Rattle.rules.specs.Session.{no_pair}
use Rattle.keys.specs.Held.{key_of, Narrow}
use Rattle.pair_checks.specs.Grounds.{place_fits, places_from, pairs_fit}
use Rattle.pair_checks.proofs.Answer.{place_more, places_end}
use Rattle.pair_checks.proofs.Keys.{Behind}

-- the pair before place i
abbrev pub prev : List Pair → ℕ → Pair
prev pairs zero = no_pair
prev pairs (suc i) = get_or pairs i no_pair

-- before turn i: what is left to look at are the places from i on; `before` is the key of the place before, if it is
-- held
pub record Looking (pairs : List Pair) (n : ℕ) (depth : Counts) (i before : ℕ) : Type 0 where
  pub so_far : pairs_fit pairs n depth ≡ places_from i n depth (prev pairs i) (drop i pairs)
  pub behind : i ≤ n → Behind i before (prev pairs i)

module _ (pairs : List Pair) (n : ℕ) (depth : Counts) where
  pub look_starts : Looking pairs n depth 0 0
  look_starts = record { so_far = refl; behind = λ _. inl (refl, refl) }

  module _ (i before : ℕ) (l : Looking pairs n depth i before) where
    -- place i is looked at
    here : (b : Bool) → i < length pairs
        → place_fits i n depth (prev pairs i) (get_or pairs i no_pair) ≡ b
        → pairs_fit pairs n depth ≡ b && places_from (suc i) n depth (get_or pairs i no_pair) (drop (suc i) pairs)
    here b h k =
        l.so_far
        ∙ place_more depth i n (prev pairs i) pairs h
        ∙ ap (λ (x : Bool). x && places_from (suc i) n depth (get_or pairs i no_pair) (drop (suc i) pairs)) k

    -- it fits, and has this key, if it is held
    pub look_on : (key : ℕ) → i < length pairs
        → place_fits i n depth (prev pairs i) (get_or pairs i no_pair) ≡ true
        → (i < n → (key ≡ key_of (get_or pairs i no_pair)) × Narrow (get_or pairs i no_pair))
        → Looking pairs n depth (i + 1) key
    look_on key h fits found =
        rw add-one
        (record {
          so_far = here true h fits;
          behind = λ m. let k = found (omega (arith, m)) in inr (omega arith, k.0, k.1);
        })

    pub look_stops : i < length pairs → place_fits i n depth (prev pairs i) (get_or pairs i no_pair) ≡ false
        → false ≡ pairs_fit pairs n depth
    look_stops h unfit = sym (here false h unfit)

    pub look_ends : length pairs ≤ i → true ≡ pairs_fit pairs n depth
    look_ends h = sym (l.so_far ∙ places_end depth i n (prev pairs i) pairs h)
