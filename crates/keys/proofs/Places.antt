-- What `put` leaves, by its two ways out. Assumes nothing.
use Rattle.std.proofs.Common.{◌≡◌, List, ℕ, ◌-◌, ◌≤◌, ◌<◌, length, min, sym, ap, ap₂, subst, ◌+◌, ◌∙◌, arith, ltb, take}
use Rattle.std.proofs.Common.{take-take}
use Rattle.std.proofs.Common.{length-take, length-take-le}
use Rattle.lists.specs.Lists.{ins}
use Rattle.rules.specs.declared.Pair.{Pair}
use Rattle.rules.specs.Tables.{ahead}
use Rattle.keys.specs.Held.{key_of, place_of, insert_at, Narrow, Keyed, Put}
use Rattle.keys.specs.Keys.{keyed_take, keyed_ins}
use Rattle.keys.proofs.Lists.{fallen_off, last_falls_off}

module _ (room : ℕ) (p : Pair) (ks : List ℕ) (narrow : Narrow p) where
  -- numbers put by their order stand for the pairs
  pub by_keys : (after : List ℕ) → length after ≤ room → after ≡ take room (ins ltb (key_of p) ks)
      → Put room p ks after
  by_keys after few e =
      record {
        few = few;
        held =
            λ l h. subst (Keyed (take room (ins ahead p l))) (sym e)
            (keyed_take room (ins ahead p l) (ins ltb (key_of p) ks) (keyed_ins p l ks narrow h));
      }

  -- k is the key of p, and i its place among the n keys that stand in b
  module _ (k i n : ℕ) (b : List ℕ) (key : k ≡ key_of p) (view : take n b ≡ ks) (found : i ≡ place_of k (take n b))
    where
      abbrev place : i ≡ place_of (key_of p) ks
      place = found ∙ ap₂ place_of key view

      pub unchanged : length ks ≤ room → room ≤ i → Put room p ks ks
      unchanged h j = by_keys ks h (sym (fallen_off room (key_of p) ks h (omega (arith, place))))

      -- they move on, as many as there is room for
      pub placed : n ≤ length b → i < room → (after : List ℕ) (kept : ℕ) → kept ≡ min (room - 1) n
          → take (kept + 1) after ≡ insert_at i k (take kept b) → Put room p ks (take (kept + 1) after)
      placed few h after kept least e =
          let many : n ≡ length ks = sym (length-take-le n b few) ∙ ap length view in
          by_keys (take (kept + 1) after) (omega (arith, length-take (kept + 1) after))
          (e
          ∙ ap (insert_at i k)
          (sym (take-take kept n b (omega arith)) ∙ ap₂ take (least ∙ ap (min (room - 1)) many) view)
          ∙ ap₂ (λ (i k : ℕ). insert_at i k (take (min (room - 1) (length ks)) ks)) place key
          ∙ sym (last_falls_off room (key_of p) ks (omega (arith, place))))
