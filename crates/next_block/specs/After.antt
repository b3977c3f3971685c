-- A record after a read, its pairs read off the keys. Assumes nothing.
use Rattle.std.specs.Prelude.{◌≡◌, refl, Bool, cond, List, [], ◌∷◌, map, ℕ, length}
use Rattle.std.proofs.Common.{sym, ap, ◌∙◌}
use Rattle.lists.specs.Words.{All}
use Rattle.rules.specs.declared.Pair.{Pair}
use Rattle.rules.specs.declared.Session.{Session}
use Rattle.rules.specs.Session.{places, held_pairs}
use Rattle.rules.specs.Read.{read_to}
use Rattle.session_laws.specs.Read.{Kept}
use Rattle.keys.specs.Held.{key_of, pair_of, Narrow}
use Rattle.keys.specs.Keys.{pair_key}
use Rattle.keys.specs.Places.{places_of}
use Rattle.choosing.specs.Ready.{Ready}
use Rattle.block_pair.specs.Stands.{Stands}
use Rattle.next_block.specs.declared.After.{After}
use Rattle.next_block.specs.Side.{down_to}

-- a record after a read: its numbers, and its pairs read off the keys
unfoldable pub with_keys : Session → After → List ℕ → Session
with_keys s r ks =
    record {
      query = s.query;
      rows = s.rows;
      depth = r.depth;
      last = r.last;
      out = s.out;
      held = length ks;
      pairs = places_of ks;
      joined = r.joined;
    }

-- what keys stand for is read off them again
pub pairs_again : (l : List Pair) → All Narrow l → map pair_of (map key_of l) ≡ l
pairs_again [] h = refl
pairs_again (p ∷ l) h = λ i. pair_key p h.0 i ∷ pairs_again l h.1 i

-- the record after a read, its pairs read off the keys
pub read_is : (field : Bool) (e : ℕ) (s r : Session) → Kept s r → Ready r → (n : ℕ) (ks : List ℕ) → Stands r n ks
    → with_keys s (record { depth = down_to field e s.depth; last = cond field 1 2; joined = n }) ks ≡ read_to field e r
unfolding read_to down_to with_keys places_of
read_is field e s r kept ready n ks stands =
    let pairs : places (map pair_of ks) ≡ r.pairs =
    ap (λ (k : List ℕ). places (map pair_of k)) stands.keyed.keys
    ∙ ap places (pairs_again (held_pairs r) stands.keyed.narrow)
    ∙ sym ready.zeros in
    λ i.
    record {
      query = sym kept.query i;
      rows = sym kept.rows i;
      depth = down_to field e (sym kept.depth i);
      last = cond field 1 2;
      out = sym kept.out i;
      held = stands.held i;
      pairs = pairs i;
      joined = stands.joined i;
    }
