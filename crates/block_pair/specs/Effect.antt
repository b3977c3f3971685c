-- A block pair that is skipped, or has no qualifying pair, changes nothing but the joined count. Assumes nothing.
use Rattle.std.specs.Prelude.{◌≡◌, Bool, cond, take}
use Rattle.std.proofs.Math.Path.{sym, ap}
use Rattle.std.proofs.Common.{◌∙◌}
use mathlib.Core.List.{List, [], append-nil}
use Prim.Native.Nat.{ℕ, ◌+◌, ◌-◌}
use native.Mathlib.Omega.{arith}
use Rattle.std.proofs.Math.Seq.{take_all}
use Rattle.lists.specs.Lists.{sort}
use Rattle.lists.specs.Sorts.{ordered_sort}
use Rattle.rules.specs.declared.Pair.{Pair}
use Rattle.rules.specs.declared.Session.{Session}
use Rattle.rules.specs.Tables.{terms, Block, qualifying, ahead}
use Rattle.rules.specs.Session.{held_pairs}
use Rattle.rules.specs.Read.{skipped, best_held, holding, meet_by, meet}
use Rattle.rules.specs.Qualifying.{none_qualifying}
use Rattle.skipping.specs.declared.Joining.{Joining}
use Rattle.skipping.specs.declared.Joining.TheVariants.{Skipped, Quiet, PairByPair}
use Rattle.skipping.specs.Effect.{Effect, skips}
use Rattle.choosing.specs.Ready.{Ready}

-- a block pair is joined and counted
abbrev pub joined_pair : Session → Block → Block → Session
joined_pair s x y = holding s (best_held s (qualifying (terms s.query) x y))

-- one block pair more is joined
unfoldable pub joined_one : Session → Session
joined_one s =
    record {
      query = s.query;
      rows = s.rows;
      depth = s.depth;
      last = s.last;
      out = s.out;
      held = s.held;
      pairs = s.pairs;
      joined = s.joined + 1;
    }

module _ (s : Session) (r : Ready s) where
  -- no qualifying pair: the same pairs are held
  same_held : best_held s [] ≡ held_pairs s
  unfolding best_held
  same_held =
      ap (take (s.query.k - s.out))
      (ap (sort ahead) (append-nil (held_pairs s)) ∙ ordered_sort ahead (held_pairs s) r.order)
      ∙ take_all (s.query.k - s.out) (held_pairs s) (omega (arith, r.count, r.room))

  holding_same : holding s (held_pairs s) ≡ joined_one s
  unfolding holding joined_one
  holding_same =
      λ i.
      record {
        query = s.query;
        rows = s.rows;
        depth = s.depth;
        last = s.last;
        out = s.out;
        held = r.count i;
        pairs = sym r.zeros i;
        joined = s.joined + 1;
      }

  -- `full` and `low` are the code's numbers: whether k pairs are held or out, and the lowest held sum
  module _ (full : Bool) (low : ℕ) (x y : Block) (test : skips full low s.query x.rows y.rows ≡ skipped s x y) where
    abbrev met : Bool → Session
    met skip = cond skip s (joined_pair s x y)

    abbrev Comes : Joining → Type 0
    Comes = Effect full low s.query x.rows y.rows

    pub meet_skipped : Comes Skipped → s ≡ meet s x y
    unfolding meet_by
    meet_skipped e = sym (ap met (sym test ∙ e))

    pub meet_joined : Comes PairByPair → joined_pair s x y ≡ meet s x y
    unfolding meet_by
    meet_joined e = sym (ap met (sym test ∙ e))

    pub meet_quiet : Comes Quiet → joined_one s ≡ meet s x y
    meet_quiet e =
        sym
        (ap (λ (l : List Pair). holding s (best_held s l)) (none_qualifying (terms s.query) x y e.1)
        ∙ ap (holding s) same_held
        ∙ holding_same)
        ∙ meet_joined e.0
