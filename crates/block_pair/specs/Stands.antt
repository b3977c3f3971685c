-- A record's held pairs as keys, its count of joined block pairs beside them, while blocks are met. Assumes nothing.
use Rattle.std.specs.Prelude.{◌≡◌, Bool, ◌&&◌, ◌||◌, List, ℕ, ◌+◌, ◌-◌, ◌≤◌, ◌<◌, get_or, length}
use Rattle.std.proofs.Math.Path.{refl, sym, ap}
use Rattle.std.proofs.Common.{subst, ◌∙◌, arith, eq-eqb, ne_eqb, eqb-true}
use Rattle.std.proofs.Math.Bool.{true, false}
use Rattle.std.proofs.Math.Dec.{ltb, eqb}
use Rattle.std.proofs.lemmas.Bool.{eqb-false}
use Rattle.rules.specs.Meaning.{first_scores}
use Rattle.rules.specs.declared.Pair.{Pair}
use Rattle.rules.specs.declared.Query.{Query}
use Rattle.rules.specs.declared.Session.{Session}
use Rattle.rules.specs.Tables.{terms, Block, qualifying}
use Rattle.rules.specs.Session.{no_pair, held_pairs}
use Rattle.rules.specs.Read.{lowest, skipped_by, skipped, best_held, holding, meet}
use Rattle.securing.specs.Last.{lowest_is_last}
use Rattle.keys.specs.Held.{place_at, Keyed}
use Rattle.keys.specs.Keys.{keyed_length, keyed_place}
use Rattle.keys.specs.Places.{list_of_places}
use Rattle.block.specs.Block.{Joined}
use Rattle.choosing.specs.Ready.{Ready}
use Rattle.skipping.specs.Effect.{Effect, skips}
use Rattle.skipping.specs.declared.Joining.{Joining}
use Rattle.skipping.specs.declared.Joining.TheVariants.{Skipped, Quiet, PairByPair}
use Rattle.block_pair.specs.Effect.{joined_pair, joined_one, meet_skipped, meet_quiet, meet_joined}

-- keys of the pairs that a record holds, and how many block pairs it has joined
pub record Stands (r : Session) (n : ℕ) (ks : List ℕ) : Type 0 where
  pub held : length ks ≡ r.held
  pub joined : n ≡ r.joined
  pub keyed : Keyed (held_pairs r) ks

-- one block pair more is met, whatever the record is that the keys stand for
pub record Meets (q : Query) (room : ℕ) (x y : Block) (n : ℕ) (ks : List ℕ) (m : ℕ) (after : List ℕ) : Type 0 where
  pub few : length after ≤ room
  pub one : m ≤ n + 1
  pub meets : (r : Session) → Ready r → r.query ≡ q → r.query.k - r.out ≡ room → Stands r n ks
      → Stands (meet r x y) m after

-- the sum of the last pair that keys stand for
abbrev pub last_sum : List ℕ → ℕ
last_sum ks = (place_at ks (length ks - 1)).sum

-- what a block pair comes to for the code, which looks at the keys
abbrev pub Comes : Query → ℕ → Block → Block → List ℕ → Joining → Type 0
Comes q room x y ks = Effect (eqb (length ks) room) (last_sum ks) q x.rows y.rows

module _ (r : Session) (ready : Ready r) (room : ℕ) (left : r.query.k - r.out ≡ room) (n : ℕ) (ks : List ℕ)
    (stands : Stands r n ks) where
  -- k pairs are held or out
  full_is : eqb (length ks) room ≡ eqb (r.out + r.held) r.query.k
  full_is = go (eqb (length ks) room) refl
    where
      go : (b : Bool) → eqb (length ks) room ≡ b → b ≡ eqb (r.out + r.held) r.query.k
      go true e =
          sym
          (eq-eqb (r.out + r.held) r.query.k
          (omega (arith, eqb-true (length ks) room e, ready.wanted, stands.held)))
      go false e =
          sym
          (ne_eqb (r.out + r.held) r.query.k
          (λ h. eqb-false (length ks) room e (omega (arith, h, ready.wanted, stands.held))))

  -- the lowest held sum: of the last key
  low_is : eqb (length ks) room ≡ true → last_sum ks ≡ lowest (held_pairs r)
  low_is e =
      let l = held_pairs r in
      let some : 0 < length ks = omega (arith, eqb-true (length ks) room e, ready.wanted) in
      let many : length ks ≡ length l = keyed_length l ks stands.keyed in
      ap (λ (p : Pair). p.sum)
      (keyed_place l ks (length ks - 1) stands.keyed
      ∙ ap (λ (i : ℕ). get_or l (i - 1) no_pair) many)
      ∙ sym (lowest_is_last l (omega arith) ready.order)

  -- the code's test of a skipped block pair is the rule's
  skips_is : (x y : Block) → skips (eqb (length ks) room) (last_sum ks) r.query x.rows y.rows ≡ skipped r x y
  unfolding skipped_by
  skips_is x y =
      ap (λ (b : Bool). b || (terms r.query).far x.rows y.rows)
      (go (eqb (length ks) room) refl
      ∙ ap (λ (b : Bool). b && ltb (first_scores r.query x.rows y.rows) (lowest (held_pairs r))) full_is)
    where
      go : (b : Bool) → eqb (length ks) room ≡ b
          → (b && ltb (first_scores r.query x.rows y.rows) (last_sum ks))
          ≡ (b && ltb (first_scores r.query x.rows y.rows) (lowest (held_pairs r)))
      go true e = ap (ltb (first_scores r.query x.rows y.rows)) (low_is e)
      go false e = refl

  module _ (x y : Block) where
    -- a block pair that is skipped
    pub stands_skipped : Comes r.query room x y ks Skipped → Stands (meet r x y) n ks
    stands_skipped e = rw (sym (meet_skipped r ready _ _ x y (skips_is x y) e)) stands

    same : Stands (joined_one r) (n + 1) ks
    unfolding joined_one
    same = record { held = stands.held; joined = ap (λ (i : ℕ). i + 1) stands.joined; keyed = stands.keyed }

    -- one that has no qualifying pair
    pub stands_quiet : Comes r.query room x y ks Quiet → Stands (meet r x y) (n + 1) ks
    stands_quiet e = rw (sym (meet_quiet r ready _ _ x y (skips_is x y) e)) same

    best : (after : List ℕ) → Joined (terms r.query) room x y ks after → Stands (joined_pair r x y) (n + 1) after
    unfolding holding best_held
    best after k =
        let l = best_held r (qualifying (terms r.query) x y) in
        let got : Keyed l after = rw left (k.held (held_pairs r) stands.keyed ready.order) in
        record {
          held = keyed_length l after got;
          joined = ap (λ (i : ℕ). i + 1) stands.joined;
          keyed = rw (list_of_places l) got;
        }

    -- one that is joined pair by pair
    pub stands_joined : Comes r.query room x y ks PairByPair → (after : List ℕ)
        → Joined (terms r.query) room x y ks after
        → Stands (meet r x y) (n + 1) after
    stands_joined e after k = rw (sym (meet_joined r ready _ _ x y (skips_is x y) e)) (best after k)

-- a block pair, whatever the record is
module _ (q : Query) (room : ℕ) (x y : Block) (n : ℕ) (ks : List ℕ) where
  pub meets_skipped : length ks ≤ room → Comes q room x y ks Skipped → Meets q room x y n ks n ks
  meets_skipped few e =
      record {
        few = few;
        one = omega arith;
        meets = λ r ready same left stands. stands_skipped r ready room left n ks stands x y (rw same e);
      }

  pub meets_quiet : length ks ≤ room → Comes q room x y ks Quiet → Meets q room x y n ks (n + 1) ks
  meets_quiet few e =
      record {
        few = few;
        one = omega arith;
        meets = λ r ready same left stands. stands_quiet r ready room left n ks stands x y (rw same e);
      }

  pub meets_joined : Comes q room x y ks PairByPair → (after : List ℕ) → Joined (terms q) room x y ks after
      → Meets q room x y n ks (n + 1) after
  meets_joined e after k =
      record {
        few = k.few;
        one = omega arith;
        meets =
            λ r ready same left stands.
            let own = subst (λ (p : Query). Joined (terms p) room x y ks after) (sym same) k in
            stands_joined r ready room left n ks stands x y (rw same e) after own;
      }
