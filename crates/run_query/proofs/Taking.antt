-- The loop that takes until finished: what it knows before a turn, and that it ends with the pairs in their places.
-- Assumes nothing.
use mathlib.Core.Path.{◌≡◌, refl, sym, ap, ◌∙◌}
use mathlib.Core.Bool.{false}
use mathlib.Core.List.{List, [], ◌∷◌, ◌++◌, append-nil}
use Prim.Native.Nat.{ℕ, suc, ◌+◌, ◌-◌, ◌≤◌, ◌<◌}
use native.Mathlib.Omega.{arith}
use lib.ListN.{length, take, drop, set, replicate, length-set, take-append-drop}
use lib.Seq.{take-suc-set, drop-set-lt, drop-cons, append_snoc, length-take-le}
use Rattle.rules.specs.declared.Pair.{Pair}
use Rattle.rules.specs.declared.Session.{Session}
use Rattle.rules.specs.declared.Step.{Step}
use Rattle.rules.specs.declared.Answer.TheVariants.{Given}
use Rattle.rules.specs.Session.{no_pair, place_count, places}
use Rattle.rules.specs.Calls.{take_call}
use Rattle.rules.specs.Query.{was_given, take_until_finished_by, take_until_finished}
use Rattle.outcomes.specs.declared.TakenOut.{TakenOut}
use Rattle.outcomes.specs.Until.{take_more, take_ends}
use Rattle.outcomes.specs.Outcomes.{taken_out}
use Rattle.rules.specs.Tables.{Table}

-- the pairs that are still to come after n
abbrev pub to_come : Table → Table → ℕ → Session → List Pair
to_come f t n s = take_until_finished (place_count - n) f t s

-- before turn n + 1, r being the record that is left of s: n pairs are out
pub record Taking (f t : Table) (s : Session) (n : ℕ) (pairs : List Pair) (r : Session) : Type 0 where
  pub within : n ≤ place_count
  pub long : length pairs ≡ place_count
  pub so_far : take n pairs ++ to_come f t n r ≡ take_until_finished place_count f t s
  pub free : drop n pairs ≡ replicate (place_count - n) no_pair

-- a free place is filled
module _ (l : List Pair) (n : ℕ) (p : Pair) (h : n < place_count) (long : length l ≡ place_count) where
  filled_front : (rest : List Pair) → take (n + 1) (set l n p) ++ rest ≡ take n l ++ p ∷ rest
  filled_front rest =
      let e : n + 1 ≡ suc n = omega arith in
      ap (λ (m : ℕ). take m (set l n p) ++ rest) e
      ∙ ap (λ (k : List Pair). k ++ rest) (take-suc-set l n p (omega arith))
      ∙ append_snoc (take n l) p rest

  filled_free : drop n l ≡ replicate (place_count - n) no_pair →
      drop (n + 1) (set l n p) ≡ replicate (place_count - (n + 1)) no_pair
  filled_free e =
      let k : n + 1 ≡ suc n = omega arith in
      let m : place_count - n ≡ suc (place_count - (n + 1)) = omega arith in
      let split = sym (drop-cons l n no_pair (omega arith)) ∙ e ∙ ap (λ (i : ℕ). replicate i no_pair) m in
      drop-set-lt (n + 1) l n p (omega arith) ∙ ap (λ (i : ℕ). drop i l) k ∙ ap (drop 1) split

pub taking_starts : (f t : Table) (s : Session) → Taking f t s 0 (replicate place_count no_pair) s
taking_starts f t s = record { within = omega arith; long = refl; so_far = refl; free = refl }

module _ {f t : Table} {s : Session} {n : ℕ} {pairs : List Pair} {r : Session} (h : Taking f t s n pairs r) where
  -- a take that brings a pair out
  pub taking_on : n < place_count → (x : Step) (p : Pair) → x ≡ take_call f t r → x.answer ≡ Given p →
      Taking f t s (n + 1) (set pairs n p) x.session
  taking_on more x p called answered =
      let gave : (take_call f t r).answer ≡ Given p = ap (λ (y : Step). y.answer) (sym called) ∙ answered in
      let m : place_count - n ≡ suc (place_count - (n + 1)) = omega arith in
      let rest = to_come f t (n + 1) x.session in
      let one : to_come f t n r ≡ p ∷ rest =
      ap (λ (k : ℕ). take_until_finished k f t r) m
      ∙ take_more (place_count - (n + 1)) f t r p gave
      ∙ ap (λ (y : Step). p ∷ to_come f t (n + 1) y.session) (sym called) in
      record {
        within = omega arith;
        long = length-set pairs n p ∙ h.long;
        so_far =
            filled_front pairs n p more h.long rest
            ∙ ap (λ (l : List Pair). take n pairs ++ l) (sym one)
            ∙ h.so_far;
        free = filled_free pairs n p more h.long h.free;
      }

  -- no pair is left
  taking_ends : to_come f t n r ≡ [] → ◌≡◌ {A = TakenOut} (record { pairs = pairs; count = n }) (taken_out f t s)
  unfolding taken_out places
  taking_ends none =
      let l = take_until_finished place_count f t s in
      let front : take n pairs ≡ l =
      sym (append-nil (take n pairs)) ∙ ap (λ (k : List Pair). take n pairs ++ k) (sym none) ∙ h.so_far in
      let count : n ≡ length l = sym (length-take-le n pairs (omega (arith, h.within, h.long))) ∙ ap length front in
      let all : pairs ≡ l ++ replicate (place_count - length l) no_pair =
      sym (take-append-drop n pairs)
      ∙ ap (λ (k : List Pair). k ++ drop n pairs) front
      ∙ ap (λ (k : List Pair). l ++ k) h.free
      ∙ ap (λ (k : ℕ). l ++ replicate (place_count - k) no_pair) count in
      λ i. record { pairs = all i; count = count i }

  pub taking_stops : was_given (take_call f t r).answer ≡ false →
      ◌≡◌ {A = TakenOut} (record { pairs = pairs; count = n }) (taken_out f t s)
  taking_stops none = taking_ends (take_ends (place_count - n) f t r none)

  pub taking_full : place_count ≤ n →
      ◌≡◌ {A = TakenOut} (record { pairs = pairs; count = place_count }) (taken_out f t s)
  unfolding take_until_finished_by
  taking_full all =
      let m : place_count - n ≡ 0 = omega arith in
      let e : place_count ≡ n = omega (arith, h.within) in
      ap (λ (k : ℕ). record { pairs = pairs; count = k }) e
      ∙ taking_ends (ap (λ (k : ℕ). take_until_finished k f t r) m)
