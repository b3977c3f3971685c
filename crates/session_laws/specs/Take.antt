-- A take moves the first held pair out, and in a settled session there is one to give, or the list is complete. Assumes
-- nothing.
use Rattle.std.specs.Prelude.{◌≡◌, ◌&&◌, ◌||◌, ℕ, zero, suc, ◌+◌, ◌-◌, ◌≤◌, length, get_or, take, drop}
use Rattle.std.proofs.Math.Path.{refl, subst}
use Rattle.std.proofs.Common.{sym, ap, ◌∙◌, arith, length-take}
use Rattle.std.proofs.Math.Bool.{Bool, true, false}
use mathlib.Core.List.{List, [], ◌∷◌, ◌++◌, Memᴰ}
use Rattle.std.proofs.Math.Dec.{eqb, ltb}
use Rattle.std.proofs.lemmas.List.{take-append-le}
use borrow.Author.Tests.{eqb-true, eqb-false, eq-eqb, ne_eqb, ltb-true, ltb-false}
use Rattle.lists.specs.Lists.{every}
use Rattle.lists.specs.Bools.{clash, and_out, or_none_out, or_true}
use Rattle.lists.specs.Parts.{every_at, every_same}
use Rattle.rules.specs.declared.Pair.{Pair}
use Rattle.rules.specs.declared.Session.{Session}
use Rattle.session_laws.specs.ReadOut.{live_out, read_out_some}
use Rattle.rules.specs.Session.{is_empty, field_read_out, trim_read_out}
use Rattle.rules.specs.Session.{no_pair, held_pairs, a_table_is_empty, both_read_out, ceiling_by, secured_by, secured}
use Rattle.rules.specs.Session.{nothing_qualifies, settled_by, settled}
use Rattle.rules.specs.Take.{first_held, gives_pair_by, gives_pair, moved_out, finished}
use Rattle.rules.specs.Tables.{Table}

-- ---- A pair is given while one is held, and secured

module _ (f t : Table) (s : Session) (e : gives_pair f t s ≡ true) where
  pub gives_some : 1 ≤ s.held
  unfolding gives_pair_by
  gives_some = ltb-true 0 s.held (and_out (ltb 0 s.held) (secured f t s (first_held s)) e).0

  pub gives_secured : secured f t s (first_held s) ≡ true
  unfolding gives_pair_by
  gives_secured = (and_out (ltb 0 s.held) (secured f t s (first_held s)) e).1

-- ---- The first of the places, and those after it when they move up

places_first : (n : ℕ) (l : List Pair) → length (take n l) ≡ n → 1 ≤ n
    → (m : List Pair) × (take n l ≡ get_or l 0 no_pair ∷ m) × (take (n - 1) (drop 1 l ++ (no_pair ∷ [])) ≡ m)
    × (length m ≡ n - 1)
places_first zero l e h = absurd (omega arith)
places_first (suc n) [] e h = absurd (omega arith)
places_first (suc n) (x ∷ l) e h =
    let j : suc n - 1 ≡ n = omega arith in
    let moved = take-append-le n l (no_pair ∷ []) (omega (arith, length-take n l)) in
    (take n l, refl, ap (λ i. take i (l ++ (no_pair ∷ []))) j ∙ moved, omega arith)

-- a record that holds as many pairs as it says, and one at least
module _ (s : Session) (stored : length (held_pairs s) ≡ s.held) (some : 1 ≤ s.held) where
  pub held_first : (m : List Pair) × (held_pairs s ≡ first_held s ∷ m) × (held_pairs (moved_out s) ≡ m)
      × (length m ≡ s.held - 1)
  unfolding moved_out
  held_first = places_first s.held s.pairs stored some

  pub first_mem : Memᴰ (first_held s) (held_pairs s)
  first_mem = subst (Memᴰ (first_held s)) (sym held_first.1) (Memᴰ.head refl)

  -- what holds of each held pair holds of those left
  pub moved_every : (test : Pair → Bool) → every test (held_pairs s) ≡ true → every test (held_pairs (moved_out s))
      ≡ true
  unfolding every
  moved_every test e =
      let all = subst (λ l. every test l ≡ true) held_first.1 e in
      let left = (and_out (test (first_held s)) (every test held_first.0) all).1 in
      subst (λ l. every test l ≡ true) (sym held_first.2) left

-- ---- A settled session

-- read out, all is secured
read_out_secured : (f t : Table) (s : Session) (p : Pair) → a_table_is_empty f t s ≡ false → both_read_out f t s ≡ true
    → secured f t s p ≡ true
unfolding secured_by
read_out_secured f t s p e b =
    let m = s.rows.field.0 in
    let n = s.rows.trim.0 in
    let c = s.depth.field.0 in
    let d = s.depth.trim.0 in
    let live = or_none_out (is_empty f m c) (is_empty t n d) e in
    let ends = and_out (field_read_out f s) (trim_read_out t s) b in
    let first = read_out_some f m c (live_out f m c live.0).0 ends.0 in
    let second = read_out_some t n d (live_out t n d live.1).0 ends.1 in
    rw (ne_eqb c 0 (λ z. omega arith), ne_eqb d 0 (λ z. omega arith), ends.0, ends.1)

module _ (f t : Table) (s : Session) (stored : length (held_pairs s) ≡ s.held) where
  -- k pairs are held or out, and each held one is secured
  abbrev full : Bool
  full = eqb (s.out + s.held) s.query.k && every (secured f t s) (held_pairs s)

  full_out : full ≡ true → (s.out + s.held ≡ s.query.k) × (every (secured f t s) (held_pairs s) ≡ true)
  full_out w =
      let b = and_out (eqb (s.out + s.held) s.query.k) (every (secured f t s) (held_pairs s)) w in
      (eqb-true (s.out + s.held) s.query.k b.0, b.1)

  -- a take has a secured pair to give, or the list is complete
  pub settled_take : settled f t s ≡ true → gives_pair f t s ≡ false → finished f t s ≡ true
  unfolding settled_by gives_pair_by finished
  settled_take =
      go (eqb s.out s.query.k) (nothing_qualifies s) (a_table_is_empty f t s) (both_read_out f t s)
      (ltb 0 s.held) refl refl refl refl
    where
      go : (k u e b h : Bool) → eqb s.out s.query.k ≡ k → a_table_is_empty f t s ≡ e → both_read_out f t s ≡ b
          → ltb 0 s.held ≡ h → (u || (e || (b || (k || full)))) ≡ true
          → (h && secured f t s (first_held s)) ≡ false → (k || (u || (e || (b && eqb s.held 0)))) ≡ true
      go true u e b h ek ee eb eh w n = refl
      go false true e b h ek ee eb eh w n = refl
      go false false true b h ek ee eb eh w n = refl
      go false false false true true ek ee eb eh w n = clash (read_out_secured f t s (first_held s) ee eb) n
      go false false false true false ek ee eb eh w n =
          eq-eqb s.held 0 (omega (arith, ltb-false 0 s.held eh))
      go false false false false true ek ee eb eh w n =
          let first = first_mem s stored (ltb-true 0 s.held eh) in
          clash (every_at (secured f t s) (first_held s) (full_out w).1 first) n
      go false false false false false ek ee eb eh w n =
          absurd (eqb-false s.out s.query.k ek (omega (arith, ltb-false 0 s.held eh, (full_out w).0)))

  -- and it stays settled
  pub settled_moves : 1 ≤ s.held → s.out + s.held ≤ s.query.k → settled f t s ≡ true
      → settled f t (moved_out s) ≡ true
  unfolding settled_by moved_out
  settled_moves some room e =
      go (nothing_qualifies s) (a_table_is_empty f t s) (both_read_out f t s) (eqb s.out s.query.k) refl e
    where
      left : Bool
      left =
          eqb (s.out + 1 + (s.held - 1)) s.query.k
          && every (secured f t (moved_out s)) (held_pairs (moved_out s))

      still_full : full ≡ true → left ≡ true
      still_full w =
          let k = (full_out w).0 in
          let l = held_pairs (moved_out s) in
          let same : every (secured f t (moved_out s)) l ≡ every (secured f t s) l =
          every_same (secured f t (moved_out s)) (secured f t s) l (λ p m. unfold secured_by ceiling_by in refl) in
          rw (eq-eqb (s.out + 1 + (s.held - 1)) s.query.k (omega arith))
          (same ∙ moved_every s stored some (secured f t s) (full_out w).1)

      go : (u e b k : Bool) → eqb s.out s.query.k ≡ k → (u || (e || (b || (k || full)))) ≡ true
          → (u || (e || (b || (eqb (s.out + 1) s.query.k || left)))) ≡ true
      go true e b k z w = refl
      go false true b k z w = refl
      go false false true k z w = refl
      go false false false true z w = absurd (omega (arith, eqb-true s.out s.query.k z))
      go false false false false z w = rw (still_full w) (or_true (eqb (s.out + 1) s.query.k))
