-- Laying out and taking back undo each other, whatever stands behind the record. Assumes nothing.
use Rattle.std.specs.Prelude.{◌≡◌, length}
use Rattle.std.proofs.Math.Path.{refl, sym, ap}
use Rattle.std.proofs.Common.{◌∙◌, drop-cons, take-suc, take-add, drop-drop}
use mathlib.Core.List.{List, [], ◌∷◌, ◌++◌, map, map-append, append_assoc}
use Prim.Native.Nat.{ℕ, zero, suc, ◌+◌, ◌*◌, ◌/◌, ◌%◌, ◌≤◌, ◌<◌}
use native.Mathlib.Omega.{arith}
use Rattle.std.proofs.Math.Nat.{div-add-mod', add-mul-mod_self_right, add-mul-div_right, mod-eq_of_lt, div-eq_of_lt}
use Rattle.std.proofs.Math.ListN.{get_or, take, drop, take-append-drop}
use Rattle.std.proofs.Math.Seq.{take_all, get_or-append-add}
use Rattle.lists.specs.Lists.{each, range}
use Rattle.lists.specs.Appends.{each_append, range_end}
use Rattle.rules.specs.declared.Meaning.{Meaning}
use Rattle.rules.specs.declared.Meaning.TheVariants.{Possibly, Surely}
use Rattle.rules.specs.declared.Pair.{Pair}
use Rattle.rules.specs.declared.Session.{Session}
use Rattle.rules.specs.Session.{no_pair, place_count}
use Rattle.rules.specs.Numbers.{meaning_number, meaning_of}
use Rattle.record_layout.specs.Flat.{joined_at, joined_high_at, pairs_at, pair_size, pair_place, field_weight_at}
use Rattle.record_layout.specs.Flat.{trim_weight_at, card_at, field_tolerance_at, trim_tolerance_at, meaning_at}
use Rattle.record_layout.specs.Flat.{flat_size}
use Rattle.record_layout.specs.Flat.{word, flat_pair, flat_head, flat_tail, flatten}
use Rattle.record_layout.specs.Flat.{query_with, pair_in, pairs_in, with_pairs, unflatten}

zero_add : (n : ℕ) → 0 + n ≡ n
zero_add n = omega arith

-- how many numbers stand behind the pair places
abbrev tail_size : ℕ
tail_size = 6

-- a meaning comes back, and a number that is one
pub meaning_back : (m : Meaning) → meaning_of (meaning_number m) ≡ m
unfolding meaning_of
meaning_back Possibly = refl
meaning_back Surely = refl

meaning_forth : (n : ℕ) → n ≤ 1 → meaning_number (meaning_of n) ≡ n
unfolding meaning_of
meaning_forth zero h = refl
meaning_forth (suc zero) h = refl
meaning_forth (suc (suc n)) h = absurd (omega arith)

-- the pair that three numbers are, from place n on
abbrev three : List ℕ → ℕ → Pair
three l n = record { sum = get_or l n 0; field = get_or l (suc n) 0; trim = get_or l (suc (suc n)) 0 }

three_at : (a : List Pair) (rest : List ℕ) (i : ℕ) → i < length a
    → three (each flat_pair a ++ rest) (pair_size * i) ≡ get_or a i no_pair
unfolding each flat_pair
three_at [] rest i h = absurd (omega arith)
three_at (p ∷ a) rest zero h = refl
three_at (p ∷ a) rest (suc i) h =
    let x : pair_size * suc i ≡ suc (suc (suc (pair_size * i))) = omega arith in
    ap (three (each flat_pair (p ∷ a) ++ rest)) x ∙ three_at a rest i (omega arith)

pub flat_length : (a : List Pair) → length (each flat_pair a) ≡ pair_size * length a
unfolding each flat_pair
flat_length [] = refl
flat_length (p ∷ a) = let h = flat_length a in omega arith

module _ (l : List ℕ) where
  pub pairs_end : (n : ℕ) → pairs_in l (suc n) ≡ pairs_in l n ++ pair_in l n ∷ []
  unfolding pairs_in
  pairs_end n =
      ap (map (pair_in l)) (range_end 0 n ∙ ap (λ (m : ℕ). range 0 n ++ m ∷ []) (zero_add n))
      ∙ map-append (pair_in l) (range 0 n) (n ∷ [])

-- ---- a record laid out is taken back

module _ (s : Session) (rest : List ℕ) where
  abbrev behind : List ℕ
  behind = each flat_pair s.pairs ++ rest

  number_at : (n : ℕ) → get_or (flat_head s ++ behind) (pairs_at + n) 0 ≡ get_or behind n 0
  unfolding flat_head
  number_at n = get_or-append-add (flat_head s) behind n 0

  pair_back : (i : ℕ) → i < length s.pairs → pair_in (flat_head s ++ behind) i ≡ get_or s.pairs i no_pair
  unfolding pair_in
  pair_back i h =
      let x : pair_place i + 1 ≡ pairs_at + suc (pair_size * i) = omega arith in
      let y : pair_place i + 2 ≡ pairs_at + suc (suc (pair_size * i)) = omega arith in
      let n = pair_size * i in
      simp (x, y, number_at n, number_at (suc n), number_at (suc (suc n))) (three_at s.pairs rest i h)

  pairs_back : (n : ℕ) → n ≤ length s.pairs → pairs_in (flat_head s ++ behind) n ≡ take n s.pairs
  unfolding pairs_in range
  pairs_back zero h = refl
  pairs_back (suc n) h =
      let back = pairs_back n (omega arith) in
      pairs_end (flat_head s ++ behind) n
      ∙ ap (λ (p : Pair). pairs_in (flat_head s ++ behind) n ++ p ∷ []) (pair_back n (omega arith))
      ∙ ap (λ (a : List Pair). a ++ get_or s.pairs n no_pair ∷ []) back
      ∙ sym (take-suc s.pairs n no_pair (omega arith))

module _ (s : Session) (rest : List ℕ) (full : length s.pairs ≡ place_count) where
  abbrev tail : List ℕ
  tail = flat_tail s ++ rest

  abbrev whole : List ℕ
  whole = flat_head s ++ (each flat_pair s.pairs ++ tail)

  laid_out : flatten s ++ rest ≡ whole
  unfolding flatten flat_head
  laid_out = ap (λ (r : List ℕ). flat_head s ++ r) (append_assoc (each flat_pair s.pairs) (flat_tail s) rest)

  -- number n of those behind the pair places
  tail_back : (n : ℕ) → get_or whole (field_weight_at + n) 0 ≡ get_or tail n 0
  tail_back n =
      let long = flat_length s.pairs in
      let k : field_weight_at + n ≡ pairs_at + (pair_size * place_count + n) = omega arith in
      let e : pair_size * place_count + n ≡ length (each flat_pair s.pairs) + n = omega arith in
      ap (λ (m : ℕ). get_or whole m 0) k
      ∙ number_at s tail (pair_size * place_count + n)
      ∙ ap (λ (m : ℕ). get_or (each flat_pair s.pairs ++ tail) m 0) e
      ∙ get_or-append-add (each flat_pair s.pairs) tail n 0

  pub back : unflatten (flatten s ++ rest) ≡ s
  unfolding flat_head flat_tail unflatten with_pairs query_with
  back =
      let pairs = pairs_back s tail place_count (omega arith) ∙ take_all place_count s.pairs (omega arith) in
      let n = s.joined in
      let joined : n % word + n / word * word ≡ n = omega (arith, div-add-mod' n word) in
      let field = tail_back 0 in
      let trim = tail_back 1 in
      let card = tail_back 2 in
      let field_tolerance = tail_back 3 in
      let trim_tolerance = tail_back 4 in
      let meaning = ap meaning_of (tail_back 5) ∙ meaning_back s.query.meaning in
      ap unflatten laid_out
      ∙ (λ i.
      record {
        query = record {
          k = s.query.k;
          block = s.query.block;
          radius = s.query.radius;
          weights = record { field = record { 0 = field i }; trim = record { 0 = trim i } };
          tolerances = record { field = record { 0 = field_tolerance i }; trim = record { 0 = trim_tolerance i } };
          meaning = meaning i;
        };
        rows = record { field = s.rows.field; trim = s.rows.trim; card = card i };
        depth = s.depth;
        last = s.last;
        out = s.out;
        held = s.held;
        pairs = pairs i;
        joined = joined i;
      })

-- ---- numbers taken back are laid out again

module _ (l : List ℕ) (long : flat_size ≤ length l) where
  one_from : (n j : ℕ) → j < length l → take (suc n) (drop j l) ≡ get_or l j 0 ∷ take n (drop (suc j) l)
  one_from n j h = ap (take (suc n)) (drop-cons l j 0 h)

  pair_forth : (n : ℕ) → n < place_count → take pair_size (drop (pair_size * n) (drop pairs_at l))
      ≡ flat_pair (pair_in l n)
  unfolding flat_pair pair_in
  pair_forth n h =
      let j = pair_place n in
      let x : pair_place n + 1 ≡ suc j = omega arith in
      let y : pair_place n + 2 ≡ suc (suc j) = omega arith in
      ap (take pair_size) (drop-drop (pair_size * n) pairs_at l)
      ∙ one_from 2 j (omega arith)
      ∙ ap (λ (r : List ℕ). get_or l j 0 ∷ r) (one_from 1 (suc j) (omega arith))
      ∙ ap (λ (r : List ℕ). get_or l j 0 ∷ get_or l (suc j) 0 ∷ r) (one_from 0 (suc (suc j)) (omega arith))
      ∙ rw (x, y)

  pairs_forth : (n : ℕ) → n ≤ place_count → each flat_pair (pairs_in l n) ≡ take (pair_size * n) (drop pairs_at l)
  unfolding each flat_pair pairs_in range
  pairs_forth zero h = refl
  pairs_forth (suc n) h =
      let forth = pairs_forth n (omega arith) in
      let k : pair_size * suc n ≡ pair_size * n + pair_size = omega arith in
      ap (each flat_pair) (pairs_end l n)
      ∙ each_append flat_pair (pairs_in l n) (pair_in l n ∷ [])
      ∙ ap (λ (r : List ℕ). r ++ flat_pair (pair_in l n)) forth
      ∙ ap (λ (r : List ℕ). take (pair_size * n) (drop pairs_at l) ++ r) (sym (pair_forth n (omega arith)))
      ∙ sym (take-add (pair_size * n) pair_size (drop pairs_at l))
      ∙ ap (λ (m : ℕ). take m (drop pairs_at l)) (sym k)

  head_forth : get_or l joined_at 0 < word → flat_head (unflatten l) ≡ take pairs_at l
  unfolding flat_head unflatten with_pairs query_with
  head_forth h =
      let low = get_or l joined_at 0 in
      let high = get_or l joined_high_at 0 in
      let shift = add-mul-div_right low high {z = word} (omega arith) in
      simp (add-mul-mod_self_right low high word, mod-eq_of_lt h, shift, div-eq_of_lt h, zero_add high)
      (rw (
        one_from 11 0 (omega arith),
        one_from 10 1 (omega arith),
        one_from 9 2 (omega arith),
        one_from 8 3 (omega arith),
        one_from 7 4 (omega arith),
        one_from 6 5 (omega arith),
        one_from 5 6 (omega arith),
        one_from 4 7 (omega arith),
        one_from 3 8 (omega arith),
        one_from 2 9 (omega arith),
        one_from 1 10 (omega arith),
        one_from 0 11 (omega arith),
      ))

  tail_forth : get_or l meaning_at 0 ≤ 1 → flat_tail (unflatten l) ≡ take tail_size (drop field_weight_at l)
  unfolding flat_tail unflatten with_pairs query_with
  tail_forth h =
      rw (
        one_from 5 field_weight_at (omega arith),
        one_from 4 trim_weight_at (omega arith),
        one_from 3 card_at (omega arith),
        one_from 2 field_tolerance_at (omega arith),
        one_from 1 trim_tolerance_at (omega arith),
        one_from 0 meaning_at (omega arith),
        meaning_forth (get_or l meaning_at 0) h,
      )

  -- the record that stands in a lent slice, its meaning 0 or 1, laid out in it, changes no number
  pub forth : get_or l joined_at 0 < word → get_or l meaning_at 0 ≤ 1 → flatten (unflatten l) ++ drop flat_size l ≡ l
  unfolding flatten unflatten with_pairs
  forth h k =
      ap (λ (r : List ℕ). r ++ each flat_pair (pairs_in l place_count) ++ flat_tail (unflatten l) ++ drop flat_size l)
      (head_forth h)
      ∙ ap (λ (r : List ℕ). take pairs_at l ++ r ++ flat_tail (unflatten l) ++ drop flat_size l)
      (pairs_forth place_count (omega arith))
      ∙ ap (λ (r : List ℕ). r ++ flat_tail (unflatten l) ++ drop flat_size l)
      (sym (take-add pairs_at (pair_size * place_count) l))
      ∙ ap (λ (r : List ℕ). take field_weight_at l ++ r ++ drop flat_size l) (tail_forth k)
      ∙ ap (λ (r : List ℕ). r ++ drop flat_size l) (sym (take-add field_weight_at tail_size l))
      ∙ take-append-drop flat_size l
