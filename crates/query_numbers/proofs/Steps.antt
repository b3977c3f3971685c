-- The numbers of pairs are parts of one length, and the answer is those in front and these. Assumes nothing.
use mathlib.Core.Path.{◌≡◌, refl, sym, ap, ◌∙◌}
use mathlib.Core.Bool.{true, false}
use mathlib.Core.List.{List, [], ◌∷◌, ◌++◌}
use Prim.Native.Nat.{ℕ, zero, suc, ◌+◌, ◌≤◌}
use native.Mathlib.Omega.{arith}
use lib.Dec.{leb}
use lib.ListN.{length, take, drop}
use borrow.Rule.Slice.PartMut.{put_mid}
use Rattle.std.proofs.lemmas.List.Edits.{paste_all}
use Rattle.std.proofs.lemmas.Slice.{put_mid-paste}
use Rattle.lists.specs.Lists.{each}
use Rattle.rules.specs.declared.Pair.{Pair}
use Rattle.rules.specs.declared.Query.{Query}
use Rattle.rules.specs.Query.{list}
use Rattle.printing.specs.Put.{put_at, put_on}
use Rattle.printing.specs.Laid.{laid}
use Rattle.outcomes.specs.declared.Outcome.{Outcome}
use Rattle.outcomes.specs.Outcomes.{query_outcome, OutcomeOf}
use Rattle.query_numbers.specs.declared.Part.{Part}
use Rattle.query_numbers.specs.declared.Part.TheVariants.{Numbers, Roots}
use Rattle.query_numbers.specs.Answers.{head_length, query_room, roots_room, list_numbers}
use Rattle.query_numbers.specs.Answers.{list_roots, head_numbers, query_numbers, answered}
use Rattle.query_numbers.specs.Parts.{part_length, part_numbers, part_length_lem, list_parts}
use Rattle.rules.specs.Tables.{Table}

-- numbers that are laid over others, and fit
put_between : (at m : ℕ) (b l : List ℕ) → m ≡ at + length b → m ≤ length l
    → take at l ++ (b ++ drop m l) ≡ put_at at b l
unfolding put_at
put_between zero zero [] [] e h = refl
put_between zero zero [] (x ∷ l) e h = refl
put_between zero zero (y ∷ b) l e h = absurd (omega arith)
put_between zero (suc m) [] l e h = absurd (omega arith)
put_between zero (suc m) (y ∷ b) [] e h = absurd (omega arith)
put_between zero (suc m) (y ∷ b) (x ∷ l) e h =
    ap (λ (r : List ℕ). y ∷ r) (put_between zero m b l (omega arith) (omega arith))
put_between (suc at) zero b l e h = absurd (omega arith)
put_between (suc at) (suc m) b [] e h = absurd (omega arith)
put_between (suc at) (suc m) b (x ∷ l) e h =
    ap (λ (r : List ℕ). x ∷ r) (put_between at m b l (omega arith) (omega arith))

-- what a part of k numbers holds now, put there
pub put_over : (at k : ℕ) (l v b : List ℕ) → v ≡ b → k ≡ length b → at + k ≤ length l → put_mid at k l v ≡ put_at at b l
put_over at k l v b e long fits =
    put_mid-paste at k l v b k e refl long
    ∙ paste_all l at b k long
    ∙ put_between at (at + k) b l (omega arith) fits

-- the part of pair n + 1
abbrev pub part_at : Part → Table → Table → ℕ → Pair → List ℕ
part_at part f t n p = part_numbers part f t p

module _ (part : Part) (f t : Table) where
  pub part_at_length : (n : ℕ) (p : Pair) → length (part_at part f t n p) ≡ part_length part
  part_at_length n p = part_length_lem part f t p

  each_laid : (n : ℕ) (l : List Pair) → each (part_numbers part f t) l ≡ laid (part_at part f t) n l
  unfolding each laid
  each_laid n [] = refl
  each_laid n (p ∷ l) = ap (λ (rest : List ℕ). part_numbers part f t p ++ rest) (each_laid (n + 1) l)

  pub parts_laid : (q : Query) → list_parts part q f t ≡ laid (part_at part f t) 0 (list q f t)
  unfolding list_parts
  parts_laid q = each_laid 0 (list q f t)

module _ (f t : Table) where
  parts_numbers : (q : Query) → list_parts Numbers q f t ≡ list_numbers q f t
  unfolding list_parts part_numbers list_numbers
  parts_numbers q = refl

  parts_roots : (q : Query) → list_parts Roots q f t ≡ list_roots q f t
  unfolding list_parts part_numbers list_roots
  parts_roots q = refl

  -- a, b: the numbers after those in front were written, then the pairs'
  numbers_put : (r : Outcome) (out a b : List ℕ) → OutcomeOf f t r →
      a ≡ put_at 0 (head_numbers r.session) out → b ≡ put_at head_length (list_parts Numbers r.query f t) a →
      b ≡ put_at 0 (query_numbers r.query f t) out
  unfolding query_numbers query_outcome
  numbers_put r out a b e ea eb =
      let pairs = list_numbers r.query f t in
      let front = ea ∙ ap (λ (x : Outcome). put_at 0 (head_numbers x.session) out) e in
      let s = (query_outcome r.query f t).session in
      eb
      ∙ ap (λ (l : List ℕ). put_at head_length l a) (parts_numbers r.query)
      ∙ ap (put_at head_length pairs) front
      ∙ sym (put_on 0 (head_numbers s) pairs out)

  -- and then the roots, where they are lent, or nothing
  module _ (r : Outcome) (out a b : List ℕ) (of : OutcomeOf f t r) (ea : a ≡ put_at 0 (head_numbers r.session) out)
      (eb : b ≡ put_at head_length (list_parts Numbers r.query f t) a) where
    pub answered_roots : (c : List ℕ) → leb roots_room (length out) ≡ true →
        c ≡ put_at query_room (list_parts Roots r.query f t) b → c ≡ answered r.query f t out
    unfolding answered
    answered_roots c room ec =
        simp room
        (ec
        ∙ ap (λ (l : List ℕ). put_at query_room l b) (parts_roots r.query)
        ∙ ap (put_at query_room (list_roots r.query f t)) (numbers_put r out a b of ea eb))

    pub answered_numbers : leb roots_room (length out) ≡ false → b ≡ answered r.query f t out
    unfolding answered
    answered_numbers room = simp room (numbers_put r out a b of ea eb)
