-- The two ends of a query: refused, or its answer written. Assumes nothing.
use mathlib.Core.Path.{◌≡◌, sym, ap, ap₂, subst₂, ◌∙◌}
use mathlib.Core.List.{List, [], ◌∷◌}
use Prim.Native.Nat.{ℕ, ◌≤◌}
use native.Mathlib.Omega.{arith}
use lib.Dec.{leb}
use lib.IntN.{pos, neg_ℤ}
use lib.ListN.{length, get_or}
use borrow.Author.Tests.{leb-true, eq-eqb, ne_eqb}
use Rattle.rules.specs.declared.Query.{Query}
use Rattle.rules.specs.declared.Refusal.{Refusal}
use Rattle.rules.specs.declared.Refusal.TheVariants.{ListLength, BlockSize, RadiusRange, TableSize, BadRecord, RowLimit}
use Rattle.rules.specs.declared.Refusal.TheVariants.{RowOrder, CutFile, BadColumn, WrongKind, ShortSlice, WeightRange}
use Rattle.rules.specs.declared.Refusal.TheVariants.{OtherCard, ToleranceRange}
use Rattle.rules.specs.Session.{lent_table}
use Rattle.rules.specs.Numbers.{short_slice, unless, first, signed, code, number_of}
use Rattle.rules.specs.Checks.{unless_out, first_out}
use Rattle.record_layout.specs.Flat.{query_size, query_in}
use Rattle.outcomes.specs.declared.Outcome.{Outcome}
use Rattle.outcomes.specs.Outcomes.{query_outcome, opening_checked, reading_checked, OutcomeOf, is_outcome}
use Rattle.outcomes.specs.Outcomes.{lent_outcome}
use Rattle.whole_query.specs.Asked.{asked_code, count_said, written_unless}
use Rattle.rules.specs.Tables.{Table}

-- a refusal's number is not 0
some : (r : Refusal) → 1 ≤ number_of r
some ListLength = omega arith
some BlockSize = omega arith
some RadiusRange = omega arith
some TableSize = omega arith
some BadRecord = omega arith
some RowLimit = omega arith
some RowOrder = omega arith
some CutFile = omega arith
some BadColumn = omega arith
some WrongKind = omega arith
some ShortSlice = omega arith
some WeightRange = omega arith
some OtherCard = omega arith
some ToleranceRange = omega arith

-- the code's checks, of the outcome that it has
abbrev pub checks : ℕ → List ℕ → ℕ → Outcome → List ℕ
checks least l room r =
    unless (leb query_size (length l)) short_slice
    ∷ code r.opening
    ∷ code r.reading
    ∷ unless (leb least room) short_slice
    ∷ []

module _ (least : ℕ) (l : List ℕ) (f t : Table) (room : ℕ) where
  pub checks_code : (r : Outcome) → r ≡ query_outcome (query_in l) f t
      → first (checks least l room r) ≡ asked_code least l f t room
  unfolding asked_code
  checks_code r ran =
      let q = query_in l in
      ap (λ (x : Outcome). first (checks least l room x)) ran
      ∙ ap₂
      (λ (x : ℕ) (y : ℕ).
      first
      (unless (leb query_size (length l)) short_slice ∷ x ∷ y ∷ unless (leb least room) short_slice ∷ []))
      (opening_checked q f t) (reading_checked q f t)

  -- where nothing refuses a query that was run
  module _ (r : Outcome) (ran : r ≡ query_outcome (query_in l) f t) (z : asked_code least l f t room ≡ 0) where
    passes : (i : ℕ) → get_or (checks least l room r) i 0 ≡ 0
    passes = first_out (checks least l room r) (checks_code r ran ∙ z)

    pub has_room : least ≤ room
    has_room = leb-true least room (unless_out (leb least room) short_slice (omega arith) (passes 3))

    pub outcome_is : OutcomeOf f t r
    outcome_is = (is_outcome (query_in l) f t r ran).1

    -- the slices, on the card of the record that the reading ended with, are the tables
    pub lents : (lent_table r.session f.numbers ≡ f) × (lent_table r.session t.numbers ≡ t)
    lents = lent_outcome (query_in l) f t r ran (passes 1)

    -- so the outcome is one over these slices
    pub outcome_lent : OutcomeOf (lent_table r.session f.numbers) (lent_table r.session t.numbers) r
    outcome_lent = subst₂ (λ x y. OutcomeOf x y r) (sym lents.0) (sym lents.1) outcome_is

  -- of a query's answer: how many there are, and the lent places with it written
  module _ (count : Query → ℕ) (written : Query → List ℕ) (out : List ℕ) where
    pub refused : (r : Refusal) → number_of r ≡ asked_code least l f t room →
        (neg_ℤ (pos (number_of r)) ≡ signed (count_said (asked_code least l f t room) (count (query_in l))))
        × (out ≡ written_unless (asked_code least l f t room) (written (query_in l)) out)
    unfolding written_unless
    refused r e =
        let h = ne_eqb (number_of r) 0 (λ z. absurd (let n = some r in omega arith)) in rw (← e) (simp h, simp h)

    pub found : asked_code least l f t room ≡ 0 → (r : Outcome) → r ≡ query_outcome (query_in l) f t →
        (n : ℕ) (next : List ℕ) → n ≡ count r.query → next ≡ written r.query →
        (pos n ≡ signed (count_said (asked_code least l f t room) (count (query_in l))))
        × (next ≡ written_unless (asked_code least l f t room) (written (query_in l)) out)
    unfolding written_unless
    found z r ran n next en w =
        let same = (is_outcome (query_in l) f t r ran).0 in
        let m : n ≡ count (query_in l) = en ∙ ap count same in
        let v : next ≡ written (query_in l) = w ∙ ap written same in
        simp (eq-eqb _ 0 z) (ap pos m, v)
