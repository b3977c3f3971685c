-- Pairs named by their two rows, and pairs that carry their own sum: where all fit, one word for both. Assumes nothing.
use Rattle.std.specs.Prelude.{◌≡◌, refl, ℕ}
use Rattle.std.proofs.Common.{sym, ap, ◌∙◌, inl, inr}
use mathlib.Core.List.Memᴰ
use mathlib.Core.List.{List, [], ◌∷◌, Memᴰ}
use Rattle.rules.specs.declared.Pair.{Pair}
use Rattle.rules.specs.declared.Query.{Query}
use Rattle.tables_join.specs.Pairs.{QualifyingPair}
use Rattle.demand.specs.Demand.{Qualifying, sum_of, IsIn}
use Rattle.rules.specs.Tables.{Table}

-- a pair that is in a list is there by its rows
pub mem_in : (p : Pair) (l : List Pair) → Memᴰ p l → IsIn l p.field p.trim
mem_in p [] m = elim m [ ]
mem_in p (x ∷ l) (Memᴰ.head e) = inl (ap (λ p. p.field) (sym e), ap (λ p. p.trim) (sym e))
mem_in p (x ∷ l) (Memᴰ.tail m) = inr (mem_in p l m)

module _ (q : Query) (f t : Table) where
  -- the pair of two rows, with its own sum
  abbrev pub named : ℕ → ℕ → Pair
  named i j = record { sum = sum_of q f t i j; field = i; trim = j }

  pub named_fits : (i j : ℕ) → Qualifying q f t i j → QualifyingPair q f t (named i j)
  named_fits i j h = record { field_row = h.field_row; trim_row = h.trim_row; near = h.near; own_sum = refl }

  pub fits_qualifying : (p : Pair) → QualifyingPair q f t p → Qualifying q f t p.field p.trim
  fits_qualifying p h = record { field_row = h.field_row; trim_row = h.trim_row; near = h.near }

  fits_named : (p : Pair) → QualifyingPair q f t p → p ≡ named p.field p.trim
  fits_named p h = λ z. record { sum = h.own_sum z; field = p.field; trim = p.trim }

  -- of pairs that all fit, the one with these rows is there with its own sum
  named_mem : (i j : ℕ) (l : List Pair) → ((p : Pair) → Memᴰ p l → QualifyingPair q f t p) → IsIn l i j
      → Memᴰ (named i j) l
  named_mem i j [] h m = elim m [ ]
  named_mem i j (x ∷ l) h (inl e) =
      Memᴰ.head (sym (fits_named x (h x (Memᴰ.head refl)) ∙ λ z. named (e.0 z) (e.1 z)))
  named_mem i j (x ∷ l) h (inr m) = Memᴰ.tail (named_mem i j l (λ p k. h p (Memᴰ.tail k)) m)

  pub in_mem : (p : Pair) → QualifyingPair q f t p → (l : List Pair)
      → ((p : Pair) → Memᴰ p l → QualifyingPair q f t p) → IsIn l p.field p.trim → Memᴰ p l
  in_mem p k l h o = Memᴰ.cast (fits_named p k) (named_mem p.field p.trim l h o)
