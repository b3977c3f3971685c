-- What single rules mean where a slip would not show in the rules' worked query: one law a rule. Assumes nothing.
use Rattle.std.specs.Prelude.{◌≡◌, Bool, true, false, ◌&&◌, ◌||◌, ◌⊎◌, ◌↔◌, eqb, leb, ltb}
use Rattle.std.proofs.Common.{inl, inr, ⊎_elim, arith}
use Prim.Native.Nat.{ℕ, ◌+◌, ◌<◌}
use borrow.Author.Tests.{lt-ltb, le-ltb, ltb-true, eq-eqb, ne_eqb, eqb-true}
use Rattle.lists.specs.Bools.{and_out, and_in, and_false, or_out, or_in_left, or_in_right}
use Rattle.rules.specs.declared.Query.{Query}
use Rattle.rules.specs.declared.Session.{Session}
use Rattle.rules.specs.Tables.{Table, terms, Block}
use Rattle.rules.specs.Session.{first_score, last_score, field_read_out, trim_read_out, held_pairs, ceiling_by, ceiling}
use Rattle.rules.specs.Read.{score_drop, field_next_by, field_next, lowest, skipped_by, skipped}

-- ---- the ceiling: a table that is read out has no part in it

pub ceiling_trim_read_out : (f t : Table) (s : Session) → trim_read_out t s ≡ true → field_read_out f s ≡ false →
    ceiling f t s ≡ last_score (terms s.query).field f s.depth.field.0 + first_score (terms s.query).trim t
unfolding ceiling_by
ceiling_trim_read_out f t s h k = simp (h, k) (omega arith)

pub ceiling_field_read_out : (f t : Table) (s : Session) → trim_read_out t s ≡ false → field_read_out f s ≡ true →
    ceiling f t s ≡ first_score (terms s.query).field f + last_score (terms s.query).trim t s.depth.trim.0
unfolding ceiling_by
ceiling_field_read_out f t s h k = simp (h, k) (omega arith)

-- ---- the table read next, both having been read and neither to its end

module _ (f t : Table) (s : Session) (p : 0 < s.depth.field.0) (q : 0 < s.depth.trim.0)
    (h : trim_read_out t s ≡ false) (k : field_read_out f s ≡ false) where
  abbrev d : ℕ
  d = s.depth.field.0

  abbrev e : ℕ
  e = s.depth.trim.0

  -- the drops of the two tables
  abbrev x : ℕ
  x = score_drop (terms s.query).field f d

  abbrev y : ℕ
  y = score_drop (terms s.query).trim t e

  pub smaller_drop_field : x < y → field_next f t s ≡ true
  unfolding field_next_by
  smaller_drop_field l =
      simp (ne_eqb d 0 (omega arith), ne_eqb e 0 (omega arith), h, k, lt-ltb x y l)

  pub smaller_drop_trim : y < x → field_next f t s ≡ false
  unfolding field_next_by
  smaller_drop_trim l =
      simp (
        ne_eqb d 0 (omega arith),
        ne_eqb e 0 (omega arith),
        h,
        k,
        le-ltb x y (omega arith),
        lt-ltb y x l,
      )

  -- at equal drops the one with fewer rows read, still equal the field table
  pub equal_drops : x ≡ y → field_next f t s ≡ leb d e
  unfolding field_next_by
  equal_drops l =
      simp (
        ne_eqb d 0 (omega arith),
        ne_eqb e 0 (omega arith),
        h,
        k,
        le-ltb x y (omega arith),
        le-ltb y x (omega arith),
      )

-- ---- which block pairs are skipped

-- what the first rows of two blocks add to a sum
abbrev pub first_scores : Query → Table → Table → ℕ
first_scores q x y = first_score (terms q).field x + first_score (terms q).trim y

module _ (s : Session) (x y : Block) where
  abbrev scores : ℕ
  scores = first_scores s.query x.rows y.rows

  -- out plus held is k, and the first scores add to less than the lowest held sum
  abbrev pub SkippedForScores : Type 0
  SkippedForScores = (s.out + s.held ≡ s.query.k) × (scores < lowest (held_pairs s))

  -- by either rule, and no other way
  pub skipped_is : (skipped s x y ≡ true)
      ↔ (SkippedForScores ⊎ ((terms s.query).far x.rows y.rows ≡ true))
  unfolding skipped_by
  skipped_is = (there, back)
    where
      n : ℕ
      n = s.out + s.held

      k : ℕ
      k = s.query.k

      least : ℕ
      least = lowest (held_pairs s)

      full : Bool
      full = eqb n k

      low : Bool
      low = ltb scores least

      far : Bool
      far = (terms s.query).far x.rows y.rows

      there : (full && low) || far ≡ true → SkippedForScores ⊎ (far ≡ true)
      there e =
          ⊎_elim
          (λ a. let both = and_out full low a in inl (eqb-true n k both.0, ltb-true scores least both.1))
          inr (or_out (full && low) far e)

      back : SkippedForScores ⊎ (far ≡ true) → (full && low) || far ≡ true
      back (inl h) =
          or_in_left (full && low) far (and_in full low (eq-eqb n k h.0) (lt-ltb scores least h.1))
      back (inr h) = or_in_right (full && low) far h

  -- where the first scores add to just the lowest held sum, shades alone decide
  pub joined_at_equality : scores ≡ lowest (held_pairs s)
      → skipped s x y ≡ (terms s.query).far x.rows y.rows
  unfolding skipped_by
  joined_at_equality h =
      simp (
        le-ltb scores (lowest (held_pairs s)) (omega arith),
        and_false (eqb (s.out + s.held) s.query.k),
      )
