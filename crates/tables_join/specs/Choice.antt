-- The table that is read next is the join's choice, so no read goes past a sure reading by a block or more. Assumes
-- legal tables.
use Rattle.std.specs.Prelude.{◌≡◌, Bool, true, false, cond, ◌&&◌, List, ℕ, ◌≤◌, ◌<◌, max, ◌+◌, ◌-◌, leb, ltb, eqb}
use Rattle.std.proofs.Math.Path.{refl}
use Rattle.std.proofs.Common.{sym, ap, ap₂, subst, ◌∙◌, inl, inr, arith, leb-true, leb-false, ltb-true, ltb-false}
use Rattle.std.proofs.Common.{eqb-true}
use Rattle.std.proofs.lemmas.Bool.{eqb-false}
use Rattle.lists.specs.Bools.{clash}
use Rattle.join.specs.Join.{Chosen, drop_at}
use Rattle.join.specs.Limit.{row_limit_lem, row_limit_trim}
use Rattle.rules.specs.declared.FieldRows.{FieldRows}
use Rattle.rules.specs.declared.TrimRows.{TrimRows}
use Rattle.rules.specs.declared.Pair.{Pair}
use Rattle.rules.specs.declared.Query.{Query}
use Rattle.rules.specs.declared.Session.{Session}
use Rattle.rules.specs.Tables.{Table, unsatisfiable, terms, legal}
use Rattle.rules.specs.Session.{field_read_out, trim_read_out, both_read_out, settled}
use Rattle.rules.specs.Read.{score_drop, field_next_by, field_next, read_table, read_block}
use Rattle.rules.specs.Sure.{Sure}
use Rattle.session_laws.specs.Read.{read_field, read_trim, unsettled_out}
use Rattle.tables_join.specs.Rows.{rows_of, field_side, trim_side, near, field_rises, trim_rises, empty_read}
use Rattle.tables_join.specs.Rows.{legal_rows, laws}
use Rattle.tables_join.specs.Sure.{sure_rows}
use Rattle.tables_join.specs.Reached.{Reached}
use Rattle.tables_join.specs.Ceiling.{field_ended, trim_ended, first_field, last_field, first_trim, last_trim}
use Rattle.tables_join.specs.Ceiling.{unsettled_short}

module _ {q : Query} {f t : Table} {out : List Pair} {s : Session} (a : Reached q f t out s)
    (more : both_read_out f t s ≡ false) where
  abbrev d : ℕ
  d = s.depth.field.0

  abbrev e : ℕ
  e = s.depth.trim.0

  -- the drops of the two tables
  abbrev u : ℕ
  u = score_drop (terms s.query).field f d

  abbrev v : ℕ
  v = score_drop (terms s.query).trim t e

  abbrev next : Bool → Bool → Bool → Bool → Bool → Bool → Bool
  next d0 e0 trimOut fieldOut less greater =
      cond d0 true
      (cond e0 false (cond trimOut true (cond fieldOut false (cond less true (cond greater false (leb d e))))))

  -- what each test of the choice says
  abbrev Choosing : (Bool → Type 0) → Type 0
  Choosing C =
      (z w x y l m : Bool) → eqb d 0 ≡ z → eqb e 0 ≡ w → trim_read_out t s ≡ x → field_read_out f s ≡ y
      → ltb u v ≡ l → ltb v u ≡ m → C (next z w x y l m)

  by_tests : (C : Bool → Type 0) → Choosing C → C (field_next f t s)
  unfolding field_next_by
  by_tests C go =
      go (eqb d 0) (eqb e 0) (trim_read_out t s) (field_read_out f s) (ltb u v) (ltb v u) refl refl refl refl refl refl

  module _ (d0 : eqb d 0 ≡ false) (e0 : eqb e 0 ≡ false) where
    field_some : 1 ≤ d
    field_some = let z = eqb-false d 0 d0 in omega arith

    trim_some : 1 ≤ e
    trim_some = let z = eqb-false e 0 e0 in omega arith

    field_drop_lem : drop_at (field_side f.coordinates q) (rows_of f) d ≡ u
    field_drop_lem = omega (arith, first_field a field_some trim_some, last_field a field_some trim_some)

    trim_drop_lem : drop_at (trim_side t.coordinates q) (rows_of t) e ≡ v
    trim_drop_lem = omega (arith, first_trim a field_some trim_some, last_trim a field_some trim_some)

  -- the join's choice of the field table, or of the trim table
  abbrev Next : Bool → Type 0
  Next true = Chosen (field_side f.coordinates q) (trim_side t.coordinates q) (rows_of f) d (rows_of t) e
  Next false = Chosen (trim_side t.coordinates q) (field_side f.coordinates q) (rows_of t) e (rows_of f) d

  chosen : (field : Bool) → field_next f t s ≡ field → Next field
  chosen field n = subst Next n (by_tests Next go)
    where
      -- equal drops: the one with fewer rows read
      fewer : ltb u v ≡ false → ltb v u ≡ false
          → drop_at (field_side f.coordinates q) (rows_of f) d ≡ u
          → drop_at (trim_side t.coordinates q) (rows_of t) e ≡ v → 1 ≤ d → 1 ≤ e
          → (field_side f.coordinates q).ended (rows_of f) d ≡ false
          → (trim_side t.coordinates q).ended (rows_of t) e ≡ false → (b : Bool) → leb d e ≡ b → Next b
      fewer l m i j hd he x y true n =
          let no_less = ltb-false v u m in
          inr (he, x, inr (inr (omega (arith, i, j), leb-true d e n)))
      fewer l m i j hd he x y false n =
          let no_less = ltb-false u v l in
          inr (hd, y, inr (inr (omega (arith, i, j), omega (arith, leb-false d e n))))

      go : Choosing Next
      go true w x y l m ez ew ex ey el em = inl (eqb-true d 0 ez)
      go false true x y l m ez ew ex ey el em = inl (eqb-true e 0 ew)
      go false false true true l m ez ew ex ey el em = clash (rw ey ex) more
      go false false true false l m ez ew ex ey el em =
          inr (trim_some ez ew, field_ended a ∙ ey, inl (trim_ended a ∙ ex))
      go false false false true l m ez ew ex ey el em =
          inr (field_some ez ew, trim_ended a ∙ ex, inl (field_ended a ∙ ey))
      go false false false false true m ez ew ex ey el em =
          let less = ltb-true u v el in
          inr (
            trim_some ez ew,
            field_ended a ∙ ey,
            inr (inl (omega (arith, field_drop_lem ez ew, trim_drop_lem ez ew))),
          )
      go false false false false false true ez ew ex ey el em =
          let less = ltb-true v u em in
          inr (
            field_some ez ew,
            trim_ended a ∙ ex,
            inr (inl (omega (arith, field_drop_lem ez ew, trim_drop_lem ez ew))),
          )
      go false false false false false false ez ew ex ey el em =
          fewer el em (field_drop_lem ez ew) (trim_drop_lem ez ew) (field_some ez ew) (trim_some ez ew)
          (field_ended a ∙ ey)
          (trim_ended a ∙ ex) (leb d e) refl

-- fact 5 of a session: an unsettled read goes on from a depth below every sure reading's
module _ {q : Query} {f t : Table} {out : List Pair} {s : Session} (a : Reached q f t out s) (g : legal f ≡ true)
    (h : legal t ≡ true) (wanted : 1 ≤ q.k) (u : settled f t s ≡ false) (m : FieldRows) (n : TrimRows)
    (sure : Sure q f t m n) where
  live : (field_side f.coordinates q).empty (rows_of f) s.depth.field.0 ≡ false
  live =
      empty_read (field_rises q a.accepted) f s.depth.field.0 s.rows.field.0 a.field_rows_lem
      a.field_depth
      ∙ (unsettled_out f t s u).field_live

  live_trim : (trim_side t.coordinates q).empty (rows_of t) s.depth.trim.0 ≡ false
  live_trim =
      empty_read (trim_rises q a.accepted) t s.depth.trim.0 s.rows.trim.0 a.trim_rows_lem a.trim_depth
      ∙ (unsettled_out f t s u).trim_live

  unended : ((field_side f.coordinates q).ended (rows_of f) s.depth.field.0
      && (trim_side t.coordinates q).ended (rows_of t) s.depth.trim.0)
      ≡ false
  unended = rw (field_ended a, trim_ended a) (unsettled_out f t s u).unread

  satisfiable : unsatisfiable q f.coordinates ≡ false
  satisfiable =
      sym (ap₂ unsatisfiable a.query a.card) ∙ (unsettled_out f t s u).satisfiable

  field_limit : field_next f t s ≡ true → s.depth.field.0 < max m.0 n.0
  field_limit c =
      row_limit_lem (field_side f.coordinates q) (trim_side t.coordinates q) (near q)
      (laws q a.accepted f t a.cards.same satisfiable) (rows_of f) (rows_of t)
      (legal_rows f g (field_rises q a.accepted)) (legal_rows t h (trim_rises q a.accepted))
      q.k m.0 n.0 s.depth.field.0 s.depth.trim.0 wanted live live_trim unended
      (λ hd he. unsettled_short a g h hd he u) (chosen a (unsettled_out f t s u).unread true c)
      ((sure_rows q a.accepted f t m n g h).0 sure)

  trim_limit : field_next f t s ≡ false → s.depth.trim.0 < max m.0 n.0
  trim_limit c =
      row_limit_trim (field_side f.coordinates q) (trim_side t.coordinates q) (near q)
      (laws q a.accepted f t a.cards.same satisfiable) (rows_of f) (rows_of t)
      (legal_rows f g (field_rises q a.accepted)) (legal_rows t h (trim_rises q a.accepted)) q.k
      m.0 n.0 s.depth.field.0 s.depth.trim.0 wanted live live_trim unended
      (λ hd he. unsettled_short a g h hd he u) (chosen a (unsettled_out f t s u).unread false c)
      ((sure_rows q a.accepted f t m n g h).0 sure)

  abbrev limit : ℕ
  limit = max m.0 n.0 + q.block - 1

  -- so it stays below max(m, n) + block, as both depths did
  pub read_limit : (s.depth.field.0 ≤ limit) × (s.depth.trim.0 ≤ limit)
      → ((read_block f t s).depth.field.0 ≤ limit) × ((read_block f t s).depth.trim.0 ≤ limit)
  read_limit l = go (field_next f t s) refl
    where
      size : s.query.block ≡ q.block
      size = ap (λ q. q.block) a.query

      go : (b : Bool) → field_next f t s ≡ b
          → ((read_table b f t s).depth.field.0 ≤ limit) × ((read_table b f t s).depth.trim.0 ≤ limit)
      go true e =
          let k = field_limit e in
          (omega (arith, size, read_field true f t s, l), omega (arith, read_trim true f t s, l))
      go false e =
          let k = trim_limit e in
          (omega (arith, read_field false f t s, l), omega (arith, size, read_trim false f t s, l))
