-- What the calls know once their checks have passed, what they then answer, and which checks legal tables pass. Assumes
-- nothing.
use Rattle.std.specs.Prelude.{◌≡◌, ◌&&◌}
use Rattle.std.proofs.Math.Path.{refl, ap, subst}
use Rattle.std.proofs.Common.{sym, ◌∙◌}
use Rattle.std.proofs.Math.Bool.{Bool, true, false, cond}
use mathlib.Core.List.{[], ◌∷◌}
use Prim.Native.Nat.{ℕ, suc, ◌+◌, ◌-◌, ◌≤◌, ◌<◌}
use native.Mathlib.Omega.{arith}
use Rattle.std.proofs.Math.Decide.{dec_le}
use Rattle.std.proofs.Math.Dec.{eqb}
use borrow.Author.Tests.{eqb-true, eq-eqb}
use Rattle.lists.specs.Bools.{clash, and_out}
use Rattle.rules.specs.declared.Query.{Query}
use Rattle.rules.specs.declared.Session.{Session}
use Rattle.rules.specs.declared.Step.{Step}
use Rattle.rules.specs.declared.Answer.{Answer}
use Rattle.rules.specs.declared.Answer.TheVariants.{Opened, Read, Settled, Given, NotYet, Finished}
use Rattle.rules.specs.Tables.{Table, row_count, size_fits, legal}
use Rattle.rules.specs.Session.{two_tables, opened, zeros, settled}
use Rattle.rules.specs.Read.{field_next, old_depth, new_depth, read_block}
use Rattle.rules.specs.Take.{first_held, gives_pair, moved_out, finished}
use Rattle.rules.specs.Numbers.{table_size, bad_record, wrong_kind, other_card, said}
use Rattle.rules.specs.Checks.{first_out, unless_out}
use Rattle.rules.specs.Calls.{query_code, is_card, kind_code, cards_code, size_code, same_size_code, rows_code}
use Rattle.rules.specs.Calls.{record_fits}
use Rattle.rules.specs.Calls.{new_block_code_by, new_block_code, step, open_code, open_call, read_call_by, read_call}
use Rattle.rules.specs.Calls.{take_call_by}
use Rattle.rules.specs.Calls.{record_code, lent_code, call_code, take_call}
use Rattle.rules.specs.Query.{was_read, was_given, read_until_settled, settled_session}
use Rattle.rules.specs.Numbers.{refused}
use Rattle.session_laws.specs.Tables.{Sized, size_out, size_in, RowFits, rows_out, rows_in, legal_out}
use Rattle.session_laws.specs.Record.{RecordFits, record_out, record_in}

-- ---- Opening

-- two tables on one of the two cards
pub record OneCard (f t : Table) : Type 0 where
  pub known : is_card f.coordinates ≡ true
  pub same : f.coordinates ≡ t.coordinates

pub record Opening (q : Query) (f t : Table) : Type 0 where
  pub query : query_code q ≡ 0
  pub field : Sized f
  pub trim : Sized t
  pub cards : OneCard f t

module _ (q : Query) (f t : Table) where
  pub open_out : open_code q f t ≡ 0 → Opening q f t
  unfolding open_code kind_code size_code cards_code
  open_out h =
      let sizes = size_code f ∷ size_code t ∷ cards_code f t ∷ [] in
      let passes = first_out (query_code q ∷ kind_code f ∷ kind_code t ∷ sizes) h in
      let same = eqb f.coordinates t.coordinates in
      record {
        query = passes 0;
        field = size_out f (unless_out (size_fits f) table_size (omega arith) (passes 3));
        trim = size_out t (unless_out (size_fits t) table_size (omega arith) (passes 4));
        cards =
            record {
              known = unless_out (is_card f.coordinates) wrong_kind (omega arith) (passes 1);
              same = eqb-true f.coordinates t.coordinates (unless_out same other_card (omega arith) (passes 5));
            };
      }

  pub open_in : Opening q f t → open_code q f t ≡ 0
  unfolding open_code kind_code size_code cards_code
  open_in h =
      rw (
        h.query,
        h.cards.known,
        subst (λ n. is_card n ≡ true) h.cards.same h.cards.known,
        size_in f h.field,
        size_in t h.trim,
        eq-eqb f.coordinates t.coordinates h.cards.same,
      )

  pub opened_code : (open_call q f t).answer ≡ Opened → open_code q f t ≡ 0
  unfolding open_call
  opened_code e = go (eqb (open_code q f t) 0) refl e
    where
      go : (b : Bool) → eqb (open_code q f t) 0 ≡ b
          → (cond b (step Opened (opened q (two_tables f t)))
          (step (refused (open_code q f t)) zeros)).answer
          ≡ Opened
          → open_code q f t ≡ 0
      go true z e = eqb-true (open_code q f t) 0 z
      go false z e = clash (ap (λ (a : Answer). (said a).accepted) e) refl

  pub opened_query : (open_call q f t).answer ≡ Opened → query_code q ≡ 0
  opened_query e = (open_out (opened_code e)).query

  pub opened_cards : (open_call q f t).answer ≡ Opened → OneCard f t
  opened_cards e = (open_out (opened_code e)).cards

  -- a query that is accepted opens any two legal tables on one card
  pub legal_opened : query_code q ≡ 0 → OneCard f t → legal f ≡ true → legal t ≡ true
      → open_call q f t ≡ step Opened (opened q (two_tables f t))
  unfolding open_call
  legal_opened e cards g h =
      let fits : Opening q f t =
      record { query = e; field = (legal_out f g).size; trim = (legal_out t h).size; cards = cards } in
      rw (eq-eqb (open_code q f t) 0 (open_in fits))

  -- and a whole query of them reads on from there
  pub legal_settled : query_code q ≡ 0 → OneCard f t → legal f ≡ true → legal t ≡ true
      → settled_session q f t ≡ read_until_settled (suc (row_count f + row_count t)) f t (opened q (two_tables f t))
  unfolding settled_session opened
  legal_settled e cards g h =
      let n : row_count f + row_count t + 1 ≡ suc (row_count f + row_count t) = omega arith in
      ap
      (λ x.
      let s = x.session in
      read_until_settled (s.rows.field.0 + s.rows.trim.0 + 1) f t s)
      (legal_opened e cards g h)
      ∙ ap (λ n. read_until_settled n f t (opened q (two_tables f t))) n

-- ---- 4, later: a slice of the row count at opening

pub record SameSize (rows : ℕ) (t : Table) : Type 0 where
  pub size : Sized t
  pub count : row_count t ≡ rows

module _ (rows : ℕ) (t : Table) where
  pub same_size_out : same_size_code rows t ≡ 0 → SameSize rows t
  unfolding same_size_code
  same_size_out h =
      let passes = unless_out (size_fits t && eqb (row_count t) rows) table_size (omega arith) h in
      let both = and_out (size_fits t) (eqb (row_count t) rows) passes in
      record { size = size_out t both.0; count = eqb-true (row_count t) rows both.1 }

  pub same_size_in : SameSize rows t → same_size_code rows t ≡ 0
  unfolding same_size_code
  same_size_in h = rw (size_in t h.size, eq-eqb (row_count t) rows h.count)

-- ---- 5, 4, 6, 7: a record and two slices

-- neither by 5 nor by 4
pub record Lent (f t : Table) (s : Session) : Type 0 where
  pub fits : RecordFits s
  pub field : SameSize s.rows.field.0 f
  pub trim : SameSize s.rows.trim.0 t

-- nor by 6 or 7
pub record Accepted (f t : Table) (s : Session) : Type 0 where
  pub lent : Lent f t s
  pub field_rows_lem : (i : ℕ) → i < s.depth.field.0 → RowFits f i
  pub trim_rows_lem : (i : ℕ) → i < s.depth.trim.0 → RowFits t i

module _ (f t : Table) (s : Session) where
  pub lent_out : lent_code f t s ≡ 0 → Lent f t s
  unfolding lent_code record_code
  lent_out h =
      let sizes = same_size_code s.rows.field.0 f ∷ same_size_code s.rows.trim.0 t ∷ [] in
      let passes = first_out (record_code s ∷ sizes) h in
      record {
        fits = record_out s (unless_out (record_fits s) bad_record (omega arith) (passes 0));
        field = same_size_out s.rows.field.0 f (passes 1);
        trim = same_size_out s.rows.trim.0 t (passes 2);
      }

  pub lent_in : Lent f t s → lent_code f t s ≡ 0
  unfolding lent_code record_code
  lent_in h =
      rw (
        record_in s h.fits,
        same_size_in s.rows.field.0 f h.field,
        same_size_in s.rows.trim.0 t h.trim,
      )

  pub call_out : call_code f t s ≡ 0 → Accepted f t s
  unfolding call_code
  call_out h =
      let rows = rows_code f 0 s.depth.field.0 ∷ rows_code t 0 s.depth.trim.0 ∷ [] in
      let passes = first_out (lent_code f t s ∷ rows) h in
      record {
        lent = lent_out (passes 0);
        field_rows_lem = λ i k. rows_out f 0 s.depth.field.0 (passes 1) i (omega arith) (omega arith);
        trim_rows_lem = λ i k. rows_out t 0 s.depth.trim.0 (passes 2) i (omega arith) (omega arith);
      }

  pub call_in : Accepted f t s → call_code f t s ≡ 0
  unfolding call_code
  call_in h =
      rw (
        lent_in h.lent,
        rows_in f 0 s.depth.field.0 (λ i k l. h.field_rows_lem i (omega arith)),
        rows_in t 0 s.depth.trim.0 (λ i k l. h.trim_rows_lem i (omega arith)),
      )

  -- the record that was accepted passes 5
  pub call_record : call_code f t s ≡ 0 → record_fits s ≡ true
  call_record h = record_in s (call_out h).lent.fits

-- ---- 6 and 7: a read's new block

-- the rows of the new block, of the field table or of the trim table
abbrev pub NewRowsFit : Bool → Table → Table → Session → Type 0
NewRowsFit field f t s = (i : ℕ) → old_depth field s ≤ i → i < new_depth field s → RowFits (cond field f t) i

module _ (f t : Table) (s : Session) where
  pub new_block_out : new_block_code f t s ≡ 0 → NewRowsFit (field_next f t s) f t s
  unfolding new_block_code_by
  new_block_out h i k l =
      let field = field_next f t s in
      rows_out (cond field f t) (old_depth field s) (new_depth field s - old_depth field s) h i k (omega arith)

  pub new_block_in : NewRowsFit (field_next f t s) f t s → new_block_code f t s ≡ 0
  unfolding new_block_code_by
  new_block_in h =
      let field = field_next f t s in
      rows_in (cond field f t) (old_depth field s) (new_depth field s - old_depth field s)
      (λ i k l. h i k (omega arith))

-- every row down to the depths after the read
pub read_rows : (field : Bool) (f t : Table) (s : Session) → Accepted f t s → NewRowsFit field f t s
    → ((i : ℕ) → i < cond field (new_depth field s) s.depth.field.0 → RowFits f i)
    × ((i : ℕ) → i < cond field s.depth.trim.0 (new_depth field s) → RowFits t i)
read_rows true f t s a new = (λ i h. go i h (dec_le s.depth.field.0 i), a.trim_rows_lem)
  where
    go : (i : ℕ) → i < new_depth true s → Dec (s.depth.field.0 ≤ i) → RowFits f i
    go i h (yes k) = new i k h
    go i h (no k) = a.field_rows_lem i (omega arith)
read_rows false f t s a new = (a.field_rows_lem, λ i h. go i h (dec_le s.depth.trim.0 i))
  where
    go : (i : ℕ) → i < new_depth false s → Dec (s.depth.trim.0 ≤ i) → RowFits t i
    go i h (yes k) = new i k h
    go i h (no k) = a.trim_rows_lem i (omega arith)

-- ---- Legal tables: only the record could be refused

module _ (f t : Table) (s : Session) (g : legal f ≡ true) (h : legal t ≡ true) (m : s.rows.field.0 ≡ row_count f)
    (n : s.rows.trim.0 ≡ row_count t) (d : s.depth.field.0 ≤ row_count f) (e : s.depth.trim.0 ≤ row_count t) where
  pub call_accepted : record_fits s ≡ true → call_code f t s ≡ 0
  call_accepted fits =
      let x = legal_out f g in
      let y = legal_out t h in
      call_in f t s
      (record {
        lent =
            record {
              fits = record_out s fits;
              field = record { size = x.size; count = sym m };
              trim = record { size = y.size; count = sym n };
            };
        field_rows_lem = λ i k. x.rows i (omega arith);
        trim_rows_lem = λ i k. y.rows i (omega arith);
      })

  new_rows : (field : Bool) → NewRowsFit field f t s
  new_rows true i k l = (legal_out f g).rows i (omega arith)
  new_rows false i k l = (legal_out t h).rows i (omega arith)

  pub new_block_accepted : new_block_code f t s ≡ 0
  new_block_accepted = new_block_in f t s (new_rows (field_next f t s))

-- ---- What an accepted call answers

module _ (f t : Table) (s : Session) (a : call_code f t s ≡ 0) where
  pub read_settled : settled f t s ≡ true → read_call f t s ≡ step Settled s
  unfolding read_call_by
  read_settled e = rw (eq-eqb (call_code f t s) 0 a, e)

  pub read_goes : settled f t s ≡ false → new_block_code f t s ≡ 0 → read_call f t s ≡ step Read (read_block f t s)
  unfolding read_call_by
  read_goes e b = rw (eq-eqb (call_code f t s) 0 a, e, eq-eqb (new_block_code f t s) 0 b)

  pub take_gives : gives_pair f t s ≡ true → take_call f t s ≡ step (Given (first_held s)) (moved_out s)
  unfolding take_call_by
  take_gives e = rw (eq-eqb (call_code f t s) 0 a, e)

  pub take_finishes : gives_pair f t s ≡ false → finished f t s ≡ true → take_call f t s ≡ step Finished s
  unfolding take_call_by
  take_finishes e b = rw (eq-eqb (call_code f t s) 0 a, e, b)

  pub take_waits : gives_pair f t s ≡ false → finished f t s ≡ false → take_call f t s ≡ step NotYet s
  unfolding take_call_by
  take_waits e b = rw (eq-eqb (call_code f t s) 0 a, e, b)

-- ---- What an answer says of the call

-- a read that reads a block was accepted, and not settled
pub record Reads (f t : Table) (s : Session) : Type 0 where
  pub accepted : call_code f t s ≡ 0
  pub unsettled : settled f t s ≡ false
  pub new_block : new_block_code f t s ≡ 0
  pub after : read_call f t s ≡ step Read (read_block f t s)

-- a take that answers a pair was accepted, and moved it out
pub record Takes (f t : Table) (s : Session) : Type 0 where
  pub accepted : call_code f t s ≡ 0
  pub gives : gives_pair f t s ≡ true
  pub after : take_call f t s ≡ step (Given (first_held s)) (moved_out s)

module _ (f t : Table) (s : Session) where
  pub was_read_out : was_read (read_call f t s).answer ≡ true → Reads f t s
  unfolding read_call_by
  was_read_out h = go (eqb (call_code f t s) 0) (settled f t s) (eqb (new_block_code f t s) 0) refl refl refl h
    where
      code : ℕ
      code = call_code f t s

      new : ℕ
      new = new_block_code f t s

      go : (a b c : Bool) → eqb (call_code f t s) 0 ≡ a → settled f t s ≡ b → eqb (new_block_code f t s) 0 ≡ c
          → was_read
          (cond a (cond b (step Settled s) (cond c (step Read (read_block f t s)) (step (refused new) s)))
          (step (refused code) s)).answer
          ≡ true
          → Reads f t s
      go true true c i j l m = clash m refl
      go true false true i j l m =
          let x = eqb-true (call_code f t s) 0 i in
          let y = eqb-true (new_block_code f t s) 0 l in
          record { accepted = x; unsettled = j; new_block = y; after = read_goes f t s x j y }
      go true false false i j l m = clash m refl
      go false b c i j l m = clash m refl

  -- a read that reads no block gives back its record
  pub read_keeps : was_read (read_call f t s).answer ≡ false → (read_call f t s).session ≡ s
  unfolding read_call_by
  read_keeps = go (eqb (call_code f t s) 0) (settled f t s) (eqb (new_block_code f t s) 0)
    where
      called : Bool → Bool → Bool → Step
      called a b c =
          cond a
          (cond b (step Settled s) (cond c (step Read (read_block f t s)) (step (refused (new_block_code f t s)) s)))
          (step (refused (call_code f t s)) s)

      go : (a b c : Bool) → was_read (called a b c).answer ≡ false → (called a b c).session ≡ s
      go true true c h = refl
      go true false true h = clash refl h
      go true false false h = refl
      go false b c h = refl

  pub was_given_out : was_given (take_call f t s).answer ≡ true → Takes f t s
  unfolding take_call_by
  was_given_out h = go (eqb (call_code f t s) 0) (gives_pair f t s) (finished f t s) refl refl h
    where
      code : ℕ
      code = call_code f t s

      go : (a b c : Bool) → eqb (call_code f t s) 0 ≡ a → gives_pair f t s ≡ b
          → was_given
          (cond a (cond b (step (Given (first_held s)) (moved_out s)) (cond c (step Finished s) (step NotYet s)))
          (step (refused code) s)).answer
          ≡ true
          → Takes f t s
      go true true c i j m =
          let x = eqb-true (call_code f t s) 0 i in
          record { accepted = x; gives = j; after = take_gives f t s x j }
      go true false true i j m = clash m refl
      go true false false i j m = clash m refl
      go false b c i j m = clash m refl

  -- a take that answers no pair gives back its record
  pub take_keeps : was_given (take_call f t s).answer ≡ false → (take_call f t s).session ≡ s
  unfolding take_call_by
  take_keeps = go (eqb (call_code f t s) 0) (gives_pair f t s) (finished f t s)
    where
      called : Bool → Bool → Bool → Step
      called a b c =
          cond a
          (cond b (step (Given (first_held s)) (moved_out s)) (cond c (step Finished s) (step NotYet s)))
          (step (refused (call_code f t s)) s)

      go : (a b c : Bool) → was_given (called a b c).answer ≡ false → (called a b c).session ≡ s
      go true true c h = clash refl h
      go true false true h = refl
      go true false false h = refl
      go false b c h = refl
