-- Reading until settled and taking until finished: the bound is never what ends it, of any tables and any record.
-- Assumes nothing.
use Rattle.std.specs.Prelude.{◌≡◌, Bool, cond, List, [], ◌++◌, eqb}
use Rattle.std.proofs.Math.Path.{refl, ap}
use Rattle.std.proofs.Common.{◌∙◌, not-suc-le-zero}
use Rattle.std.proofs.Math.Bool.{true, false}
use Prim.Native.Nat.{ℕ, zero, suc, ◌+◌, ◌-◌, ◌≤◌, ◌<◌}
use native.Mathlib.Omega.{arith}
use Rattle.lists.specs.Bools.{clash}
use Rattle.rules.specs.declared.Session.{Session}
use Rattle.rules.specs.declared.Step.{Step}
use Rattle.rules.specs.declared.Answer.TheVariants.{Opened}
use Rattle.rules.specs.declared.Pair.{Pair}
use Rattle.rules.specs.declared.Query.{Query}
use Rattle.rules.specs.Tables.{Table}
use Rattle.rules.specs.Session.{two_tables, opened, zeros}
use Rattle.rules.specs.Read.{field_next}
use Rattle.rules.specs.Take.{moved_out}
use Rattle.rules.specs.Calls.{step, open_code, open_call, read_call, take_call}
use Rattle.rules.specs.Query.{was_read, given, was_given, read_until_settled_by, read_until_settled}
use Rattle.rules.specs.Query.{take_until_finished_by}
use Rattle.rules.specs.Query.{take_until_finished}
use Rattle.rules.specs.Query.{settled_session, list}
use Rattle.rules.specs.Numbers.{refused}
use Rattle.session_laws.specs.Calls.{call_out, was_read_out, was_given_out}
use Rattle.session_laws.specs.Read.{unread_rows, read_fewer, read_query}
use Rattle.session_laws.specs.Take.{gives_some}

-- the pairs that are still wanted
abbrev pub still_wanted : Session → ℕ
still_wanted s = s.query.k - s.out

module _ (f t : Table) where
  -- ---- Reading

  -- a read that reads a block leaves fewer rows unread
  pub fewer_unread : (s : Session) → was_read (read_call f t s).answer ≡ true
      → unread_rows (read_call f t s).session < unread_rows s
  fewer_unread s h =
      let r = was_read_out f t s h in
      let fits = (call_out f t s r.accepted).lent.fits in
      rw r.after (read_fewer f t s r.unsettled fits.query.block.0 fits.field.within fits.trim.within)

  -- the same record from any two bounds above the rows that are not read yet
  pub reads_end : (m n : ℕ) (s : Session) → unread_rows s < m → unread_rows s < n
      → read_until_settled m f t s ≡ read_until_settled n f t s
  unfolding read_until_settled_by
  reads_end zero n s h k = absurd (not-suc-le-zero h)
  reads_end (suc m) zero s h k = absurd (not-suc-le-zero k)
  reads_end (suc m) (suc n) s h k =
      go (was_read (read_call f t s).answer) refl (λ i j. reads_end m n (read_call f t s).session i j)
    where
      r : Session
      r = (read_call f t s).session

      go : (b : Bool) → was_read (read_call f t s).answer ≡ b
          → (unread_rows r < m → unread_rows r < n → read_until_settled m f t r ≡ read_until_settled n f t r)
          → ◌≡◌ {A = Session} (elim b [ true ↦ read_until_settled m f t r | false ↦ s ])
          (elim b [ true ↦ read_until_settled n f t r | false ↦ s ])
      go true e ih = let l = fewer_unread s e in ih (omega arith) (omega arith)
      go false e ih = refl

  -- once no block is read, none is
  pub reads_ended : (n : ℕ) (s : Session) → was_read (read_call f t s).answer ≡ false → read_until_settled n f t s ≡ s
  unfolding read_until_settled_by
  reads_ended zero s h = refl
  reads_ended (suc n) s h = go (was_read (read_call f t s).answer) h
    where
      next : Session
      next = read_until_settled n f t (read_call f t s).session

      go : (b : Bool) → b ≡ false → ◌≡◌ {A = Session} (elim b [ true ↦ next | false ↦ s ]) s
      go true e = clash refl e
      go false e = refl

  reads_keep_query : (n : ℕ) (s : Session) → (read_until_settled n f t s).query ≡ s.query
  unfolding read_until_settled_by
  reads_keep_query zero s = refl
  reads_keep_query (suc n) s =
      go (was_read (read_call f t s).answer) refl (reads_keep_query n (read_call f t s).session)
    where
      r : Session
      r = (read_call f t s).session

      go : (b : Bool) → was_read (read_call f t s).answer ≡ b → (read_until_settled n f t r).query ≡ r.query
          → (let x : Session = elim b [ true ↦ read_until_settled n f t r | false ↦ s ] in x.query) ≡ s.query
      go true e ih =
          ih ∙ ap (λ (r : Step). r.session.query) (was_read_out f t s e).after ∙ read_query (field_next f t s) f t s
      go false e ih = refl

  -- ---- Taking

  -- a take that answers a pair leaves fewer wanted, of 64 at most
  pub fewer_wanted : (s : Session) → was_given (take_call f t s).answer ≡ true
      → (still_wanted s ≤ 64) × (still_wanted (take_call f t s).session < still_wanted s)
  unfolding moved_out
  fewer_wanted s h =
      let r = was_given_out f t s h in
      let fits = (call_out f t s r.accepted).lent.fits in
      (omega (arith, fits.query.k), rw r.after (omega (arith, fits.room, gives_some f t s r.gives)))

  -- the same pairs from any two bounds above the number of pairs still wanted
  pub takes_end : (m n : ℕ) (s : Session) → still_wanted s < m → still_wanted s < n
      → take_until_finished m f t s ≡ take_until_finished n f t s
  unfolding take_until_finished_by
  takes_end zero n s h k = absurd (not-suc-le-zero h)
  takes_end (suc m) zero s h k = absurd (not-suc-le-zero k)
  takes_end (suc m) (suc n) s h k =
      go (was_given (take_call f t s).answer) refl (λ i j. takes_end m n (take_call f t s).session i j)
    where
      r : Session
      r = (take_call f t s).session

      l : List Pair
      l = given (take_call f t s).answer

      go : (b : Bool) → was_given (take_call f t s).answer ≡ b
          → (still_wanted r < m → still_wanted r < n → take_until_finished m f t r ≡ take_until_finished n f t r)
          → ◌≡◌ {A = List Pair} (elim b [ true ↦ l ++ take_until_finished m f t r | false ↦ [] ])
          (elim b [ true ↦ l ++ take_until_finished n f t r | false ↦ [] ])
      go true e ih =
          let fewer = (fewer_wanted s e).1 in
          ap (λ (x : List Pair). l ++ x) (ih (omega arith) (omega arith))
      go false e ih = refl

-- ---- So the bounds of the rules' whole query never end it: any larger ones give the same record and the same list

module _ (q : Query) (f t : Table) where
  pub settled_session_bound : (m : ℕ)
      → ((open_call q f t).session.rows.field.0 + (open_call q f t).session.rows.trim.0) < m
      → read_until_settled m f t (open_call q f t).session ≡ settled_session q f t
  unfolding settled_session
  settled_session_bound m h = reads_end f t m _ (open_call q f t).session (omega arith) (omega arith)

  opened_wants : (open_call q f t).session.query.k ≤ q.k
  unfolding open_call opened zeros
  opened_wants = go (eqb (open_code q f t) 0)
    where
      go : (b : Bool)
          → (cond b (step Opened (opened q (two_tables f t)))
          (step (refused (open_code q f t)) zeros)).session.query.k
          ≤ q.k
      go true = omega arith
      go false = omega arith

  pub list_bound : (m : ℕ) → q.k < m → take_until_finished m f t (settled_session q f t) ≡ list q f t
  unfolding list settled_session
  list_bound m h =
      let s = (open_call q f t).session in
      let e = ap (λ (r : Query). r.k) (reads_keep_query f t (s.rows.field.0 + s.rows.trim.0 + 1) s) in
      let k = opened_wants in
      takes_end f t m _ (settled_session q f t) (omega arith) (omega arith)
