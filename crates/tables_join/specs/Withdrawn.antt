-- Withdrawn rows and sure readings; and that a field table which begins with one settles after its first block. Assumes
-- legal tables and an accepted query.
use Rattle.std.specs.Prelude.{◌≡◌, ◌&&◌, ◌||◌, [], ◌⊎◌, eqb}
use Rattle.std.proofs.Math.Path.{refl, ap}
use Rattle.std.proofs.Common.{subst, ◌∙◌, inl, inr}
use Rattle.std.proofs.Math.Bool.{true, false}
use Rattle.std.proofs.Math.Logic.{⊎_elim}
use Prim.Native.Nat.{ℕ, zero, suc, ◌+◌, ◌≤◌, ◌<◌, min}
use native.Mathlib.Omega.{arith}
use Rattle.std.proofs.Math.Dec.{leb}
use borrow.Author.Tests.{leb-true, le-leb, lt-leb, eqb-true, ne_eqb, lt-ltb}
use Rattle.lists.specs.Lists.{at_least}
use Rattle.lists.specs.Bools.{clash, and_out, or_out, or_true}
use Rattle.rules.specs.declared.FieldRows.{FieldRows}
use Rattle.rules.specs.declared.TrimRows.{TrimRows}
use Rattle.rules.specs.declared.Query.{Query}
use Rattle.rules.specs.declared.Session.{Session}
use Rattle.rules.specs.Tables.{Table, row_count, legal, unsatisfiable, row, withdrawn, first_rows}
use Rattle.rules.specs.Session.{withdrawn_within, read_out, is_empty, two_tables, opened, nothing_qualifies, settled_by}
use Rattle.rules.specs.Session.{settled}
use Rattle.rules.specs.Read.{field_next_by, field_next, read_table}
use Rattle.rules.specs.declared.Answer.TheVariants.{Read}
use Rattle.rules.specs.Calls.{query_code, call_code, step}
use Rattle.rules.specs.Sure.{Sure, qualifying_sums}
use Rattle.rules.specs.Query.{read_until_settled, settled_session}
use Rattle.session_laws.specs.Record.{query_out}
use Rattle.session_laws.specs.Calls.{OneCard, legal_settled, call_accepted, new_block_accepted, read_goes, read_settled}
use Rattle.session_laws.specs.Read.{read_field, read_trim}
use Rattle.session_laws.specs.Sound.{Sound, sound_open}
use Rattle.tables_join.specs.Sure.{read_out_by, empty_by, ceiling_at, is_sure, sure_is_test}
use Rattle.tables_join.specs.Reached.{Reached, open_reached, read_reached, reached_fits, read_sound}
use Rattle.tables_join.specs.WholeList.{until_deeper, until_settled}

abbrev field_rows : ℕ → FieldRows
field_rows n = record { 0 = n }

abbrev trim_rows : ℕ → TrimRows
trim_rows n = record { 0 = n }

-- ---- What a reading shows of one table

module _ (t : Table) where
  -- nothing read shows only that there are no rows
  empty_by_none : empty_by t 0 ≡ true → row_count t ≡ 0
  unfolding empty_by
  empty_by_none h = ⊎_elim (λ e. eqb-true (row_count t) 0 e) (λ e. clash e refl) (or_out (eqb (row_count t) 0) false h)

  read_out_by_none : read_out_by t 0 ≡ true → row_count t ≡ 0
  unfolding read_out_by withdrawn_within
  read_out_by_none h =
      ⊎_elim (λ e. let k = leb-true (row_count t) 0 e in omega arith) (λ e. clash e refl)
      (or_out (leb (row_count t) 0) false h)

  -- a withdrawn first row shows that the table is empty
  empty_by_first : (n : ℕ) → 1 ≤ n → withdrawn (row t 0) ≡ true → empty_by t n ≡ true
  unfolding empty_by
  empty_by_first n h e = rw (le-leb 1 n h, e) (or_true (eqb (row_count t) 0))

  -- a reading that stops before the first withdrawn row, and before the last row, has not read the table out
  unread_by : (n : ℕ) → n < row_count t → withdrawn_within t n ≡ false → read_out_by t n ≡ false
  unfolding read_out_by
  unread_by n h e = rw (lt-leb (row_count t) n h, e)

module _ (q : Query) (accepted : query_code q ≡ 0) (f t : Table) (cards : OneCard f t)
    (g : legal f ≡ true) (h : legal t ≡ true) where
  -- k sums of a reading are at least its ceiling
  abbrev pub Enough : ℕ → ℕ → Type 0
  Enough m n =
      q.k ≤ at_least (ceiling_at q f t (field_rows m) (trim_rows n))
      (qualifying_sums q (first_rows m f) (first_rows n t))

  -- what makes a reading sure
  pub data Grounds (m n : ℕ) : Type 0 where
    none_qualifies : unsatisfiable q f.coordinates ≡ true → Grounds m n
    field_empty : empty_by f m ≡ true → Grounds m n
    trim_empty : empty_by t n ≡ true → Grounds m n
    both_out : read_out_by f m ≡ true → read_out_by t n ≡ true → Grounds m n
    enough : 1 ≤ m → 1 ≤ n → Enough m n → Grounds m n

  pub sure_grounds : (m n : ℕ) → Sure q f t (field_rows m) (trim_rows n) → Grounds m n
  unfolding is_sure
  sure_grounds m n s =
      let some =
      at_least (ceiling_at q f t (field_rows m) (trim_rows n)) (qualifying_sums q (first_rows m f) (first_rows n t)) in
      let last = leb 1 m && (leb 1 n && leb q.k some) in
      let outs = read_out_by f m && read_out_by t n in
      let e = (sure_is_test q accepted f t g h (field_rows m) (trim_rows n) cards.same).0 s in
      ⊎_elim none_qualifies
      (λ d.
      ⊎_elim field_empty
      (λ a.
      ⊎_elim trim_empty
      (λ b.
      ⊎_elim (λ c. let both = and_out (read_out_by f m) (read_out_by t n) c in both_out both.0 both.1)
      (λ c.
      let x = and_out (leb 1 m) (leb 1 n && leb q.k some) c in
      let y = and_out (leb 1 n) (leb q.k some) x.1 in
      enough (leb-true 1 m x.0) (leb-true 1 n y.0) (leb-true q.k some y.1))
      (or_out outs last b))
      (or_out (empty_by t n) (outs || last) a))
      (or_out (empty_by f m) (empty_by t n || (outs || last)) d))
      (or_out (unsatisfiable q f.coordinates) (empty_by f m || (empty_by t n || (outs || last))) e)

  -- ---- "sure at 0 and 0 are still only tables of which one has no rows", where something can qualify

  pub nothing_sure : unsatisfiable q f.coordinates ≡ false → Sure q f t (field_rows 0) (trim_rows 0)
      → (row_count f ≡ 0) ⊎ (row_count t ≡ 0)
  nothing_sure met s = go (sure_grounds 0 0 s)
    where
      go : Grounds 0 0 → (row_count f ≡ 0) ⊎ (row_count t ≡ 0)
      go (none_qualifies u) = clash u met
      go (field_empty e) = inl (empty_by_none f e)
      go (trim_empty e) = inr (empty_by_none t e)
      go (both_out d e) = inl (read_out_by_none f d)
      go (enough a b c) = absurd (omega arith)

  -- ---- A reading that contains a withdrawn first row is sure

  pub first_field_sure : withdrawn (row f 0) ≡ true → (m n : ℕ) → 1 ≤ m → Sure q f t (field_rows m) (trim_rows n)
  unfolding is_sure
  first_field_sure e m n k =
      (sure_is_test q accepted f t g h (field_rows m) (trim_rows n) cards.same).1
      (rw (empty_by_first f m k e) (or_true (unsatisfiable q f.coordinates)))

  pub first_trim_sure : withdrawn (row t 0) ≡ true → (m n : ℕ) → 1 ≤ n → Sure q f t (field_rows m) (trim_rows n)
  unfolding is_sure
  first_trim_sure e m n k =
      (sure_is_test q accepted f t g h (field_rows m) (trim_rows n) cards.same).1
      (rw (empty_by_first t n k e, or_true (empty_by f m)) (or_true (unsatisfiable q f.coordinates)))

  -- ---- One that stops just before a withdrawn row is not, unless k sums are: trim not being empty, and rows of the
  -- field table left

  pub before_unsure : unsatisfiable q f.coordinates ≡ false → (m n : ℕ) → m < row_count f
      → withdrawn_within f m ≡ false → empty_by f m ≡ false → empty_by t n ≡ false → (Enough m n → ⊥)
      → Sure q f t (field_rows m) (trim_rows n) → ⊥
  before_unsure met m n more none live other few s = go (sure_grounds m n s)
    where
      go : Grounds m n → ⊥
      go (none_qualifies u) = clash u met
      go (field_empty e) = clash e live
      go (trim_empty e) = clash e other
      go (both_out d e) = clash d (unread_by f m more none)
      go (enough a b c) = few c

-- ---- "where trim has rows, a field table that begins with 0 settles after its first block, and no trim is read"

empty_settles : (f t : Table) (s : Session) → is_empty f s.rows.field.0 s.depth.field.0 ≡ true
    → settled f t s ≡ true
unfolding settled_by
empty_settles f t s e = rw e (or_true (nothing_qualifies s))

module _ (q : Query) (accepted : query_code q ≡ 0) (f t : Table) (cards : OneCard f t)
    (g : legal f ≡ true) (h : legal t ≡ true)
    (first : withdrawn (row f 0) ≡ true) (some : 1 ≤ row_count f) (rows : 1 ≤ row_count t)
    (met : unsatisfiable q f.coordinates ≡ false) where
  abbrev begun : Session
  begun = opened q (two_tables f t)

  abbrev after : Session
  after = read_table true f t begun

  wanted : 1 ≤ q.k
  wanted = (query_out q accepted).k.0

  size : 1 ≤ q.block
  size = (query_out q accepted).block.0

  reached : Reached q f t [] begun
  reached = open_reached q f t accepted cards

  sound : Sound begun
  sound = sound_open q (two_tables f t)

  begun_unsettled : settled f t begun ≡ false
  unfolding settled_by opened is_empty read_out withdrawn_within
  begun_unsettled =
      rw (
        met,
        ne_eqb (row_count f) 0 (λ e. omega arith),
        ne_eqb (row_count t) 0 (λ e. omega arith),
        ne_eqb 0 (row_count f) (λ e. omega arith),
        ne_eqb 0 q.k (λ e. omega (arith, wanted)),
      )

  -- the first read is of the field table
  first_next : field_next f t begun ≡ true
  unfolding field_next_by opened
  first_next = refl

  field_deep : after.depth.field.0 ≡ min q.block (row_count f)
  unfolding opened
  field_deep =
      let e : 0 + q.block ≡ q.block = omega arith in
      read_field true f t begun ∙ ap (λ n. min n (row_count f)) e

  trim_deep : after.depth.trim.0 ≡ 0
  unfolding opened
  trim_deep = read_trim true f t begun

  after_settled : settled f t after ≡ true
  unfolding is_empty
  after_settled =
      let deep : 0 < after.depth.field.0 = omega (arith, field_deep, size) in
      empty_settles f t after
      (rw (lt-ltb 0 after.depth.field.0 deep, first) (or_true (eqb after.rows.field.0 0)))

  -- it goes on from the opening by one read, and then is settled
  read_once : (n : ℕ) → 1 ≤ n → read_until_settled (suc n) f t begun ≡ after
  read_once zero k = absurd (omega arith)
  read_once (suc n) k =
      let a : Reached q f t [] after = read_reached true reached g h size in
      let b : Sound after =
      subst (λ c. Sound (read_table c f t begun)) first_next (read_sound reached sound size begun_unsettled) in
      let goes =
      read_goes f t begun (passes reached sound) begun_unsettled
      (new_block_accepted f t begun g h reached.field_rows_lem reached.trim_rows_lem reached.field_depth
      reached.trim_depth)
      ∙ ap (λ c. step Read (read_table c f t begun)) first_next in
      until_deeper (suc n) f t begun after goes
      ∙ until_settled n f t after (read_settled f t after (passes a b) after_settled)
    where
      passes : {s : Session} → Reached q f t [] s → Sound s → call_code f t s ≡ 0
      passes {s} a b =
          call_accepted f t s g h a.field_rows_lem a.trim_rows_lem a.field_depth a.trim_depth
          (reached_fits a b g h)

  settles_after_one : settled_session q f t ≡ after
  settles_after_one = legal_settled q f t accepted cards g h ∙ read_once (row_count f + row_count t) (omega arith)

  pub first_block_settles : ((settled_session q f t).depth.field.0 ≡ min q.block (row_count f))
      × ((settled_session q f t).depth.trim.0 ≡ 0)
  first_block_settles = (
    ap (λ s. s.depth.field.0) settles_after_one ∙ field_deep,
    ap (λ s. s.depth.trim.0) settles_after_one ∙ trim_deep,
  )
