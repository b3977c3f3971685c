-- One whole query: it reads until settled and takes until finished, and the list's sums are the highest. Assumes legal
-- tables and an accepted query.
use Rattle.std.specs.Prelude.{◌≡◌, refl, Bool, ◌⊎◌, ◌↔◌, ◌≤◌, ℕ, zero, suc, ◌+◌, ◌*◌, ◌-◌, ◌<◌, length}
use Rattle.std.proofs.Common.{sym, subst, subst₂, inl, arith, length-append}
use Rattle.std.proofs.Math.Path.{ap}
use Rattle.std.proofs.Math.Bool.{true, false}
use mathlib.Core.List.{List, ◌++◌, Memᴰ, [], ◌∷◌, map, append-nil, append_assoc}
use Rattle.lists.specs.Words.{Distinct}
use Rattle.lists.specs.Lists.{best}
use Rattle.join.specs.BestFirst.{BestFirst}
use Rattle.join.specs.BestFirstLaws.{best_first_sums}
use Rattle.rules.specs.declared.Pair.{Pair}
use Rattle.rules.specs.declared.Query.{Query}
use Rattle.rules.specs.declared.Session.{Session}
use Rattle.rules.specs.declared.Step.{Step}
use Rattle.rules.specs.declared.Answer.TheVariants.{Read, Settled, Given, Finished}
use Rattle.rules.specs.Session.{settled, two_tables}
use Rattle.rules.specs.Tables.{Table, width, row_count, legal, terms, qualifying}
use Rattle.rules.specs.Widths.{part_all}
use Rattle.rules.specs.Read.{rows_between, field_next, read_block}
use Rattle.rules.specs.Take.{first_held, gives_pair, moved_out, finished}
use Rattle.rules.specs.Calls.{query_code, call_code, new_block_code, step, read_call, take_call}
use Rattle.rules.specs.Query.{given, was_given, read_until_settled_by, read_until_settled, take_until_finished_by}
use Rattle.rules.specs.Query.{take_until_finished, settled_session}
use Rattle.rules.specs.Query.{list}
use Rattle.rules.specs.Sure.{whole, qualifying_sums}
use Rattle.session_laws.specs.Tables.{legal_out}
use Rattle.session_laws.specs.Record.{query_out}
use Rattle.session_laws.specs.Calls.{OneCard, legal_settled, call_accepted, new_block_accepted, read_settled, read_goes}
use Rattle.session_laws.specs.Calls.{take_gives, take_finishes}
use Rattle.session_laws.specs.Read.{rows_read}
use Rattle.session_laws.specs.Take.{gives_some, gives_secured, settled_take, settled_moves}
use Rattle.session_laws.specs.Sound.{Sound, sound_open}
use Rattle.tables_join.specs.Pairs.{QualifyingPair, pair_rank, qualifying_distinct, mem_qualifying}
use Rattle.tables_join.specs.Reached.{Reached, open_reached, read_reached, take_reached, finished_complete}
use Rattle.tables_join.specs.Reached.{reached_room, read_deepens, read_sound, take_sound, reached_fits}
use Rattle.tables_join.specs.Ceiling.{secured_best}

pub record SettledAt (q : Query) (f t : Table) (out : List Pair) (s : Session) : Type 0 where
  pub reached : Reached q f t out s
  pub sound : Sound s
  pub is_settled : settled f t s ≡ true

-- the pairs of `out` being out, those of l come out: each fits and comes once, the best of those left each time, until
-- k are out or all are
pub record Listed (q : Query) (f t : Table) (out l : List Pair) : Type 0 where
  pub fit : (p : Pair) → Memᴰ p (out ++ l) → QualifyingPair q f t p
  pub once : Distinct (out ++ l)
  pub room : length (out ++ l) ≤ q.k
  pub complete : (length (out ++ l) ≡ q.k)
      ⊎ ((p : Pair) → QualifyingPair q f t p → Memᴰ p (out ++ l))
  pub best_first : BestFirst (λ p. p.sum) (QualifyingPair q f t) out l

-- ---- The loops

module _ (n : ℕ) (f t : Table) (s : Session) where
  pub until_settled : read_call f t s ≡ step Settled s → read_until_settled (suc n) f t s ≡ s
  unfolding read_until_settled_by
  until_settled e = rw (e, read_until_settled_by)

  pub until_deeper : (r : Session) → read_call f t s ≡ step Read r
      → read_until_settled (suc n) f t s ≡ read_until_settled n f t r
  unfolding read_until_settled_by
  until_deeper r e = rw (e, read_until_settled_by) (ap (λ x. read_until_settled n f t x.session) e)

  until_fewer : (r : Session) (p : Pair) → take_call f t s ≡ step (Given p) r
      → take_until_finished (suc n) f t s ≡ p ∷ take_until_finished n f t r
  unfolding take_until_finished_by
  until_fewer r p e = ap next e
    where
      next : Step → List Pair
      next x =
          elim (was_given x.answer) [
            | true ↦ given x.answer ++ take_until_finished n f t x.session
            | false ↦ []
          ]

  pub until_finished : take_call f t s ≡ step Finished s → take_until_finished (suc n) f t s ≡ []
  unfolding take_until_finished_by
  until_finished e = rw (e, take_until_finished_by)

-- ---- Reading until settled

module _ (q : Query) (f t : Table) (g : legal f ≡ true) (h : legal t ≡ true) (accepted : query_code q ≡ 0) where
  size : 1 ≤ q.block
  size = (query_out q accepted).block.0

  pub call_passes : {out : List Pair} {s : Session} → Reached q f t out s → Sound s → call_code f t s ≡ 0
  call_passes {s = s} a b =
      call_accepted f t s g h a.field_rows_lem a.trim_rows_lem a.field_depth a.trim_depth
      (reached_fits a b g h)

  block_passes : {out : List Pair} {s : Session} → Reached q f t out s → new_block_code f t s ≡ 0
  block_passes {s = s} a =
      new_block_accepted f t s g h a.field_rows_lem a.trim_rows_lem a.field_depth a.trim_depth

  -- each read reads a row at least, so that the bound is never what ends it
  settles : (n : ℕ) {out : List Pair} {s : Session} → Reached q f t out s → Sound s
      → row_count f + row_count t < rows_read s + n → SettledAt q f t out (read_until_settled n f t s)
  settles zero a b k = absurd (omega (arith, a.field_depth, a.trim_depth))
  settles (suc n) {out} {s} a b k = go (settled f t s) refl (λ x y z. settles n x y z)
    where
      r : Session
      r = read_block f t s

      go : (c : Bool) → settled f t s ≡ c
          → (Reached q f t out r → Sound r → row_count f + row_count t < rows_read r + n
          → SettledAt q f t out (read_until_settled n f t r))
          → SettledAt q f t out (read_until_settled (suc n) f t s)
      go true e next =
          subst (SettledAt q f t out) (sym (until_settled n f t s (read_settled f t s (call_passes a b) e)))
          (record { reached = a; sound = b; is_settled = e })
      go false e next =
          let goes = read_goes f t s (call_passes a b) e (block_passes a) in
          subst (SettledAt q f t out) (sym (until_deeper n f t s r goes))
          (next (read_reached (field_next f t s) a g h size) (read_sound a b size e)
          (omega (arith, read_deepens a size e)))

-- ---- Taking until finished

-- one pair more in front
listed_more : {q : Query} {f t : Table} {out : List Pair} (p : Pair) (l : List Pair)
    → ((x : Pair) → QualifyingPair q f t x → (Memᴰ x out → ⊥) → x.sum ≤ p.sum)
    → Listed q f t (out ++ p ∷ []) l → Listed q f t out (p ∷ l)
listed_more {q} {f} {t} {out} p l highest r =
    let e : (out ++ p ∷ []) ++ l ≡ out ++ p ∷ l = append_assoc out (p ∷ []) l in
    record {
      fit = subst (λ m. (x : Pair) → Memᴰ x m → QualifyingPair q f t x) e r.fit;
      once = subst Distinct e r.once;
      room = subst (λ m. length m ≤ q.k) e r.room;
      complete =
          subst (λ m. (length m ≡ q.k) ⊎ ((x : Pair) → QualifyingPair q f t x → Memᴰ x m)) e
          r.complete;
      best_first = (highest, r.best_first);
    }

-- at the end
listed_none : {q : Query} {f t : Table} {out : List Pair} {s : Session} → legal f ≡ true → legal t ≡ true
    → Reached q f t out s → finished f t s ≡ true → Listed q f t out []
listed_none {q} {f} {t} {out} {s} g h a e =
    let z : out ++ [] ≡ out = append-nil out in
    record {
      fit =
          subst (λ m. (x : Pair) → Memᴰ x m → QualifyingPair q f t x) (sym z)
          (λ x m. (a.keeping.holds.inside x (inl m)).fits);
      once = subst Distinct (sym z) a.keeping.holds.once;
      room =
          subst (λ m. length m ≤ q.k) (sym z) (omega (arith, a.keeping.holds.room, ap (λ q. q.k) a.query));
      complete =
          subst (λ m. (length m ≡ q.k) ⊎ ((x : Pair) → QualifyingPair q f t x → Memᴰ x m)) (sym z)
          (finished_complete a g h e);
      best_first = tt;
    }

module _ (q : Query) (f t : Table) (g : legal f ≡ true) (h : legal t ≡ true) (accepted : query_code q ≡ 0) where
  -- at most k pairs come out, so that the bound is never what ends it
  finishes : (n : ℕ) {out : List Pair} {s : Session} → SettledAt q f t out s → q.k < length out + n
      → Listed q f t out (take_until_finished n f t s)
  finishes zero a k = absurd (omega (arith, a.reached.keeping.holds.room, ap (λ q. q.k) a.reached.query))
  finishes (suc n) {out} {s} a k = go (gives_pair f t s) refl (λ x y. finishes n x y)
    where
      passes : call_code f t s ≡ 0
      passes = call_passes q f t g h accepted a.reached a.sound

      p : Pair
      p = first_held s

      go : (b : Bool) → gives_pair f t s ≡ b
          → (SettledAt q f t (out ++ p ∷ []) (moved_out s) → q.k < length (out ++ p ∷ []) + n
          → Listed q f t (out ++ p ∷ []) (take_until_finished n f t (moved_out s)))
          → Listed q f t out (take_until_finished (suc n) f t s)
      go true e next =
          let some : 1 ≤ s.held = gives_some f t s e in
          let moved : SettledAt q f t (out ++ p ∷ []) (moved_out s) = record {
            reached = take_reached a.reached some;
            sound = take_sound a.reached a.sound some;
            is_settled =
                settled_moves f t s a.reached.keeping.stored some (reached_room a.reached) a.is_settled;
          } in
          subst (Listed q f t out) (sym (until_fewer n f t s (moved_out s) p (take_gives f t s passes e)))
          (listed_more p (take_until_finished n f t (moved_out s))
          (secured_best a.reached g h some (gives_secured f t s e))
          (next moved (omega (arith, length-append out (p ∷ [])))))
      go false e next =
          let done : finished f t s ≡ true = settled_take f t s a.reached.keeping.stored a.is_settled e in
          subst (Listed q f t out) (sym (until_finished n f t s (take_finishes f t s passes e done)))
          (listed_none g h a.reached done)

-- ---- The whole query

-- all rows are the whole table
whole_part : (t : Table) → legal t ≡ true → rows_between t 0 (row_count t) ≡ whole t
whole_part t g =
    let minus_zero : width t.coordinates * (row_count t - 0) ≡ width t.coordinates * row_count t =
    ap (◌*◌ (width t.coordinates)) (omega arith) in
    ap (λ l. record { start = 0; rows = l })
    (part_all t (row_count t - 0) (omega (arith, (legal_out t g).size.whole, minus_zero)))

-- every pair that qualifies, once
pub all_qualify : (query : Query) (f t : Table) → legal f ≡ true → legal t ≡ true → (p : Pair)
    → QualifyingPair query f t p ↔ Memᴰ p (qualifying (terms query) (whole f) (whole t))
all_qualify query f t g h p =
    let m = mem_qualifying query f t 0 (row_count f) 0 (row_count t) (omega arith) (omega arith) p in
    subst₂ (λ x y. QualifyingPair query f t p ↔ Memᴰ p (qualifying (terms query) x y)) (whole_part f g)
    (whole_part t h) (
      λ k. m.1 (record { fits = k; own_part = omega (arith, k.field_row); other_part = omega (arith, k.trim_row) }),
      λ i. (m.0 i).fits,
    )

module _ (q : Query) (f t : Table) (g : legal f ≡ true) (h : legal t ≡ true) (accepted : query_code q ≡ 0)
    (cards : OneCard f t) where
  -- it reads until settled
  settled_session_lem : SettledAt q f t [] (settled_session q f t)
  settled_session_lem =
      subst (SettledAt q f t []) (sym (legal_settled q f t accepted cards g h))
      (settles q f t g h accepted (suc (row_count f + row_count t)) (open_reached q f t accepted cards)
      (sound_open q (two_tables f t)) (omega arith))

  -- and takes until finished
  pub list_listed : Listed q f t [] (list q f t)
  unfolding list
  list_listed = finishes q f t g h accepted (q.k + 1) settled_session_lem (omega arith)

  -- the sums of the list are the k highest of all pairs that qualify
  pub list_best : map (λ p. p.sum) (list q f t) ≡ best q.k (qualifying_sums q f t)
  unfolding qualifying_sums
  list_best =
      best_first_sums pair_rank (QualifyingPair q f t) q.k (qualifying (terms q) (whole f) (whole t))
      (list q f t) (qualifying_distinct q (whole f) (whole t)) (all_qualify q f t g h)
      list_listed.once list_listed.fit list_listed.best_first list_listed.room list_listed.complete
