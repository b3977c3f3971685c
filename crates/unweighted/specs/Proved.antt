-- Weights 1 and 1 give every list of the rules without weights: the same answers and records, so the same pairs, depths
-- and joined counts, of every sequence of calls after an opening, over any slices; and the same whole queries. Assumes
-- nothing.
use Rattle.std.specs.Prelude.{◌≡◌, Bool, true, false, List, [], ◌∷◌, ◌++◌, eqb}
use Rattle.std.proofs.Math.Path.{refl, sym, ap}
use Rattle.std.proofs.Common.{◌∙◌, one-mul, eqb-true, eq-eqb}
use Rattle.std.proofs.Math.Bool.{cond}
use Prim.Native.Nat.{ℕ, zero, suc, ◌+◌, ◌*◌}
use Rattle.lists.specs.Lists.{every}
use Rattle.rules.specs.declared.Pair.{Pair}
use Rattle.rules.specs.declared.Query.{Query}
use Rattle.rules.specs.declared.Weights.{Weights}
use Rattle.rules.specs.declared.Session.{Session}
use Rattle.rules.specs.declared.Step.{Step}
use Rattle.rules.specs.declared.Answer.TheVariants.{Read, Settled, Given, NotYet, Finished}
use Rattle.rules.specs.Tables.{Table, weighted, terms, unweighted}
use Rattle.rules.specs.Numbers.{bad_record}
use Rattle.rules.specs.Session.{lent_table, weights, opened, settled}
use Rattle.rules.specs.Read.{field_next, read_block}
use Rattle.rules.specs.Take.{first_held, gives_pair, moved_out, finished}
use Rattle.rules.specs.Calls.{call_code, new_block_code, step, open_code, open_call, read_call_by, read_call}
use Rattle.rules.specs.Calls.{take_call_by}
use Rattle.rules.specs.Calls.{take_call}
use Rattle.rules.specs.Query.{was_read, given, was_given, read_until_settled_by, take_until_finished_by}
use Rattle.rules.specs.Query.{settled_session, list}
use Rattle.rules.specs.Numbers.{refused}
use Rattle.session_laws.specs.Calls.{call_out, new_block_out}
use Rattle.session_laws.specs.Read.{read_query}
use Rattle.demand.specs.Demand.{Call, reading, taking, Line, ruled, by_rules}
use Rattle.unweighted.specs.Unweighted.{low_sums, read_unweighted, take_unweighted, call_unweighted}
use Rattle.unweighted.specs.Unweighted.{by_unweighted, settled_unweighted, list_unweighted}
use Rattle.unweighted.specs.Agree.{read_agrees, take_agrees}
use Rattle.unweighted.specs.Low.{read_low, take_low}

-- a record of weights 1 and 1 that holds no sum above 19,998
pub record Plain (s : Session) : Type 0 where
  pub ones : s.query.weights ≡ weights 1 1
  pub low : low_sums s ≡ true

-- a query of weights 1 and 1 comes to the scores as they are
same_terms : (q : Query) → q.weights ≡ weights 1 1 → unweighted q ≡ terms q
unfolding weighted
same_terms q ones =
    λ i.
    record {
      field = λ x. (sym (one-mul x.score) ∙ ap (λ (v : Weights). v.field.0 * x.score) (sym ones)) i;
      trim = λ x. (sym (one-mul x.score) ∙ ap (λ (v : Weights). v.trim.0 * x.score) (sym ones)) i;
      near = (terms q).near;
      far = (terms q).far;
    }

module _ (f t : Table) (s : Session) (plain : Plain s) where
  -- ---- Each call gives the same

  read_same : read_call f t s ≡ read_unweighted f t s
  unfolding read_unweighted
  read_same =
      sym (read_agrees unweighted s (same_terms s.query plain.ones) f t)
      ∙ ap (λ b. cond b (read_call_by unweighted f t s) (step (refused bad_record) s)) (sym plain.low)

  take_same : take_call f t s ≡ take_unweighted f t s
  unfolding take_unweighted
  take_same =
      sym (take_agrees unweighted s (same_terms s.query plain.ones) f t)
      ∙ ap (λ b. cond b (take_call_by unweighted f t s) (step (refused bad_record) s)) (sym plain.low)

  -- ---- And a record of the same kind

  block_plain : call_code f t s ≡ 0 → new_block_code f t s ≡ 0 → Plain (read_block f t s)
  unfolding low_sums
  block_plain a b =
      record {
        ones = ap (λ q. q.weights) (read_query (field_next f t s) f t s) ∙ plain.ones;
        low = read_low (field_next f t s) f t s plain.ones (call_out f t s a) (new_block_out f t s b) plain.low;
      }

  moved_plain : Plain (moved_out s)
  unfolding low_sums moved_out
  moved_plain = record { ones = plain.ones; low = take_low s plain.low }

  read_plain : Plain (read_call f t s).session
  unfolding read_call_by
  read_plain = go (eqb (call_code f t s) 0) (settled f t s) (eqb (new_block_code f t s) 0) refl refl
    where
      new : ℕ
      new = new_block_code f t s

      code : ℕ
      code = call_code f t s

      go : (a b c : Bool) → eqb (call_code f t s) 0 ≡ a → eqb (new_block_code f t s) 0 ≡ c
          → Plain
          (cond a (cond b (step Settled s) (cond c (step Read (read_block f t s)) (step (refused new) s)))
          (step (refused code) s)).session
      go true true c x y = plain
      go true false true x y = block_plain (eqb-true (call_code f t s) 0 x) (eqb-true (new_block_code f t s) 0 y)
      go true false false x y = plain
      go false b c x y = plain

  take_plain : Plain (take_call f t s).session
  unfolding take_call_by
  take_plain = go (eqb (call_code f t s) 0) (gives_pair f t s) (finished f t s)
    where
      code : ℕ
      code = call_code f t s

      go : (a b c : Bool)
          → Plain
          (cond a (cond b (step (Given (first_held s)) (moved_out s)) (cond c (step Finished s) (step NotYet s)))
          (step (refused code) s)).session
      go true true c = moved_plain
      go true false true = plain
      go true false false = plain
      go false b c = plain

  call_same : (c : Call) → ruled c f t s ≡ call_unweighted c f t s
  call_same reading = read_same
  call_same taking = take_same

  call_plain : (c : Call) → Plain (ruled c f t s).session
  call_plain reading = read_plain
  call_plain taking = take_plain

-- ---- So whole sequences do

lines_same : (s : Session) (lines : List Line) → Plain s → by_rules s lines ≡ by_unweighted s lines
lines_same s [] plain = refl
lines_same s (l ∷ lines) plain =
    let f = lent_table s l.field in
    let t = lent_table s l.trim in
    let next = call_plain f t s plain l.call in
    ap (λ r. ruled l.call f t s ∷ r) (lines_same (ruled l.call f t s).session lines next)
    ∙ ap (λ (x : Step). x ∷ by_unweighted x.session lines) (call_same f t s plain l.call)

-- reading until settled, and taking until finished
reads_same : (f t : Table) (n : ℕ) (s : Session) → Plain s
    → (read_until_settled_by (read_call f t) n s ≡ read_until_settled_by (read_unweighted f t) n s)
    × Plain (read_until_settled_by (read_call f t) n s)
unfolding read_until_settled_by
reads_same f t zero s plain = (refl, plain)
reads_same f t (suc n) s plain =
    let after = reads_same f t n (read_call f t s).session (read_plain f t s plain) in (
      go (was_read (read_call f t s).answer) after.0 ∙ ap next (read_same f t s plain),
      kept (was_read (read_call f t s).answer) after.1,
    )
  where
    next : Step → Session
    next r = elim (was_read r.answer) [ true ↦ read_until_settled_by (read_unweighted f t) n r.session | false ↦ s ]

    r : Session
    r = (read_call f t s).session

    go : (b : Bool) → read_until_settled_by (read_call f t) n r ≡ read_until_settled_by (read_unweighted f t) n r
        → ◌≡◌ {A = Session} (elim b [ true ↦ read_until_settled_by (read_call f t) n r | false ↦ s ])
        (elim b [ true ↦ read_until_settled_by (read_unweighted f t) n r | false ↦ s ])
    go true h = h
    go false h = refl

    kept : (b : Bool) → Plain (read_until_settled_by (read_call f t) n r)
        → Plain (elim b [ true ↦ read_until_settled_by (read_call f t) n r | false ↦ s ])
    kept true h = h
    kept false h = plain

takes_same : (f t : Table) (n : ℕ) (s : Session) → Plain s
    → take_until_finished_by (take_call f t) n s ≡ take_until_finished_by (take_unweighted f t) n s
unfolding take_until_finished_by
takes_same f t zero s plain = refl
takes_same f t (suc n) s plain =
    go (was_given (take_call f t s).answer) (takes_same f t n (take_call f t s).session (take_plain f t s plain))
    ∙ ap next (take_same f t s plain)
  where
    next : Step → List Pair
    next r =
        elim (was_given r.answer) [
          | true ↦ given r.answer ++ take_until_finished_by (take_unweighted f t) n r.session
          | false ↦ []
        ]

    r : Session
    r = (take_call f t s).session

    l : List Pair
    l = given (take_call f t s).answer

    go : (b : Bool) → take_until_finished_by (take_call f t) n r ≡ take_until_finished_by (take_unweighted f t) n r
        → ◌≡◌ {A = List Pair} (elim b [ true ↦ l ++ take_until_finished_by (take_call f t) n r | false ↦ [] ])
        (elim b [ true ↦ l ++ take_until_finished_by (take_unweighted f t) n r | false ↦ [] ])
    go true h = ap (λ m. l ++ m) h
    go false h = refl

-- ---- From an accepted opening on

module _ (q : Query) (f t : Table) (ones : q.weights ≡ weights 1 1) (accepted : open_code q f t ≡ 0) where
  opening_plain : Plain (open_call q f t).session
  unfolding open_call opened low_sums every
  opening_plain = rw (eq-eqb (open_code q f t) 0 accepted) (record { ones = ones; low = refl })

  -- the answers and records of every sequence of calls, whatever slices each is lent
  pub sequences_same : (lines : List Line)
      → by_rules (open_call q f t).session lines ≡ by_unweighted (open_call q f t).session lines
  sequences_same lines = lines_same (open_call q f t).session lines opening_plain

  -- of a whole query the record when it is settled, with its depths and its joined count, and the list
  settled_both : (settled_session q f t ≡ settled_unweighted q f t) × Plain (settled_session q f t)
  unfolding settled_session settled_unweighted
  settled_both =
      let s = (open_call q f t).session in
      reads_same f t (s.rows.field.0 + s.rows.trim.0 + 1) s opening_plain

  pub settled_same : settled_session q f t ≡ settled_unweighted q f t
  settled_same = settled_both.0

  pub list_same : list q f t ≡ list_unweighted q f t
  unfolding list list_unweighted
  list_same =
      takes_same f t (q.k + 1) (settled_session q f t) settled_both.1
      ∙ ap (take_until_finished_by (take_unweighted f t) (q.k + 1)) settled_same
