-- Fact 6, proved: over the two tables no call is refused, reads are few, and a settled session's take has an answer.
-- Assumes legal tables.
use Rattle.std.specs.Prelude.{◌≡◌, Bool, cond, ◌+◌, ◌≤◌}
use Rattle.std.proofs.Math.Path.{refl, ap, subst}
use Rattle.std.proofs.Common.{sym, ap₂, ◌∙◌}
use Rattle.std.proofs.Math.Bool.{true, false}
use mathlib.Core.List.{List, [], ◌∷◌, ◌++◌}
use native.Mathlib.Omega.{arith}
use borrow.Author.Tests.{eq-eqb}
use Rattle.lists.specs.Words.{total}
use Rattle.lists.specs.Bools.{clash}
use Rattle.rules.specs.declared.Session.{Session}
use Rattle.rules.specs.declared.Step.{Step}
use Rattle.rules.specs.declared.Pair.{Pair}
use Rattle.rules.specs.declared.Query.{Query}
use Rattle.rules.specs.declared.Answer.TheVariants.{Read, Settled, Given, NotYet, Finished}
use Rattle.rules.specs.Tables.{Table, row_count, legal}
use Rattle.rules.specs.Session.{two_tables, settled}
use Rattle.rules.specs.Read.{read_block}
use Rattle.rules.specs.Take.{first_held, gives_pair, moved_out, finished}
use Rattle.rules.specs.Numbers.{said}
use Rattle.rules.specs.Calls.{query_code, call_code, new_block_code, step, open_call, read_call_by, read_call}
use Rattle.rules.specs.Calls.{take_call_by}
use Rattle.rules.specs.Calls.{take_call}
use Rattle.session_laws.specs.Calls.{OneCard, legal_opened, call_accepted, new_block_accepted}
use Rattle.session_laws.specs.Read.{rows_read}
use Rattle.session_laws.specs.Take.{gives_some, settled_take}
use Rattle.session_laws.specs.Sound.{Sound, sound_open}
use Rattle.tables_join.specs.Reached.{Reached, read_sound, take_sound, reached_fits, read_deepens}
use Rattle.demand.specs.Demand.{Call, reading, taking, Line, ruled, promised, is_accepted, Sequence, Follows}
use Rattle.demand.specs.Demand.{last_record}
use Rattle.demand.specs.GetsThere.{GetsThere, run_of}
use Rattle.demand.specs.Steps.{reads_of, Changed, kept, deeper, fewer}
use Rattle.demand.specs.Outcomes.{said_not_yet}
use Rattle.demand.specs.Openings.{opening_query, opening_is}
use Rattle.demand.specs.Sequences.{lent_own, line_changed, next_reached, lines_reached, lines_keep}
use Rattle.demand.specs.Sequences.{reached, some_block, calls_before, reached_before, happened_then}

-- No call is refused

module _ (f t : Table) (s : Session) (a : call_code f t s ≡ 0) where
  read_accepted : new_block_code f t s ≡ 0 → (said (read_call f t s).answer).accepted ≡ true
  unfolding read_call_by
  read_accepted b = rw (eq-eqb (call_code f t s) 0 a, eq-eqb (new_block_code f t s) 0 b) (go (settled f t s))
    where
      go : (b : Bool) → (said (cond b (step Settled s) (step Read (read_block f t s))).answer).accepted ≡ true
      go true = refl
      go false = refl

  take_accepted : (said (take_call f t s).answer).accepted ≡ true
  unfolding take_call_by
  take_accepted = rw (eq-eqb (call_code f t s) 0 a) (go (gives_pair f t s) (finished f t s))
    where
      given : Step
      given = step (Given (first_held s)) (moved_out s)

      go : (x y : Bool) → (said (cond x given (cond y (step Finished s) (step NotYet s))).answer).accepted ≡ true
      go true y = refl
      go false true = refl
      go false false = refl

module _ (q : Query) (f t : Table) (g : legal f ≡ true) (h : legal t ≡ true) (size : 1 ≤ q.block) where
  call_unrefused : query_code q ≡ 0 → {out : List Pair} {s : Session} → Reached q f t out s → Sound s → (c : Call)
      → (said (ruled c f t s).answer).accepted ≡ true
  call_unrefused k {out} {s} a b c = go c
    where
      accepted : call_code f t s ≡ 0
      accepted =
          call_accepted f t s g h a.field_rows_lem a.trim_rows_lem a.field_depth a.trim_depth
          (reached_fits a b g h)

      new_accepted : new_block_code f t s ≡ 0
      new_accepted = new_block_accepted f t s g h a.field_rows_lem a.trim_rows_lem a.field_depth a.trim_depth

      go : (c : Call) → (said (ruled c f t s).answer).accepted ≡ true
      go reading = read_accepted f t s accepted new_accepted
      go taking = take_accepted f t s accepted

  line_sound : (out : List Pair) (s : Session) (x : Step) → Reached q f t out s → Sound s → Changed f t s x
      → Sound x.session
  line_sound out s x a b (kept e o r) = subst Sound (sym e) b
  line_sound out s x a b (deeper d e) = subst (λ y. Sound y.session) (sym e) (read_sound a b size d)
  line_sound out s x a b (fewer d e) = subst (λ y. Sound y.session) (sym e) (take_sound a b (gives_some f t s d))

  lines_sound : (lines : List Line) {out : List Pair} {s : Session} → Reached q f t out s → Sound s
      → Follows f t s lines → Sound (last_record s lines)
  lines_sound = lines_keep q f t g h size Sound line_sound

  -- Reads are few

  line_reads : {out : List Pair} {s : Session} (x : Step) → Reached q f t out s → Changed f t s x
      → rows_read s + reads_of x.answer ≤ rows_read x.session
  unfolding moved_out
  line_reads x a (kept e o r) = omega (arith, r, ap rows_read e)
  line_reads {s = s} x a (deeper d e) =
      subst (λ y. rows_read s + reads_of y.answer ≤ rows_read y.session) (sym e)
      (omega (arith, read_deepens a size d))
  line_reads {s = s} x a (fewer d e) =
      subst (λ y. rows_read s + reads_of y.answer ≤ rows_read y.session) (sym e) (omega arith)

  lines_reads : (lines : List Line) {out : List Pair} {s : Session} → Reached q f t out s → Follows f t s lines
      → rows_read s + total (λ l. reads_of l.gave.answer) lines ≤ rows_read (last_record s lines)
  unfolding total
  lines_reads [] a w = omega arith
  lines_reads (l ∷ lines) a w =
      let x = line_reads l.gave a (line_changed q f t g h size a l lines w) in
      let y = lines_reads lines (next_reached q f t g h size a l lines w) w.2 in
      omega arith

-- Of the whole sequence

module _ {q : Query} {f t : Table} {opening : Step} {lines : List Line} (w : Sequence q f t opening lines) where
  begun_sound : Sound opening.session
  begun_sound =
      subst (λ x. Sound x.session) (sym (opening_is w))
      (sound_open q (two_tables f t))

  few_reads : total (λ l. reads_of l.gave.answer) lines ≤ row_count f + row_count t
  few_reads =
      let x = lines_reads q f t w.field_legal w.trim_legal (some_block w) lines (reached w) w.calls in
      let y = lines_reached q f t w.field_legal w.trim_legal (some_block w) lines (reached w) w.calls in
      omega (arith, y.field_depth, y.trim_depth)

  module _ (before after : List Line) (l : Line) (e : lines ≡ before ++ l ∷ after) where
    abbrev given : Session
    given = last_record opening.session before

    sound_before : Sound given
    sound_before =
        lines_sound q f t w.field_legal w.trim_legal (some_block w) before (reached w) begun_sound
        (calls_before w before after l e).0

    unrefused : l.field ≡ f.numbers → l.trim ≡ t.numbers → is_accepted l ≡ true
    unrefused u v =
        let own =
        lent_own q f t w.field_legal w.trim_legal (some_block w) (reached_before w before after l e) (u, v) in
        let gave : l.gave ≡ ruled l.call f t given =
        (calls_before w before after l e).1.0 ∙ ap₂ (λ f t. ruled l.call f t given) own.0 own.1 in
        ap (λ x. (said x.answer).accepted) gave
        ∙ call_unrefused q f t w.field_legal w.trim_legal (some_block w) (opening_query w)
        (reached_before w before after l e) sound_before l.call

    -- in a settled session a take has an answer
    never_waits : settled f t given ≡ true → l.gave.answer ≡ NotYet → ⊥
    never_waits z y =
        let d = said_not_yet f t given l.call l.gave y (happened_then w before after l e) in
        clash (settled_take f t given (reached_before w before after l e).keeping.stored z d.0) d.1

pub gets_there : (q : Query) (f t : Table) (opening : Step) (lines : List Line) → Sequence q f t opening lines
    → GetsThere q f t opening lines
gets_there q f t opening lines w =
    record { unrefused = unrefused w; few_reads = few_reads w; never_waits = never_waits w }

-- There are such sequences: any calls whatever, over any two legal tables on one card

run_follows : (f t : Table) (s : Session) (calls : List Call) → Follows f t s (run_of f t s calls)
unfolding run_of
run_follows f t s [] = tt
run_follows f t s (c ∷ calls) =
    (refl, λ e. (refl, refl), run_follows f t (promised c f.numbers t.numbers s).session calls)

pub run_sequence : (q : Query) (f t : Table) → OneCard f t → legal f ≡ true → legal t ≡ true
    → query_code q ≡ 0 → (calls : List Call)
    → Sequence q f t (open_call q f t) (run_of f t (open_call q f t).session calls)
run_sequence q f t cards g h k calls = record {
  field_legal = g;
  trim_legal = h;
  opening_promised = refl;
  opening_accepted = ap (λ x. x.answer) (legal_opened q f t k cards g h);
  calls = run_follows f t (open_call q f t).session calls;
}
