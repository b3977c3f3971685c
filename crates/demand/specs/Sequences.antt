-- Sequences of calls: what holds of each record holds of the last. Assumes legal tables.
use Rattle.std.specs.Prelude.{◌≡◌, refl, Bool, true, false, cond, List, [], ◌∷◌, ◌++◌, map, ℕ, ◌+◌, ◌-◌, ◌≤◌, max, ℤ}
use Rattle.std.proofs.Common.{sym, ap, ap₂, subst₂, ◌∙◌, append_assoc, append-nil, arith}
use Rattle.std.proofs.Math.Path.{subst}
use Rattle.rules.specs.declared.FieldRows.{FieldRows}
use Rattle.rules.specs.declared.TrimRows.{TrimRows}
use Rattle.rules.specs.declared.Session.{Session}
use Rattle.rules.specs.declared.Step.{Step}
use Rattle.rules.specs.declared.Pair.{Pair}
use Rattle.rules.specs.declared.Query.{Query}
use Rattle.rules.specs.Tables.{Table, table, row_count, legal}
use Rattle.rules.specs.Session.{lent_table}
use Rattle.rules.specs.Read.{field_next, read_block}
use Rattle.rules.specs.Take.{moved_out}
use Rattle.rules.specs.Sure.{Sure}
use Rattle.session_laws.specs.Record.{query_out}
use Rattle.session_laws.specs.Take.{gives_some}
use Rattle.session_laws.specs.Alike.{same_less}
use Rattle.tables_join.specs.Reached.{Reached, open_reached, read_reached, take_reached}
use Rattle.tables_join.specs.Choice.{read_limit}
use Rattle.rules.specs.Query.{given}
use Rattle.demand.specs.Demand.{Line, Sequence, ruled, promised, is_accepted, Follows, outs, last_record}
use Rattle.demand.specs.Demand.{by_rules, over}
use Rattle.demand.specs.Steps.{Happened, Changed, kept, deeper, fewer}
use Rattle.demand.specs.Openings.{opening_query, opening_cards, opening_is}
use Rattle.demand.specs.Outcomes.{AlikeTo, happened, changed, reached_grows, same_call}

-- neither depth is above n
abbrev pub DepthsUpTo : ℕ → Session → Type 0
DepthsUpTo n s = (s.depth.field.0 ≤ n) × (s.depth.trim.0 ≤ n)

-- Transcripts in parts

module _ (f t : Table) where
  pub follows_before : (before rest : List Line) (s : Session) → Follows f t s (before ++ rest)
      → Follows f t s before × Follows f t (last_record s before) rest
  follows_before [] rest s h = (tt, h)
  follows_before (l ∷ before) rest s h =
      let r = follows_before before rest l.gave.session h.2 in ((h.0, h.1, r.0), r.1)

  -- "Each answer and record .. is the one that document 01 gives"
  pub follows_rules : (s : Session) (lines : List Line) → Follows f t s lines
      → map (λ l. l.gave) lines ≡ by_rules s lines
  follows_rules s [] h = refl
  follows_rules s (l ∷ lines) h =
      let rest = follows_rules l.gave.session lines h.2 in
      ap₂ (λ a b. a ∷ b) h.0 (rest ∙ ap (λ g. by_rules g.session lines) h.0)

module _ (q : Query) (f t : Table) (g : legal f ≡ true) (h : legal t ≡ true) (size : 1 ≤ q.block) where
  -- One call

  module _ {out : List Pair} {s : Session} (a : Reached q f t out s) where
    line_reached : (x : Step) → Changed f t s x → Reached q f t (out ++ given x.answer) x.session
    line_reached x (kept e b r) =
        subst₂ (Reached q f t) (sym (append-nil out) ∙ ap (λ o. out ++ o) (sym b)) (sym e) a
    line_reached x (deeper d e) =
        subst (λ x. Reached q f t (out ++ given x.answer) x.session) (sym e)
        (subst (λ o. Reached q f t o (read_block f t s)) (sym (append-nil out))
        (read_reached (field_next f t s) a g h size))
    line_reached x (fewer d e) =
        subst (λ x. Reached q f t (out ++ given x.answer) x.session) (sym e)
        (take_reached a (gives_some f t s d))

    -- the numbers of the two tables, lent to it, are the tables
    pub lent_own : {x y : List ℤ} → (x ≡ f.numbers) × (y ≡ t.numbers) → (lent_table s x ≡ f) × (lent_table s y ≡ t)
    lent_own k = (ap₂ table a.card k.0, ap₂ table (a.card ∙ a.cards.same) k.1)

    module _ (l : Line) (lines : List Line) (w : Follows f t s (l ∷ lines)) where
      line_happened : Happened f t s l.call l.gave
      line_happened =
          happened f t (lent_table s l.field) (lent_table s l.trim) s l.call l.gave w.0
          (λ z. lent_own (w.1 z))

      pub line_changed : Changed f t s l.gave
      line_changed = changed f t s l.call l.gave line_happened

      pub next_reached : Reached q f t (out ++ given l.gave.answer) l.gave.session
      next_reached = line_reached l.gave line_changed

  -- All calls

  pub lines_reached : (lines : List Line) {out : List Pair} {s : Session} → Reached q f t out s → Follows f t s lines
      → Reached q f t (out ++ outs lines) (last_record s lines)
  lines_reached [] {out} {s} a w = subst (λ out. Reached q f t out s) (sym (append-nil out)) a
  lines_reached (l ∷ lines) {out} a w =
      let one : List Pair = given l.gave.answer in
      let more : (out ++ one) ++ outs lines ≡ out ++ outs (l ∷ lines) =
      append_assoc out one (outs lines) in
      subst (λ o. Reached q f t o (last_record l.gave.session lines)) more
      (lines_reached lines (next_reached a l lines w) w.2)

  -- what each call keeps, all calls keep
  module _ (P : Session → Type 0)
      (step : (out : List Pair) (s : Session) (x : Step) → Reached q f t out s → P s → Changed f t s x → P x.session)
    where
      pub lines_keep : (lines : List Line) {out : List Pair} {s : Session} → Reached q f t out s → P s
          → Follows f t s lines → P (last_record s lines)
      lines_keep [] a p w = p
      lines_keep (l ∷ lines) {out} {s} a p w =
          lines_keep lines (next_reached a l lines w) (step out s l.gave a p (line_changed a l lines w)) w.2

  -- neither depth falls
  module _ (m n : ℕ) where
    abbrev Beyond : Session → Type 0
    Beyond s = (m ≤ s.depth.field.0) × (n ≤ s.depth.trim.0)

    line_beyond : (out : List Pair) (s : Session) (x : Step) → Reached q f t out s → Beyond s → Changed f t s x
        → Beyond x.session
    unfolding moved_out
    line_beyond out s x a v (kept e b r) = subst Beyond (sym e) v
    line_beyond out s x a v (deeper d e) =
        let k = reached_grows a in subst (λ y. Beyond y.session) (sym e) (omega arith)
    line_beyond out s x a v (fewer d e) = subst (λ y. Beyond y.session) (sym e) v

  lines_beyond : (lines : List Line) {out : List Pair} {s : Session} → Reached q f t out s → Follows f t s lines
      → Beyond s.depth.field.0 s.depth.trim.0 (last_record s lines)
  lines_beyond lines {s = s} a w =
      let m = s.depth.field.0 in
      let n = s.depth.trim.0 in
      lines_keep (Beyond m n) (line_beyond m n) lines a (omega arith) w

  -- the row limit
  module _ (wanted : 1 ≤ q.k) (m : FieldRows) (n : TrimRows) (sure : Sure q f t m n) where
    abbrev limit : ℕ
    limit = max m.0 n.0 + q.block - 1

    line_up_to : (out : List Pair) (s : Session) (x : Step) → Reached q f t out s → DepthsUpTo limit s → Changed f t s x
        → DepthsUpTo limit x.session
    unfolding moved_out
    line_up_to out s x a v (kept e b r) = subst (DepthsUpTo limit) (sym e) v
    line_up_to out s x a v (deeper d e) =
        subst (λ y. DepthsUpTo limit y.session) (sym e) (read_limit a g h wanted d m n sure v)
    line_up_to out s x a v (fewer d e) = subst (λ y. DepthsUpTo limit y.session) (sym e) v

    pub lines_up_to : (lines : List Line) {out : List Pair} {s : Session} → Reached q f t out s → DepthsUpTo limit s
        → Follows f t s lines → DepthsUpTo limit (last_record s lines)
    lines_up_to = lines_keep (DepthsUpTo limit) line_up_to

  -- the same answers
  module _ (f' t' : Table) (g' : legal f' ≡ true) (h' : legal t' ≡ true) (m : row_count f' ≡ row_count f)
      (n : row_count t' ≡ row_count t) where
    same_line : {out : List Pair} {s : Session} → Reached q f t out s → (l : Line) (lines : List Line)
        → Follows f t s (l ∷ lines) → AlikeTo f t f' t' l.gave.session
        → promised l.call (over f' t' l).field (over f' t' l).trim s ≡ l.gave
    same_line {s = s} a l lines w alike = go (is_accepted l) refl
      where
        -- their numbers, lent to it, are the tables
        field : lent_table s f'.numbers ≡ f'
        field = ap (λ c. table c f'.numbers) (a.card ∙ sym (ap (λ x. x.coordinates) alike.0))

        trim : lent_table s t'.numbers ≡ t'
        trim =
            ap (λ c. table c t'.numbers) (a.card ∙ a.cards.same ∙ sym (ap (λ x. x.coordinates) alike.1))

        go : (b : Bool) → is_accepted l ≡ b
            → promised l.call (cond b f'.numbers l.field) (cond b t'.numbers l.trim) s ≡ l.gave
        go true z =
            ap₂ (λ x y. ruled l.call x y s) field trim
            ∙ same_call a g h f' t' g' h' m n l.call l.gave z alike (line_happened a l lines w)
        go false z = sym w.0

    -- alike in the rows read at last, so in those read first
    alike_first : (lines : List Line) {out : List Pair} {s : Session} → Reached q f t out s → Follows f t s lines
        → AlikeTo f t f' t' (last_record s lines) → AlikeTo f t f' t' s
    alike_first lines {s = s} a w alike =
        let y = lines_beyond lines a w in
        let last : Session = last_record s lines in (
          same_less s.depth.field.0 last.depth.field.0 f f' y.0 alike.0,
          same_less s.depth.trim.0 last.depth.trim.0 t t' y.1 alike.1,
        )

    pub lines_same : (lines : List Line) {out : List Pair} {s : Session} → Reached q f t out s → Follows f t s lines
        → AlikeTo f t f' t' (last_record s lines)
        → map (λ x. x.answer) (by_rules s (map (over f' t') lines)) ≡ map (λ l. l.gave.answer) lines
    lines_same [] a w alike = refl
    lines_same (l ∷ lines) a w alike =
        let b = next_reached a l lines w in
        let here = same_line a l lines w (alike_first lines b w.2 alike) in
        ap (λ x. x.answer ∷ map (λ x. x.answer) (by_rules x.session (map (over f' t') lines))) here
        ∙ ap (λ r. l.gave.answer ∷ r) (lines_same lines b w.2 alike)

-- From the opening on

module _ {q : Query} {f t : Table} {opening : Step} {lines : List Line} (w : Sequence q f t opening lines) where
  pub reached : Reached q f t [] opening.session
  reached =
      subst (λ x. Reached q f t [] x.session) (sym (opening_is w))
      (open_reached q f t (opening_query w) (opening_cards w))

  pub some_block : 1 ≤ q.block
  some_block = (query_out q (opening_query w)).block.0

  -- before a call: the record that it was given, and what it did
  module _ (before after : List Line) (l : Line) (e : lines ≡ before ++ l ∷ after) where
    abbrev handed : Session
    handed = last_record opening.session before

    pub calls_before : Follows f t opening.session before × Follows f t handed (l ∷ after)
    calls_before =
        follows_before f t before (l ∷ after) opening.session (subst (Follows f t opening.session) e w.calls)

    pub reached_before : Reached q f t (outs before) handed
    reached_before = lines_reached q f t w.field_legal w.trim_legal some_block before reached calls_before.0

    pub happened_then : Happened f t handed l.call l.gave
    happened_then =
        line_happened q f t w.field_legal w.trim_legal some_block reached_before l after calls_before.1
