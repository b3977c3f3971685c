-- What the parts of demand 3 come to. Each law takes a transcript that keeps demand 3 and uses its parts alone, so that
-- a part that said less would be missed here. Assumes legal tables where sums are counted.
use Rattle.std.specs.Prelude.{◌≡◌, refl, true, ◌⊎◌, ℕ, ◌≤◌, max, ltb, length, take, drop, get_or}
use Rattle.std.proofs.Common.{sym, ap, subst, subst₂, ◌∙◌, inl, inr, arith, take-take}
use mathlib.Core.List.Memᴰ
use mathlib.Core.List.{List, [], ◌∷◌, ◌++◌, map, append_assoc, append-nil, Memᴰ}
use Rattle.std.proofs.Math.Logic.{⊎_elim}
use Rattle.lists.specs.Lists.{sort, best}
use Rattle.lists.specs.Words.{Distinct}
use Rattle.join.specs.BestFirst.{BestFirst}
use Rattle.join.specs.BestFirstLaws.{best_first_sums}
use Rattle.rules.specs.declared.Session.{Session}
use Rattle.rules.specs.declared.Step.{Step}
use Rattle.rules.specs.declared.Pair.{Pair}
use Rattle.rules.specs.declared.Query.{Query}
use Rattle.rules.specs.declared.Answer.{Answer}
use Rattle.rules.specs.declared.Answer.TheVariants.{Refused, Opened, Read, Settled, Given, NotYet, Finished}
use Rattle.rules.specs.Tables.{Table, legal, terms, qualifying}
use Rattle.rules.specs.Calls.{open_call}
use Rattle.rules.specs.Query.{given}
use Rattle.rules.specs.Sure.{whole, qualifying_sums}
use Rattle.tables_join.specs.Pairs.{QualifyingPair, pair_rank, qualifying_distinct}
use Rattle.tables_join.specs.WholeList.{all_qualify}
use Rattle.demand.specs.Demand.{Line, Qualifying, promised, outs, Out, last_record, by_rules}
use Rattle.demand.specs.Demand.{over, Alike, Brought, Demand3}
use Rattle.demand.specs.Transcript.{lending, same_rules}
use Rattle.demand.specs.Named.{fits_qualifying, mem_in, in_mem}

-- Transcripts in parts

-- an answer brings out one pair or none
one_or_none : (a : Answer) → (given a ≡ []) ⊎ ((p : Pair) × (a ≡ Given p))
one_or_none (Refused n) = inl refl
one_or_none Opened = inl refl
one_or_none Read = inl refl
one_or_none Settled = inl refl
one_or_none (Given p) = inr (p, refl)
one_or_none NotYet = inl refl
one_or_none Finished = inl refl

outs_end : (lines : List Line) (l : Line) → outs (lines ++ l ∷ []) ≡ outs lines ++ given l.gave.answer
outs_end [] l = append-nil (given l.gave.answer)
outs_end (x ∷ lines) l =
    ap (λ o. given x.gave.answer ++ o) (outs_end lines l)
    ∙ sym (append_assoc (given x.gave.answer) (outs lines) (given l.gave.answer))

answers_gave : (lines : List Line)
    → map (λ l. l.gave.answer) lines ≡ map (λ g. g.answer) (map (λ l. l.gave) lines)
answers_gave [] = refl
answers_gave (l ∷ lines) = ap (λ r. l.gave.answer ∷ r) (answers_gave lines)

-- what the rules give of all lines they give of each
rules_at : (s : Session) (before after : List Line) (l : Line)
    → map (λ l. l.gave) (before ++ l ∷ after) ≡ by_rules s (before ++ l ∷ after)
    → l.gave ≡ promised l.call l.field l.trim (last_record s before)
rules_at s [] after l e = ap (λ gs. get_or gs 0 l.gave) e
rules_at s (x ∷ before) after l e =
    let first : x.gave ≡ promised x.call x.field x.trim s = ap (λ gs. get_or gs 0 x.gave) e in
    rules_at x.gave.session before after l
    (ap (drop 1) e ∙ ap (λ g. by_rules g.session (before ++ l ∷ after)) (sym first))

-- Pairs that come out

module _ (q : Query) (f t : Table) where
  brought_fits : (before : List Line) (p : Pair) → Brought q f t before p → QualifyingPair q f t p
  brought_fits before p b =
      let k = b.qualifying in
      record { field_row = k.field_row; trim_row = k.trim_row; near = k.near; own_sum = b.own_sum }

  -- the pairs of l come out after those of `out`: all new, each once, the best of those left each time
  record Come (out l : List Pair) : Type 0 where
    new : (p : Pair) → Memᴰ p l → Memᴰ p out → ⊥
    once : Distinct l
    best_first : BestFirst (λ p. p.sum) (QualifyingPair q f t) out l

  come_one : (before : List Line) (p : Pair) (l : List Pair) → Brought q f t before p
      → ((p : Pair) → Memᴰ p (outs before) → QualifyingPair q f t p) → Come (outs before ++ p ∷ []) l
      → Come (outs before) (p ∷ l)
  come_one before p l b fit c = record {
    new = new;
    once = (λ m. c.new p m (Memᴰ.append_right (outs before) (Memᴰ.head refl)), c.once);
    best_first = (highest, c.best_first);
  }
    where
      new : (x : Pair) → Memᴰ x (p ∷ l) → Memᴰ x (outs before) → ⊥
      new x (Memᴰ.head e) o = b.new (mem_in p (outs before) (subst (λ x. Memᴰ x (outs before)) e o))
      new x (Memᴰ.tail m) o = c.new x m (Memᴰ.append_left (p ∷ []) o)

      highest : (x : Pair) → QualifyingPair q f t x → (Memᴰ x (outs before) → ⊥) → x.sum ≤ p.sum
      highest x k apart =
          let left : Out before x.field x.trim → ⊥ = λ o. apart (in_mem q f t x k (outs before) fit o) in
          let low = b.highest x.field x.trim (fits_qualifying q f t x k) left in
          omega (arith, k.own_sum, low)

-- Of a transcript that keeps demand 3

module _ {q : Query} {f t : Table} {opening : Step} {lines : List Line} (d : Demand3 q f t opening lines) where
  rest_fits : (before rest after : List Line) → lines ≡ before ++ (rest ++ after) → (p : Pair) → Memᴰ p (outs rest)
      → QualifyingPair q f t p
  rest_fits before [] after e p m = elim m [ ]
  rest_fits before (l ∷ rest) after e p m =
      go (one_or_none l.gave.answer)
      (rest_fits (before ++ l ∷ []) rest after (e ∙ sym (append_assoc before (l ∷ []) (rest ++ after))) p)
    where
      go : (given l.gave.answer ≡ []) ⊎ ((x : Pair) × (l.gave.answer ≡ Given x))
          → (Memᴰ p (outs rest) → QualifyingPair q f t p) → QualifyingPair q f t p
      go (inl z) later = later (subst (Memᴰ p) (ap (λ o. o ++ outs rest) z) m)
      go (inr x) later = at (subst (λ a. Memᴰ p (given a ++ outs rest)) x.1 m)
        where
          at : Memᴰ p (x.0 ∷ outs rest) → QualifyingPair q f t p
          at (Memᴰ.head i) =
              subst (QualifyingPair q f t) (sym i)
              (brought_fits q f t before x.0 (d.brought before (rest ++ after) l x.0 e x.1))
          at (Memᴰ.tail k) = later k

  -- "Each pair brought out qualifies, carries its own sum"
  pub out_fits : (before after : List Line) → lines ≡ before ++ after → (p : Pair) → Memᴰ p (outs before)
      → QualifyingPair q f t p
  out_fits before after e = rest_fits [] before after e

  rest_comes : (before rest after : List Line) → lines ≡ before ++ (rest ++ after)
      → Come q f t (outs before) (outs rest)
  rest_comes before [] after e = record { new = λ p m o. Memᴰ.not-nil m; once = tt; best_first = tt }
  rest_comes before (l ∷ rest) after e =
      go (one_or_none l.gave.answer)
      (rest_comes (before ++ l ∷ []) rest after (e ∙ sym (append_assoc before (l ∷ []) (rest ++ after))))
    where
      go : (given l.gave.answer ≡ []) ⊎ ((x : Pair) × (l.gave.answer ≡ Given x))
          → Come q f t (outs (before ++ l ∷ [])) (outs rest) → Come q f t (outs before) (outs (l ∷ rest))
      go (inl z) c =
          subst₂ (Come q f t) (outs_end before l ∙ ap (λ o. outs before ++ o) z ∙ append-nil (outs before))
          (sym (ap (λ o. o ++ outs rest) z)) c
      go (inr x) c =
          let brought = d.brought before (rest ++ after) l x.0 e x.1 in
          let out = outs_end before l ∙ ap (λ a. outs before ++ given a) x.1 in
          subst (Come q f t (outs before)) (sym (ap (λ a. given a ++ outs rest) x.1))
          (come_one q f t before x.0 (outs rest) brought (out_fits before (l ∷ rest ++ after) e)
          (subst (λ o. Come q f t o (outs rest)) out c))

  -- the pairs that are out, at any time and at the end: the highest sums of all, unread rows included
  module _ (g : legal f ≡ true) (h : legal t ≡ true) where
    -- so many highest sums as any k from the number of pairs out on, if these are k or all
    out_sums : (before after : List Line) → lines ≡ before ++ after → (k : ℕ) → length (outs before) ≤ k
        → (length (outs before) ≡ k) ⊎ ((p : Pair) → QualifyingPair q f t p → Memᴰ p (outs before))
        → map (λ p. p.sum) (outs before) ≡ best k (qualifying_sums q f t)
    unfolding qualifying_sums
    out_sums before after e k room complete =
        let c = rest_comes [] before after e in
        best_first_sums pair_rank (QualifyingPair q f t) k (qualifying (terms q) (whole f) (whole t))
        (outs before)
        (qualifying_distinct q (whole f) (whole t)) (all_qualify q f t g h) c.once
        (out_fits before after e) c.best_first room complete

    -- at any time the sums out are the highest, as many as are out
    pub out_best : (before after : List Line) → lines ≡ before ++ after
        → map (λ p. p.sum) (outs before) ≡ best (length (outs before)) (qualifying_sums q f t)
    out_best before after e = out_sums before after e (length (outs before)) (omega arith) (inl refl)

    -- and when a call says finished their first k are the k highest, all there are if fewer
    pub finished_highest : (before after : List Line) (l : Line) → lines ≡ before ++ l ∷ after
        → l.gave.answer ≡ Finished
        → take q.k (map (λ p. p.sum) (outs before)) ≡ best q.k (qualifying_sums q f t)
    unfolding best
    finished_highest before after l e y =
        ⊎_elim (λ z. at q.k (omega (arith, z)) (omega arith) (inl z))
        (λ all. at (max q.k (length (outs before))) (omega arith) (omega arith) (inr (all_out all)))
        (d.finished before after l e y)
      where
        all_out : ((i j : ℕ) → Qualifying q f t i j → Out before i j) → (p : Pair) → QualifyingPair q f t p
            → Memᴰ p (outs before)
        all_out all p k =
            in_mem q f t p k (outs before) (out_fits before (l ∷ after) e)
            (all p.field p.trim (fits_qualifying q f t p k))

        at : (k : ℕ) → length (outs before) ≤ k → q.k ≤ k
            → (length (outs before) ≡ k) ⊎ ((p : Pair) → QualifyingPair q f t p → Memᴰ p (outs before))
            → take q.k (map (λ p. p.sum) (outs before)) ≡ best q.k (qualifying_sums q f t)
        at k room more complete =
            ap (take q.k) (out_sums before (l ∷ after) e k room complete)
            ∙ take-take q.k k (sort (λ x y. ltb y x) (qualifying_sums q f t)) more

  -- "Each answer and record, the opening's included, is the one that document 01 gives": at each call the one of the
  -- record that the call before it gave
  pub gave_promised : (before after : List Line) (l : Line) → lines ≡ before ++ l ∷ after
      → l.gave ≡ promised l.call l.field l.trim (last_record opening.session before)
  gave_promised before after l e =
      rules_at opening.session before after l
      (subst (λ ls. map (λ l. l.gave) ls ≡ by_rules opening.session ls) e
      (d.by_rules_lem.1 ∙ ap (λ x. by_rules x.session lines) (sym d.by_rules_lem.0)))

  -- "Legal tables alike in their row counts and in the rows read get the same answers": of another transcript, whose
  -- calls are the same but that the accepted ones are lent tables alike, the answers are the same at each call
  module _ {f' t' : Table} {opening' : Step} {lines' : List Line} (d' : Demand3 q f' t' opening' lines')
      (same : map lending lines' ≡ map lending (map (over f' t') lines))
      (u : Alike f f' (last_record opening.session lines).depth.field.0)
      (v : Alike t t' (last_record opening.session lines).depth.trim.0) where
    pub alike_opening : opening'.answer ≡ opening.answer
    alike_opening = ap (λ x. x.answer) d'.by_rules_lem.0 ∙ (d.same_answers f' t' u v).0

    pub alike_at_each : map (λ l. l.gave.answer) lines' ≡ map (λ l. l.gave.answer) lines
    alike_at_each =
        let asked = same_rules (open_call q f' t').session lines' (map (over f' t') lines) same in
        answers_gave lines'
        ∙ ap (map (λ g. g.answer)) (d'.by_rules_lem.1 ∙ asked)
        ∙ (d.same_answers f' t' u v).1
