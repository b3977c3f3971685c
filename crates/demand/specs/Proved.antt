-- Demand 3, proved. Assumes nothing.
use Rattle.std.specs.Prelude.{◌≡◌, true, ℕ, ◌+◌, ◌-◌, ◌≤◌, max}
use Rattle.std.proofs.Common.{sym, ap, ◌∙◌, inl, inr, ⊎_elim, arith}
use Rattle.std.proofs.Math.Path.{subst}
use mathlib.Core.List.{List, ◌∷◌, ◌++◌, map, Memᴰ}
use Rattle.rules.specs.declared.FieldRows.{FieldRows}
use Rattle.rules.specs.declared.TrimRows.{TrimRows}
use Rattle.rules.specs.declared.Session.{Session}
use Rattle.rules.specs.declared.Step.{Step}
use Rattle.rules.specs.declared.Pair.{Pair}
use Rattle.rules.specs.declared.Query.{Query}
use Rattle.rules.specs.declared.Answer.TheVariants.{Given, Finished}
use Rattle.rules.specs.Tables.{Table, legal}
use Rattle.rules.specs.Session.{opened}
use Rattle.rules.specs.Take.{first_held, gives_pair}
use Rattle.rules.specs.Sure.{Sure}
use Rattle.rules.specs.Calls.{open_call}
use Rattle.session_laws.specs.Record.{query_out}
use Rattle.session_laws.specs.Take.{gives_some, gives_secured}
use Rattle.session_laws.specs.Alike.{SameRows}
use Rattle.tables_join.specs.Pairs.{QualifyingPair}
use Rattle.tables_join.specs.Reached.{Reached, first_inside, first_new, finished_complete}
use Rattle.tables_join.specs.Ceiling.{secured_best}
use Rattle.demand.specs.Demand.{Call, Line, Sequence, Qualifying, sum_of, outs, IsIn, Out, last_record}
use Rattle.demand.specs.Demand.{by_rules, over, answers_over, Alike, Brought, Complete, Statement}
use Rattle.demand.specs.Steps.{Happened}
use Rattle.demand.specs.Outcomes.{said_given, said_finished}
use Rattle.demand.specs.Openings.{opening_query, opening_is, opens_alike}
use Rattle.demand.specs.Sequences.{DepthsUpTo, follows_rules, lines_up_to, lines_same}
use Rattle.demand.specs.Sequences.{reached, some_block, reached_before, happened_then}
use Rattle.demand.specs.Named.{mem_in, named, named_fits, fits_qualifying, in_mem}

-- Tables that are alike have the same first rows

alike_rows : {t u : Table} {n : ℕ} → Alike t u n → SameRows n t u
alike_rows a = a.rows

-- One call, the record reached before it

module _ {q : Query} {f t : Table} (g : legal f ≡ true) (h : legal t ≡ true) (before : List Line) {s : Session}
    (a : Reached q f t (outs before) s) where
  out_fits : (p : Pair) → Memᴰ p (outs before) → QualifyingPair q f t p
  out_fits p m = (a.keeping.holds.inside p (inl m)).fits

  first_brought : gives_pair f t s ≡ true → Brought q f t before (first_held s)
  first_brought gives = record {
    qualifying = fits_qualifying q f t (first_held s) fits;
    own_sum = fits.own_sum;
    new = λ o. first_new a some (in_mem q f t (first_held s) fits (outs before) out_fits o);
    highest = λ i j k new. first_highest i j k new;
  }
    where
      some : 1 ≤ s.held
      some = gives_some f t s gives

      fits : QualifyingPair q f t (first_held s)
      fits = (first_inside a some).fits

      first_highest : (i j : ℕ) → Qualifying q f t i j → (Out before i j → ⊥) → sum_of q f t i j ≤ (first_held s).sum
      first_highest i j k new =
          secured_best a g h some (gives_secured f t s gives) (named q f t i j) (named_fits q f t i j k)
          (λ m. new (mem_in (named q f t i j) (outs before) m))

  call_brought : (c : Call) (x : Step) (p : Pair) → x.answer ≡ Given p → Happened f t s c x → Brought q f t before p
  call_brought c x p w o =
      let d = said_given f t s c x p w o in subst (Brought q f t before) d.1 (first_brought d.0)

  call_complete : (c : Call) (x : Step) → x.answer ≡ Finished → Happened f t s c x → Complete q f t before
  call_complete c x w o =
      ⊎_elim (λ e. inl e) (λ all. inr (all_in all)) (finished_complete a g h (said_finished f t s c x w o))
    where
      all_in : ((p : Pair) → QualifyingPair q f t p → Memᴰ p (outs before)) → (i j : ℕ)
          → Qualifying q f t i j
          → IsIn (outs before) i j
      all_in all i j k = mem_in (named q f t i j) (outs before) (all (named q f t i j) (named_fits q f t i j k))

-- The sequence

module _ {q : Query} {f t : Table} {opening : Step} {lines : List Line} (w : Sequence q f t opening lines) where
  module _ (before after : List Line) (l : Line) (e : lines ≡ before ++ l ∷ after) where
    line_brought : (p : Pair) → l.gave.answer ≡ Given p → Brought q f t before p
    line_brought p y =
        call_brought w.field_legal w.trim_legal before (reached_before w before after l e) l.call l.gave p y
        (happened_then w before after l e)

    line_complete : l.gave.answer ≡ Finished → Complete q f t before
    line_complete y =
        call_complete w.field_legal w.trim_legal before (reached_before w before after l e) l.call l.gave y
        (happened_then w before after l e)

  nothing_read : (n : ℕ) → DepthsUpTo n opening.session
  unfolding opened
  nothing_read n = subst (λ x. DepthsUpTo n x.session) (sym (opening_is w)) (omega arith)

  within_limit : (m : FieldRows) (n : TrimRows) → Sure q f t m n
      → DepthsUpTo (max m.0 n.0 + q.block - 1) (last_record opening.session lines)
  within_limit m n sure =
      lines_up_to q f t w.field_legal w.trim_legal (some_block w) (query_out q (opening_query w)).k.0
      m n sure lines (reached w) (nothing_read (max m.0 n.0 + q.block - 1)) w.calls

  module _ (f' t' : Table) (u : Alike f f' (last_record opening.session lines).depth.field.0)
      (v : Alike t t' (last_record opening.session lines).depth.trim.0) where
    same_opening : open_call q f' t' ≡ opening
    same_opening = opens_alike w f' t' u v

    same_lines : answers_over q f' t' lines ≡ map (λ l. l.gave.answer) lines
    same_lines =
        ap (λ x. map (λ g. g.answer) (by_rules x.session (map (over f' t') lines))) same_opening
        ∙ lines_same q f t w.field_legal w.trim_legal (some_block w) f' t' u.lawful v.lawful u.count
        v.count lines (reached w) w.calls (alike_rows u, alike_rows v)

  all_by_rules : map (λ l. l.gave) lines ≡ by_rules (open_call q f t).session lines
  all_by_rules =
      follows_rules f t opening.session lines w.calls ∙ ap (λ x. by_rules x.session lines) w.opening_promised

pub demand3 : Statement
demand3 q f t opening lines w = record {
  brought = λ before after l p e y. line_brought w before after l e p y;
  finished = λ before after l e y. line_complete w before after l e y;
  row_limit_lem = λ m n sure. within_limit w m n sure;
  same_answers = λ f' t' u v. (ap (λ x. x.answer) (same_opening w f' t' u v), same_lines w f' t' u v);
  by_rules_lem = (w.opening_promised, all_by_rules w);
}
