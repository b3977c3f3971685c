-- When a call of a sequence says finished, the sums of the pairs out are the k highest of all pairs that qualify. The
-- parts of demand 3 say so of the first k, and no more come out. Assumes nothing.
use Rattle.std.specs.Prelude.{◌≡◌, List, ◌∷◌, ◌++◌, map, ◌≤◌, length}
use Rattle.std.proofs.Common.{sym, ap, ◌∙◌, arith, take_all}
use Rattle.std.proofs.lemmas.List.{length-map}
use Rattle.lists.specs.Lists.{best}
use Rattle.rules.specs.declared.Step.{Step}
use Rattle.rules.specs.declared.Query.{Query}
use Rattle.rules.specs.declared.Answer.TheVariants.{Finished}
use Rattle.rules.specs.Sure.{qualifying_sums}
use Rattle.demand.specs.Demand.{Line, Sequence, outs}
use Rattle.demand.specs.Sequences.{reached_before}
use Rattle.demand.specs.Proved.{demand3}
use Rattle.demand.proofs.Uses.{finished_highest}
use Rattle.rules.specs.Tables.{Table}

module _ {q : Query} {f t : Table} {opening : Step} {lines : List Line} (w : Sequence q f t opening lines)
    (before after : List Line) (l : Line) (e : lines ≡ before ++ l ∷ after) where
  pub few_out : length (outs before) ≤ q.k
  few_out =
      let r = reached_before w before after l e in
      omega (arith, r.keeping.holds.room, ap (λ q. q.k) r.query)

  pub finished_best : l.gave.answer ≡ Finished
      → map (λ p. p.sum) (outs before) ≡ best q.k (qualifying_sums q f t)
  finished_best y =
      let few = length-map (outs before) (λ p. p.sum) in
      sym (take_all q.k (map (λ p. p.sum) (outs before)) (omega (arith, few_out, few)))
      ∙ finished_highest (demand3 q f t opening lines w) w.field_legal w.trim_legal before after l e y
