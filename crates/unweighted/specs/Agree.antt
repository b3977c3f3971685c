-- Rules by two terms agree on a record whose query comes to the same in both. Assumes nothing.
use Rattle.std.specs.Prelude.{◌≡◌, Bool, ◌&&◌, ◌||◌, leb, ltb, eqb}
use Rattle.std.proofs.Math.Path.{refl, ap, ap₂}
use Rattle.std.proofs.Common.{sym, ◌∙◌}
use Rattle.std.proofs.Math.Bool.{true, false, cond, not}
use Prim.Native.Nat.{ℕ, zero, suc, ◌+◌, ◌-◌, max}
use Rattle.lists.specs.Lists.{every}
use Rattle.rules.specs.declared.Pair.{Pair}
use Rattle.rules.specs.declared.Query.{Query}
use Rattle.rules.specs.declared.Session.{Session}
use Rattle.rules.specs.declared.Answer.TheVariants.{Read, Settled, Given, NotYet, Finished}
use Rattle.rules.specs.Tables.{Table, Terms, terms, Block, qualifying}
use Rattle.rules.specs.Session.{held_pairs, first_score, last_score, field_read_out, trim_read_out, both_read_out}
use Rattle.rules.specs.Session.{nothing_qualifies, a_table_is_empty, a_depth_is_zero, ceiling_by, secured_by}
use Rattle.rules.specs.Session.{settled_by}
use Rattle.rules.specs.Read.{score_drop, field_next_by, rows_between, block_count, block_at, lowest, skipped_by}
use Rattle.rules.specs.Read.{best_held}
use Rattle.rules.specs.Read.{holding, meet_by, meet_blocks_by, read_to, old_depth, new_depth, read_table_by}
use Rattle.rules.specs.Read.{read_block_by}
use Rattle.rules.specs.Take.{first_held, gives_pair_by, moved_out, finished}
use Rattle.rules.specs.Calls.{rows_code, call_code, new_block_code_by, step, read_call_by, take_call_by}
use Rattle.rules.specs.Numbers.{refused}
use Rattle.session_laws.specs.Read.{blocks_keep}

-- a block pair
meet_agrees : (g : Query → Terms) (r : Session) (x y : Block) → g r.query ≡ terms r.query
    → meet_by g r x y ≡ meet_by terms r x y
unfolding meet_by skipped_by
meet_agrees g r x y e =
    ap
    (λ (w : Terms).
    cond
    ((eqb (r.out + r.held) r.query.k
    && ltb (first_score w.field x.rows + first_score w.trim y.rows) (lowest (held_pairs r)))
    || w.far x.rows y.rows)
    r (holding r (best_held r (qualifying w x y))))
    e

module _ (g : Query → Terms) (s : Session) (e : g s.query ≡ terms s.query) where
  -- a block and those of the other table: no block pair changes the query
  blocks_agree : (field : Bool) (new : Block) (t : Table) (depth n : ℕ)
      → meet_blocks_by g field s new t depth n ≡ meet_blocks_by terms field s new t depth n
  unfolding meet_blocks_by
  blocks_agree field new t depth zero = refl
  blocks_agree field new t depth (suc n) =
      let r : Session = meet_blocks_by terms field s new t depth n in
      let old : Block = block_at t s.query.block depth n in
      let kept = (blocks_keep field s new t depth n).query in
      ap (λ (r : Session). meet_by g r (cond field new old) (cond field old new)) (blocks_agree field new t depth n)
      ∙ meet_agrees g r (cond field new old) (cond field old new) (ap g kept ∙ e ∙ ap terms (sym kept))

  module _ (f t : Table) where
    ceiling_agrees : ceiling_by g f t s ≡ ceiling_by terms f t s
    unfolding ceiling_by
    ceiling_agrees =
        ap
        (λ (w : Terms).
        max (cond (trim_read_out t s) 0 (first_score w.field f + last_score w.trim t s.depth.trim.0))
        (cond (field_read_out f s) 0 (last_score w.field f s.depth.field.0 + first_score w.trim t)))
        e

    secured_agrees : secured_by g f t s ≡ secured_by terms f t s
    unfolding secured_by
    secured_agrees =
        λ i p.
        cond (a_depth_is_zero s && not (a_table_is_empty f t s)) false
        (cond (both_read_out f t s) true (leb (ceiling_agrees i) p.sum))

    settled_agrees : settled_by g f t s ≡ settled_by terms f t s
    unfolding settled_by
    settled_agrees =
        ap
        (λ (secured : Pair → Bool).
        nothing_qualifies s
        || (a_table_is_empty f t s
        || (both_read_out f t s
        || (eqb s.out s.query.k
        || (eqb (s.out + s.held) s.query.k && every secured (held_pairs s))))))
        secured_agrees

    next_agrees : field_next_by g f t s ≡ field_next_by terms f t s
    unfolding field_next_by
    next_agrees =
        let d = s.depth.field.0 in
        let c = s.depth.trim.0 in
        ap₂
        (λ (x y : ℕ).
        cond (eqb d 0) true
        (cond (eqb c 0) false
        (cond (trim_read_out t s) true
        (cond (field_read_out f s) false (cond (ltb x y) true (cond (ltb y x) false (leb d c)))))))
        (ap (λ (w : Terms). score_drop w.field f d) e) (ap (λ (w : Terms). score_drop w.trim t c) e)

    new_block_agrees : new_block_code_by g f t s ≡ new_block_code_by terms f t s
    unfolding new_block_code_by
    new_block_agrees =
        ap (λ (field : Bool). rows_code (cond field f t) (old_depth field s) (new_depth field s - old_depth field s))
        next_agrees

    table_agrees : (field : Bool) → read_table_by g field f t s ≡ read_table_by terms field f t s
    unfolding read_table_by
    table_agrees field =
        let depth : ℕ = cond field s.depth.trim.0 s.depth.field.0 in
        ap (read_to field (new_depth field s))
        (blocks_agree field (rows_between (cond field f t) (old_depth field s) (new_depth field s)) (cond field t f)
        depth
        (block_count s.query.block depth))

    block_agrees : read_block_by g f t s ≡ read_block_by terms f t s
    block_agrees =
        table_agrees (field_next_by g f t s) ∙ ap (λ (field : Bool). read_table_by terms field f t s) next_agrees

    -- read and take
    pub read_agrees : read_call_by g f t s ≡ read_call_by terms f t s
    unfolding read_call_by
    read_agrees =
        λ i.
        cond (eqb (call_code f t s) 0)
        (cond (settled_agrees i) (step Settled s)
        (cond (eqb (new_block_agrees i) 0) (step Read (block_agrees i)) (step (refused (new_block_agrees i)) s)))
        (step (refused (call_code f t s)) s)

    pub take_agrees : take_call_by g f t s ≡ take_call_by terms f t s
    unfolding take_call_by gives_pair_by
    take_agrees =
        ap
        (λ (secured : Pair → Bool).
        cond (eqb (call_code f t s) 0)
        (cond (ltb 0 s.held && secured (first_held s)) (step (Given (first_held s)) (moved_out s))
        (cond (finished f t s) (step Finished s) (step NotYet s)))
        (step (refused (call_code f t s)) s))
        secured_agrees
