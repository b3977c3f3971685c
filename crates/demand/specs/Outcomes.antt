-- What a call of a sequence did, by what it was promised to give; and over tables alike in the rows read it gives the
-- same. Assumes nothing.
use Rattle.std.specs.Prelude.{◌≡◌, Bool, cond, ◌&&◌, List, [], eqb}
use Rattle.std.proofs.Math.Path.{refl}
use Rattle.std.proofs.Common.{sym, ap, subst, subst₂, ◌∙◌, arith, eqb-true, ltb-true}
use Rattle.std.proofs.Math.Bool.{true, false}
use Prim.Native.Nat.{ℕ, ◌≤◌}
use Rattle.std.proofs.Math.Dec.{ltb}
use Rattle.lists.specs.Bools.{clash, fails}
use Rattle.rules.specs.declared.Session.{Session}
use Rattle.rules.specs.declared.Step.{Step}
use Rattle.rules.specs.declared.Pair.{Pair}
use Rattle.rules.specs.declared.Query.{Query}
use Rattle.rules.specs.declared.Answer.{Answer}
use Rattle.rules.specs.declared.Answer.TheVariants.{Refused, Read, Settled, Given, NotYet, Finished}
use Rattle.rules.specs.Tables.{Table, row_count, legal}
use Rattle.rules.specs.Session.{settled, secured, a_table_is_empty}
use Rattle.rules.specs.Read.{field_next, read_table, read_block}
use Rattle.rules.specs.Take.{first_held, gives_pair_by, gives_pair, moved_out, finished}
use Rattle.rules.specs.Numbers.{said, refusal_of}
use Rattle.rules.specs.Calls.{call_code, new_block_code, step, read_call_by, read_call, take_call_by, take_call}
use Rattle.rules.specs.Query.{given}
use Rattle.session_laws.specs.Calls.{call_accepted, call_record, new_block_accepted, read_settled, read_goes}
use Rattle.session_laws.specs.Calls.{take_gives, take_finishes, take_waits}
use Rattle.session_laws.specs.Read.{read_field, read_trim, read_grows}
use Rattle.session_laws.specs.Alike.{SameRows, same_less, same_secured, same_settled, same_finished, same_next}
use Rattle.session_laws.specs.Alike.{same_read}
use Rattle.tables_join.specs.Reached.{Reached, first_inside, empty_none}
use Rattle.demand.specs.Demand.{Call, reading, taking, ruled}
use Rattle.demand.specs.Steps.{Happened, refused, settling, going, giving, finishing, waiting}
use Rattle.demand.specs.Steps.{reads_of, Changed, kept, deeper, fewer}

-- answers of two kinds are never the same: `differ cc`
differ {ℓ} : {C : Type ℓ} → ◌≡◌ {A = ℕ} 0 1 → C
differ e = absurd (omega arith)

-- From the promise to what happened

module _ (f t : Table) (s : Session) where
  read_outcome : Happened f t s reading (read_call f t s)
  unfolding read_call_by
  read_outcome = go (eqb (call_code f t s) 0) (settled f t s) (eqb (new_block_code f t s) 0) refl refl refl
    where
      refused_by : ℕ → Step
      refused_by n = step (Refused (refusal_of n)) s

      go : (x y z : Bool) → eqb (call_code f t s) 0 ≡ x → settled f t s ≡ y → eqb (new_block_code f t s) 0 ≡ z
          → Happened f t s reading
          (cond x (cond y (step Settled s) (cond z (step Read (read_block f t s)) (refused_by (new_block_code f t s))))
          (refused_by (call_code f t s)))
      go true true z a b c = settling refl (eqb-true (call_code f t s) 0 a) b refl
      go true false true a b c = going refl (eqb-true (call_code f t s) 0 a) b (eqb-true (new_block_code f t s) 0 c)
          refl
      go true false false a b c = refused (refusal_of (new_block_code f t s)) refl
      go false y z a b c = refused (refusal_of (call_code f t s)) refl

  take_outcome : Happened f t s taking (take_call f t s)
  unfolding take_call_by
  take_outcome = go (eqb (call_code f t s) 0) (gives_pair f t s) (finished f t s) refl refl refl
    where
      given : Step
      given = step (Given (first_held s)) (moved_out s)

      go : (x y z : Bool) → eqb (call_code f t s) 0 ≡ x → gives_pair f t s ≡ y → finished f t s ≡ z
          → Happened f t s taking
          (cond x (cond y given (cond z (step Finished s) (step NotYet s)))
          (step (Refused (refusal_of (call_code f t s))) s))
      go true true z a b c = giving refl (eqb-true (call_code f t s) 0 a) b refl
      go true false true a b c = finishing refl (eqb-true (call_code f t s) 0 a) b c refl
      go true false false a b c = waiting refl (eqb-true (call_code f t s) 0 a) b c refl
      go false y z a b c = refused (refusal_of (call_code f t s)) refl

  outcome : (c : Call) → Happened f t s c (ruled c f t s)
  outcome reading = read_outcome
  outcome taking = take_outcome

-- a call that was refused may have been lent any slices
module _ (f t f₁ t₁ : Table) (s : Session) (c : Call) (g : Step)
    (same : (said g.answer).accepted ≡ true → (f₁ ≡ f) × (t₁ ≡ t)) where
  accepted_here : (a : Answer) (r : Session) → g ≡ step a r → (said a).accepted ≡ true → Happened f₁ t₁ s c g
      → Happened f t s c g
  accepted_here a r e z o =
      let k = same (ap (λ g. (said g.answer).accepted) e ∙ z) in subst₂ (λ f t. Happened f t s c g) k.0 k.1 o

  happened_here : Happened f₁ t₁ s c g → Happened f t s c g
  happened_here (refused r e) = refused r e
  happened_here (settling a b d e) = accepted_here Settled s e refl (settling a b d e)
  happened_here (going a b d h e) = accepted_here Read (read_block f₁ t₁ s) e refl (going a b d h e)
  happened_here (giving a b d e) = accepted_here (Given (first_held s)) (moved_out s) e refl (giving a b d e)
  happened_here (finishing a b d h e) = accepted_here Finished s e refl (finishing a b d h e)
  happened_here (waiting a b d h e) = accepted_here NotYet s e refl (waiting a b d h e)

pub happened : (f t f₁ t₁ : Table) (s : Session) (c : Call) (g : Step) → g ≡ ruled c f₁ t₁ s
    → ((said g.answer).accepted ≡ true → (f₁ ≡ f) × (t₁ ≡ t)) → Happened f t s c g
happened f t f₁ t₁ s c g e same =
    happened_here f t f₁ t₁ s c g same (subst (Happened f₁ t₁ s c) (sym e) (outcome f₁ t₁ s c))

module _ (f t : Table) (s : Session) (c : Call) (g : Step) where
  -- what became of the record

  record_kept : (a : Answer) → g ≡ step a s → given a ≡ [] → reads_of a ≡ 0 → Changed f t s g
  record_kept a e b r =
      kept (ap (λ g. g.session) e) (ap (λ g. given g.answer) e ∙ b) (ap (λ g. reads_of g.answer) e ∙ r)

  pub changed : Happened f t s c g → Changed f t s g
  changed (refused r e) = record_kept (Refused r) e refl refl
  changed (settling a b d e) = record_kept Settled e refl refl
  changed (going a b d h e) = deeper d e
  changed (giving a b d e) = fewer d e
  changed (finishing a b d h e) = record_kept Finished e refl refl
  changed (waiting a b d h e) = record_kept NotYet e refl refl

  -- what an answer says

  pub said_given : (p : Pair) → g.answer ≡ Given p → Happened f t s c g → (gives_pair f t s ≡ true) × (first_held s ≡ p)
  said_given p w (refused n e) = differ cc
  said_given p w (settling i b d e) = differ cc
  said_given p w (going i b d k e) = differ cc
  said_given p w (giving i b d e) = (d, cc)
  said_given p w (finishing i b d k e) = differ cc
  said_given p w (waiting i b d k e) = differ cc

  pub said_finished : g.answer ≡ Finished → Happened f t s c g → finished f t s ≡ true
  said_finished w (refused n e) = differ cc
  said_finished w (settling i b d e) = differ cc
  said_finished w (going i b d k e) = differ cc
  said_finished w (giving i b d e) = differ cc
  said_finished w (finishing i b d k e) = k
  said_finished w (waiting i b d k e) = differ cc

  pub said_not_yet : g.answer ≡ NotYet → Happened f t s c g → (gives_pair f t s ≡ false) × (finished f t s ≡ false)
  said_not_yet w (refused n e) = differ cc
  said_not_yet w (settling i b d e) = differ cc
  said_not_yet w (going i b d k e) = differ cc
  said_not_yet w (giving i b d e) = differ cc
  said_not_yet w (finishing i b d k e) = differ cc
  said_not_yet w (waiting i b d k e) = (d, k)

-- a read lowers no depth
pub reached_grows : {q : Query} {f t : Table} {out : List Pair} {s : Session} → Reached q f t out s
    → (s.depth.field.0 ≤ (read_block f t s).depth.field.0) × (s.depth.trim.0 ≤ (read_block f t s).depth.trim.0)
reached_grows {f = f} {t = t} {s = s} a =
    read_grows (field_next f t s) f t s (omega (arith, a.field_depth, a.field_rows_lem))
    (omega (arith, a.trim_depth, a.trim_rows_lem))

-- Over tables alike in the rows read

-- alike in the rows that a record has read
abbrev pub AlikeTo : Table → Table → Table → Table → Session → Type 0
AlikeTo f t f' t' r = SameRows r.depth.field.0 f f' × SameRows r.depth.trim.0 t t'

module _ {q : Query} {f t : Table} {out : List Pair} {s : Session} (a : Reached q f t out s) (own : legal f ≡ true)
    (own_trim : legal t ≡ true) (f' t' : Table) (g : legal f' ≡ true) (h : legal t' ≡ true)
    (m : row_count f' ≡ row_count f) (n : row_count t' ≡ row_count t) where
  -- a held pair needs rows of both tables
  held_live : 1 ≤ s.held → a_table_is_empty f t s ≡ false
  held_live some =
      fails (a_table_is_empty f t s) (λ e. empty_none a own own_trim e (first_held s) (first_inside a some).fits)

  same_gives : AlikeTo f t f' t' s → gives_pair f' t' s ≡ gives_pair f t s
  unfolding gives_pair_by
  same_gives v = go (ltb 0 s.held) refl
    where
      go : (b : Bool) → ltb 0 s.held ≡ b → (b && secured f' t' s (first_held s)) ≡ (b && secured f t s (first_held s))
      go true z = same_secured f t f' t' s v.0 v.1 (held_live (ltb-true 0 s.held z)) (first_held s)
      go false z = refl

  -- the record is one of the other tables too
  field_rows_lem : s.rows.field.0 ≡ row_count f'
  field_rows_lem = a.field_rows_lem ∙ sym m

  trim_rows_lem : s.rows.trim.0 ≡ row_count t'
  trim_rows_lem = a.trim_rows_lem ∙ sym n

  field_depth : s.depth.field.0 ≤ row_count f'
  field_depth = omega (arith, a.field_depth)

  trim_depth : s.depth.trim.0 ≤ row_count t'
  trim_depth = omega (arith, a.trim_depth)

  same_accepted : call_code f t s ≡ 0 → call_code f' t' s ≡ 0
  same_accepted e = call_accepted f' t' s g h field_rows_lem trim_rows_lem field_depth trim_depth (call_record f t s e)

  same_new : new_block_code f' t' s ≡ 0
  same_new = new_block_accepted f' t' s g h field_rows_lem trim_rows_lem field_depth trim_depth

  -- after a read
  module _ (v : AlikeTo f t f' t' (read_block f t s)) where
    field_before : SameRows s.depth.field.0 f f'
    field_before = same_less s.depth.field.0 (read_block f t s).depth.field.0 f f' (reached_grows a).0 v.0

    trim_before : SameRows s.depth.trim.0 t t'
    trim_before = same_less s.depth.trim.0 (read_block f t s).depth.trim.0 t t' (reached_grows a).1 v.1

    same_block : read_table (field_next f t s) f' t' s ≡ read_block f t s
    same_block =
        same_read (field_next f t s) f t f' t' s
        (subst (λ d. SameRows d f f') (read_field (field_next f t s) f t s) v.0)
        (subst (λ d. SameRows d t t') (read_trim (field_next f t s) f t s) v.1)

    same_going : call_code f t s ≡ 0 → settled f t s ≡ false → read_call f' t' s ≡ step Read (read_block f t s)
    same_going b d =
        read_goes f' t' s (same_accepted b) (same_settled f t f' t' s field_before trim_before ∙ d) same_new
        ∙ ap (λ b. step Read (read_table b f' t' s)) (same_next f t f' t' s field_before trim_before)
        ∙ ap (step Read) same_block

  -- an accepted call gives what it gave
  pub same_call : (c : Call) (x : Step) → (said x.answer).accepted ≡ true → AlikeTo f t f' t' x.session
      → Happened f t s c x → ruled c f' t' s ≡ x
  unfolding moved_out
  same_call c x w v o = go o
    where
      given : Step
      given = step (Given (first_held s)) (moved_out s)

      at : (y : Step) → x ≡ y → AlikeTo f t f' t' y.session
      at y e = subst (λ y. AlikeTo f t f' t' y.session) e v

      gave : (d : Call) (y : Step) → c ≡ d → x ≡ y → ruled d f' t' s ≡ y → ruled c f' t' s ≡ x
      gave d y i e r = ap (λ c. ruled c f' t' s) i ∙ r ∙ sym e

      gives : AlikeTo f t f' t' s → (b : Bool) → gives_pair f t s ≡ b → gives_pair f' t' s ≡ b
      gives u b d = same_gives u ∙ d

      go : Happened f t s c x → ruled c f' t' s ≡ x
      go (refused n e) = clash w (ap (λ x. (said x.answer).accepted) e)
      go (settling i b d e) =
          let u = at (step Settled s) e in
          let still = same_settled f t f' t' s u.0 u.1 ∙ d in
          gave reading (step Settled s) i e (read_settled f' t' s (same_accepted b) still)
      go (going i b d k e) =
          let y = step Read (read_block f t s) in gave reading y i e (same_going (at y e) b d)
      go (giving i b d e) =
          gave taking given i e (take_gives f' t' s (same_accepted b) (gives (at given e) true d))
      go (finishing i b d k e) =
          let y = step Finished s in
          let u = at y e in
          gave taking y i e
          (take_finishes f' t' s (same_accepted b) (gives u false d) (same_finished f t f' t' s u.0 u.1 ∙ k))
      go (waiting i b d k e) =
          let y = step NotYet s in
          let u = at y e in
          gave taking y i e
          (take_waits f' t' s (same_accepted b) (gives u false d) (same_finished f t f' t' s u.0 u.1 ∙ k))
