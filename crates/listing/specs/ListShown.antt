-- Each pair of the list is shown: it was held, so that its rows were read and are refused by neither 6 nor 7.
-- Assumes nothing.
use Rattle.std.specs.Prelude.{◌≡◌, refl, Bool, true, false, cond, List, [], ◌∷◌, ℕ, zero, suc, ◌+◌, ◌*◌, ◌-◌, ◌≤◌, ◌<◌}
use Rattle.std.specs.Prelude.{◌^◌, eqb, ℤ, pos, length, get_or}
use Rattle.std.proofs.Common.{sym, ap, subst, ◌∙◌, not-suc-le-zero, mul-le-mul, mul-le-mul_right, arith, length-append}
use Rattle.std.proofs.Common.{eqb-true}
use Rattle.std.proofs.lemmas.List.{length-replicate}
use Rattle.std.proofs.Math.ListN.{get_or-append}
use Rattle.rules.specs.declared.Pair.{Pair}
use Rattle.rules.specs.declared.Query.{Query}
use Rattle.rules.specs.declared.Session.{Session}
use Rattle.rules.specs.declared.Step.{Step}
use Rattle.rules.specs.declared.Answer.TheVariants.{Opened}
use Rattle.rules.specs.Tables.{Table, Block, row, row_count, gap, squared_distance}
use Rattle.rules.specs.Widths.{has_row, has_rows, shade_length}
use Rattle.rules.specs.Squares.{square_at, squares_most}
use Rattle.rules.specs.Session.{no_pair, place_count, places, two_tables, opened, zeros}
use Rattle.rules.specs.Read.{block_at, skipped, best_held, holding, meet_by, meet, meet_blocks_by, meet_blocks, read_to}
use Rattle.rules.specs.Read.{read_table_by}
use Rattle.rules.specs.Tables.{terms, qualifying}
use Rattle.rules.specs.Take.{first_held, moved_out}
use Rattle.rules.specs.Calls.{step}
use Rattle.rules.specs.Calls.{open_code, open_call, read_call, take_call}
use Rattle.rules.specs.Query.{was_read, was_given, read_until_settled_by, read_until_settled, take_until_finished_by}
use Rattle.rules.specs.Query.{take_until_finished}
use Rattle.rules.specs.Query.{settled_session, list}
use Rattle.rules.specs.Numbers.{refused}
use Rattle.session_laws.specs.Shades.{row_small}
use Rattle.session_laws.specs.Record.{card_small, first_fits}
use Rattle.session_laws.specs.Calls.{open_out, call_out, Takes, was_read_out, was_given_out}
use Rattle.session_laws.specs.Take.{gives_some}
use Rattle.distance.specs.Small.{Small}
use Rattle.distance.proofs.Gap.{gap_mag}
use Rattle.outcomes.specs.declared.Outcome.{Outcome}
use Rattle.outcomes.specs.Until.{take_more, take_ends, list_few}
use Rattle.outcomes.specs.Outcomes.{query_outcome, OutcomeOf, refused_none}
use Rattle.listing.specs.Shown.{Shown}

-- ---- Shades of rows that are not refused

shades_near : (x y : List ℤ) → length x ≤ 3 → Small x → Small y → squared_distance x y < 2 ^ 64
unfolding square_at
shades_near x y few h k =
    let most =
    squares_most gap (pos 0) (32768 * 32768) x y
    (λ i l.
    let a = get_or x i (pos 0) in
    let b = get_or y i (pos 0) in
    let low : gap a b ≤ 32768 = omega (arith, gap_mag a b, h i, k i) in
    mul-le-mul low low) in
    omega (arith, most, mul-le-mul_right (32768 * 32768) few)

-- ---- The first held pair, of a record that has places

given_shown : (f t : Table) (s : Session) → f.coordinates ≤ 3 → 0 < length s.pairs → Takes f t s
    → Shown f t (first_held s)
unfolding row
given_shown f t s few placed r =
    let p = first_held s in
    let seen = call_out f t s r.accepted in
    let known = seen.lent in
    let fits = known.fits in
    let at = first_fits s fits placed (gives_some f t s r.gives) in
    let in_f = at.field_row in
    let in_t = at.trim_row in
    let i = p.field - 1 in
    let j = p.trim - 1 in
    let x = row_small f i (seen.field_rows_lem i (omega arith)).range in
    let y = row_small t j (seen.trim_rows_lem j (omega arith)).range in
    let there : p.field ≤ row_count f = omega (arith, fits.field.within, known.field.count) in
    let wide = shade_length f i (has_row f i (omega arith)) in
    record {
      field = (in_f.0, has_rows f p.field there);
      trim = (in_t.0, has_rows t p.trim (omega (arith, fits.trim.within, known.trim.count)));
      small = shades_near (row f i).shade (row t j).shade (omega (arith, wide)) x y;
    }

-- ---- Every record has places

places_placed : (l : List Pair) → 0 < length (places l)
unfolding places
places_placed l = simp (length-append, length-replicate) (omega arith)

meet_placed : (s : Session) (x y : Block) → 0 < length s.pairs → 0 < length (meet s x y).pairs
unfolding meet_by holding
meet_placed s x y h = go (skipped s x y)
  where
    met : List Pair
    met = best_held s (qualifying (terms s.query) x y)

    go : (b : Bool) → 0 < length (cond b s (holding s met)).pairs
    go true = h
    go false = places_placed met

blocks_placed : (field : Bool) (s : Session) (new : Block) (t : Table) (depth n : ℕ) → 0 < length s.pairs →
    0 < length (meet_blocks field s new t depth n).pairs
unfolding meet_blocks_by
blocks_placed field s new t depth zero h = h
blocks_placed field s new t depth (suc n) h =
    let old = block_at t s.query.block depth n in
    meet_placed (meet_blocks field s new t depth n) (cond field new old) (cond field old new)
    (blocks_placed field s new t depth n h)

reads_placed : (n : ℕ) (f t : Table) (s : Session) → 0 < length s.pairs →
    0 < length (read_until_settled n f t s).pairs
unfolding read_until_settled_by read_table_by read_to
reads_placed zero f t s h = h
reads_placed (suc n) f t s h =
    go (was_read (read_call f t s).answer) refl (reads_placed n f t (read_call f t s).session)
  where
    next : Session
    next = (read_call f t s).session

    go : (b : Bool) → was_read (read_call f t s).answer ≡ b →
        (0 < length next.pairs → 0 < length (read_until_settled n f t next).pairs) →
        (let r : Session = elim b [ true ↦ read_until_settled n f t next | false ↦ s ] in 0 < length r.pairs)
    go true e ih =
        let read = (was_read_out f t s e).after in
        ih (subst (λ (x : Step). 0 < length x.session.pairs) (sym read) (blocks_placed _ s _ _ _ _ h))
    go false e ih = h

settled_placed : (q : Query) (f t : Table) → 0 < length (settled_session q f t).pairs
unfolding settled_session open_call opened zeros
settled_placed q f t =
    reads_placed (s.rows.field.0 + s.rows.trim.0 + 1) f t s (go (eqb (open_code q f t) 0))
  where
    s : Session
    s = (open_call q f t).session

    go : (b : Bool) →
        (let made = step Opened (opened q (two_tables f t)) in
        let r : Step = cond b made (step (refused (open_code q f t)) zeros) in 0 < length r.session.pairs)
    go true = places_placed []
    go false = places_placed []

-- ---- The list

abbrev pub AllShown : Table → Table → List Pair → Type 0
AllShown f t l = (i : ℕ) → i < length l → Shown f t (get_or l i no_pair)

first_shown : (f t : Table) (p : Pair) (l : List Pair) → Shown f t p → AllShown f t l → AllShown f t (p ∷ l)
first_shown f t p l h k zero n = h
first_shown f t p l h k (suc i) n = k i (omega arith)

moved_placed : (s : Session) → 0 < length (moved_out s).pairs
unfolding moved_out
moved_placed s = simp length-append (omega arith)

takes_shown : (n : ℕ) (f t : Table) (s : Session) → f.coordinates ≤ 3 → 0 < length s.pairs
    → AllShown f t (take_until_finished n f t s)
unfolding take_until_finished_by
takes_shown zero f t s few placed = λ i h. absurd (not-suc-le-zero h)
takes_shown (suc n) f t s few placed =
    go (was_given (take_call f t s).answer) refl (takes_shown n f t (take_call f t s).session few)
  where
    rest : List Pair
    rest = take_until_finished n f t (take_call f t s).session

    go : (b : Bool) → was_given (take_call f t s).answer ≡ b →
        (0 < length (take_call f t s).session.pairs → AllShown f t rest) →
        AllShown f t (take_until_finished (suc n) f t s)
    go true e ih =
        let r = was_given_out f t s e in
        let gave = ap (λ (x : Step). x.answer) r.after in
        let next : 0 < length (take_call f t s).session.pairs = rw r.after (moved_placed s) in
        subst (AllShown f t) (sym (take_more n f t s (first_held s) gave))
        (first_shown f t (first_held s) rest (given_shown f t s few placed r) (ih next))
    go false e ih = subst (AllShown f t) (sym (take_ends (suc n) f t s e)) (λ i h. absurd (not-suc-le-zero h))

pub list_shown : (q : Query) (f t : Table) → AllShown f t (list q f t)
unfolding list
list_shown q f t = go (eqb (open_code q f t) 0) refl
  where
    go : (b : Bool) → eqb (open_code q f t) 0 ≡ b → AllShown f t (list q f t)
    go true e =
        let cards = (open_out q f t (eqb-true (open_code q f t) 0 e)).cards in
        takes_shown (q.k + 1) f t (settled_session q f t) (card_small f.coordinates cards.known)
        (settled_placed q f t)
    go false e = subst (AllShown f t) (sym (refused_none q f t e)) (λ i h. absurd (not-suc-le-zero h))

-- ---- The pairs of an outcome

pub count_is : (f t : Table) (r : Outcome) → OutcomeOf f t r → r.count ≡ length (list r.query f t)
unfolding query_outcome
count_is f t r e = ap (λ (x : Outcome). x.count) e

pub count_few : (f t : Table) (r : Outcome) → OutcomeOf f t r → r.count ≤ place_count
count_few f t r e = omega (arith, count_is f t r e, list_few r.query f t)

-- pair i + 1
pub record PairAt (f t : Table) (r : Outcome) (i : ℕ) : Type 0 where
  pub within : i < length (list r.query f t)
  pub same : get_or r.pairs i no_pair ≡ get_or (list r.query f t) i no_pair
  pub shown : Shown f t (get_or r.pairs i no_pair)

pub pair_at_lem : (f t : Table) (r : Outcome) → OutcomeOf f t r → (i : ℕ) → i < r.count → PairAt f t r i
unfolding query_outcome places
pair_at_lem f t r e i h =
    let l = list r.query f t in
    let within : i < length l = omega (arith, count_is f t r e) in
    let same : get_or r.pairs i no_pair ≡ get_or l i no_pair =
    ap (λ (x : Outcome). get_or x.pairs i no_pair) e ∙ get_or-append l _ no_pair i within in
    record {
      within = within;
      same = same;
      shown = subst (Shown f t) (sym same) (list_shown r.query f t i within);
    }
