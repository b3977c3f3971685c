-- Reading on and taking on, call by call, as the code's loops have them. Assumes nothing.
use Rattle.std.specs.Prelude.{◌≡◌, refl, Bool, true, false, List, [], ◌∷◌, ◌++◌, ℕ, zero, suc, ◌+◌, ◌≤◌, length}
use Rattle.std.proofs.Math.Path.{sym}
use Rattle.std.proofs.Common.{ap, ◌∙◌, arith}
use Rattle.lists.specs.Bools.{clash}
use Rattle.rules.specs.declared.Pair.{Pair}
use Rattle.rules.specs.declared.Query.{Query}
use Rattle.rules.specs.declared.Session.{Session}
use Rattle.rules.specs.declared.Step.{Step}
use Rattle.rules.specs.declared.Answer.{Answer}
use Rattle.rules.specs.declared.Answer.TheVariants.{Given}
use Rattle.rules.specs.Session.{place_count}
use Rattle.rules.specs.Take.{first_held}
use Rattle.rules.specs.Calls.{open_call, read_call, take_call}
use Rattle.rules.specs.Query.{was_read, given, was_given, read_until_settled_by, read_until_settled}
use Rattle.rules.specs.Query.{take_until_finished_by}
use Rattle.rules.specs.Query.{take_until_finished}
use Rattle.rules.specs.Query.{settled_session, list}
use Rattle.session_laws.specs.Calls.{was_given_out}
use Rattle.session_laws.specs.Read.{unread_rows}
use Rattle.session_laws.specs.Until.{fewer_unread, reads_end, reads_ended, still_wanted, fewer_wanted, takes_end}
use Rattle.session_laws.specs.Until.{list_bound}
use Rattle.rules.specs.Tables.{Table}

-- a choice by a test that is known
module _ {A : Type 0} (x y : A) where
  chosen : (b : Bool) → b ≡ true → ◌≡◌ {A = A} (elim b [ true ↦ x | false ↦ y ]) x
  chosen true h = refl
  chosen false h = clash h refl

  other : (b : Bool) → b ≡ false → ◌≡◌ {A = A} (elim b [ true ↦ x | false ↦ y ]) y
  other true h = clash refl h
  other false h = refl

-- ---- Reading

-- the record when it is settled, of a record that is not
unfoldable pub read_on : Table → Table → Session → Session
read_on f t s = read_until_settled (suc (unread_rows s)) f t s

module _ (f t : Table) (s : Session) where
  pub read_more : was_read (read_call f t s).answer ≡ true → read_on f t (read_call f t s).session ≡ read_on f t s
  unfolding read_on read_until_settled_by
  read_more h =
      let n = fewer_unread f t s h in
      let r = (read_call f t s).session in
      reads_end f t (suc (unread_rows r)) (unread_rows s) r (omega arith) n
      ∙ sym (chosen (read_until_settled (unread_rows s) f t r) s (was_read (read_call f t s).answer) h)

  pub read_ends : was_read (read_call f t s).answer ≡ false → s ≡ read_on f t s
  unfolding read_on
  read_ends h = sym (reads_ended f t (suc (unread_rows s)) s h)

-- from the opening on
pub settled_on : (q : Query) (f t : Table) → read_on f t (open_call q f t).session ≡ settled_session q f t
unfolding read_on settled_session
settled_on q f t =
    let s = (open_call q f t).session in
    reads_end f t (suc (unread_rows s)) (s.rows.field.0 + s.rows.trim.0 + 1) s (omega arith) (omega arith)

-- ---- Taking

pub take_more : (n : ℕ) (f t : Table) (s : Session) (p : Pair) → (take_call f t s).answer ≡ Given p →
    take_until_finished (suc n) f t s ≡ p ∷ take_until_finished n f t (take_call f t s).session
unfolding take_until_finished_by
take_more n f t s p h =
    let a = (take_call f t s).answer in
    let rest = take_until_finished n f t (take_call f t s).session in
    chosen (given a ++ rest) [] (was_given a) (ap (λ (a : Answer). was_given a) h)
    ∙ ap (λ (a : Answer). given a ++ rest) h

pub take_ends : (n : ℕ) (f t : Table) (s : Session) → was_given (take_call f t s).answer ≡ false →
    take_until_finished n f t s ≡ []
unfolding take_until_finished_by
take_ends zero f t s h = refl
take_ends (suc n) f t s h =
    let a = (take_call f t s).answer in
    other (given a ++ take_until_finished n f t (take_call f t s).session) [] (was_given a) h

-- as many takes as pairs are wanted
just_wanted : (n : ℕ) (f t : Table) (s : Session) → still_wanted s ≤ n →
    take_until_finished n f t s ≡ take_until_finished (suc n) f t s
just_wanted zero f t s h = go (was_given (take_call f t s).answer) refl
  where
    go : (b : Bool) → was_given (take_call f t s).answer ≡ b → take_until_finished 0 f t s ≡ take_until_finished 1 f t s
    go true e = absurd (let l = (fewer_wanted f t s e).1 in omega arith)
    go false e = take_ends 0 f t s e ∙ sym (take_ends 1 f t s e)
just_wanted (suc n) f t s h = go (was_given (take_call f t s).answer) refl (just_wanted n f t (take_call f t s).session)
  where
    next : Session
    next = (take_call f t s).session

    go : (b : Bool) → was_given (take_call f t s).answer ≡ b →
        (still_wanted next ≤ n → take_until_finished n f t next ≡ take_until_finished (suc n) f t next) →
        take_until_finished (suc n) f t s ≡ take_until_finished (suc (suc n)) f t s
    go true e ih =
        let l = (fewer_wanted f t s e).1 in
        let gave = ap (λ (x : Step). x.answer) (was_given_out f t s e).after in
        take_more n f t s (first_held s) gave
        ∙ ap (λ (r : List Pair). first_held s ∷ r) (ih (omega arith))
        ∙ sym (take_more (suc n) f t s (first_held s) gave)
    go false e ih = take_ends (suc n) f t s e ∙ sym (take_ends (suc (suc n)) f t s e)

-- so 64 takes bring out the list
pub list_taken : (q : Query) (f t : Table) → take_until_finished place_count f t (settled_session q f t) ≡ list q f t
list_taken q f t = go (was_given (take_call f t (settled_session q f t)).answer) refl
  where
    s : Session
    s = settled_session q f t

    go : (b : Bool) → was_given (take_call f t s).answer ≡ b → take_until_finished place_count f t s ≡ list q f t
    go true e =
        let w = (fewer_wanted f t s e).0 in
        just_wanted place_count f t s w
        ∙ takes_end f t 65 (q.k + 65) s (omega arith) (omega arith)
        ∙ list_bound q f t (q.k + 65) (omega arith)
    go false e =
        take_ends place_count f t s e ∙ sym (take_ends (q.k + 1) f t s e) ∙ list_bound q f t (q.k + 1) (omega arith)

-- so the list has at most 64 pairs
takes_few : (n : ℕ) (f t : Table) (s : Session) → length (take_until_finished n f t s) ≤ n
unfolding take_until_finished_by
takes_few zero f t s = omega arith
takes_few (suc n) f t s = go (was_given (take_call f t s).answer) refl (takes_few n f t (take_call f t s).session)
  where
    rest : List Pair
    rest = take_until_finished n f t (take_call f t s).session

    go : (b : Bool) → was_given (take_call f t s).answer ≡ b → length rest ≤ n →
        length (take_until_finished (suc n) f t s) ≤ suc n
    go true e ih =
        let gave = ap (λ (x : Step). x.answer) (was_given_out f t s e).after in
        let k : length (take_until_finished (suc n) f t s) ≡ suc (length rest) =
        ap length (take_more n f t s (first_held s) gave) in
        omega arith
    go false e ih =
        let k : length (take_until_finished (suc n) f t s) ≡ 0 = ap length (take_ends (suc n) f t s e) in omega arith

pub list_few : (q : Query) (f t : Table) → length (list q f t) ≤ place_count
list_few q f t =
    let s = settled_session q f t in
    let k : length (take_until_finished place_count f t s) ≡ length (list q f t) = ap length (list_taken q f t) in
    omega (arith, takes_few place_count f t s, k)
