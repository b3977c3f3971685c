-- A read's answer, of the code that its checks gave, and the record that goes with it. Assumes nothing.
use Rattle.std.specs.Prelude.{◌≡◌, Bool, eqb}
use Rattle.std.proofs.Math.Path.{refl}
use Rattle.std.proofs.Common.{ap, ◌∙◌, eqb-true}
use Rattle.std.proofs.Math.Bool.{true, false, cond}
use Prim.Native.Nat.{ℕ}
use Rattle.lists.specs.Bools.{clash}
use Rattle.rules.specs.declared.Session.{Session}
use Rattle.rules.specs.declared.Answer.{Answer}
use Rattle.rules.specs.declared.Answer.TheVariants.{Read, Settled}
use Rattle.rules.specs.Session.{settled}
use Rattle.rules.specs.Read.{read_block}
use Rattle.rules.specs.Query.{was_read}
use Rattle.rules.specs.Calls.{call_code, new_block_code, step, read_call_by, read_call}
use Rattle.rules.specs.Tables.{Table}
use Rattle.rules.specs.Numbers.{refused}

unfoldable pub read_answer : ℕ → Table → Table → Session → Answer
read_answer code f t s =
    cond (eqb code 0)
    (cond (settled f t s) Settled (cond (eqb (new_block_code f t s) 0) Read (refused (new_block_code f t s))))
    (refused code)

-- the record that goes with an answer: only a block that is read changes it
module _ (f t : Table) (s : Session) where
  abbrev pub after_read : Answer → Session
  after_read a = cond (was_read a) (read_block f t s) s

  read_is : step (read_answer (call_code f t s) f t s) (after_read (read_answer (call_code f t s) f t s))
      ≡ read_call f t s
  unfolding read_call_by read_answer
  read_is =
      go (call_code f t s) (new_block_code f t s) (eqb (call_code f t s) 0) (settled f t s)
      (eqb (new_block_code f t s) 0)
    where
      go : (code new : ℕ) (a b c : Bool) → let x = cond a (cond b Settled (cond c Read (refused new))) (refused code) in
          step x (after_read x)
          ≡ cond a (cond b (step Settled s) (cond c (step Read (read_block f t s)) (step (refused new) s)))
          (step (refused code) s)
      go code new false b c = refl
      go code new true true c = refl
      go code new true false true = refl
      go code new true false false = refl

  pub read_ends : (code : ℕ) (a : Answer) → code ≡ call_code f t s → a ≡ read_answer code f t s
      → step a (after_read a) ≡ read_call f t s
  read_ends code a e h = ap (λ (x : Answer). step x (after_read x)) (h ∙ ap (λ (n : ℕ). read_answer n f t s) e)
      ∙ read_is

-- a block is read: the checks passed, those of the new block too, and the session was not settled
module _ (code : ℕ) (f t : Table) (s : Session) where
  pub read_asked : read_answer code f t s ≡ Read → (code ≡ 0) × (settled f t s ≡ false) × (new_block_code f t s ≡ 0)
  unfolding read_answer
  read_asked e = go (eqb code 0) refl (settled f t s) refl (eqb (new_block_code f t s) 0) refl e
    where
      new : ℕ
      new = new_block_code f t s

      go : (a : Bool) → eqb code 0 ≡ a → (b : Bool) → settled f t s ≡ b → (c : Bool) → eqb (new_block_code f t s) 0 ≡ c
          → cond a (cond b Settled (cond c Read (refused new))) (refused code) ≡ Read
          → (code ≡ 0) × (settled f t s ≡ false) × (new_block_code f t s ≡ 0)
      go false h b k c l e = clash (ap was_read e) refl
      go true h true k c l e = clash (ap was_read e) refl
      go true h false k false l e = clash (ap was_read e) refl
      go true h false k true l e = (eqb-true code 0 h, k, eqb-true (new_block_code f t s) 0 l)
