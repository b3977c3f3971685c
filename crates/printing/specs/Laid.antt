-- Parts of one length, one for each element of a list, laid one behind the other: how a loop that writes them goes on.
-- Assumes nothing.
use Rattle.std.specs.Prelude.{◌≡◌, refl}
use Rattle.std.proofs.Math.Path.{sym, ap}
use Rattle.std.proofs.Common.{◌∙◌, length-append, drop_of_length-le}
use mathlib.Core.List.{List, [], ◌∷◌, ◌++◌}
use Prim.Native.Nat.{ℕ, suc, ◌+◌, ◌*◌, ◌≤◌, ◌<◌}
use native.Mathlib.Omega.{arith}
use Rattle.std.proofs.Math.ListN.{length, get_or, drop}
use Rattle.std.proofs.Math.Seq.{drop-cons}
use Rattle.printing.specs.Put.{put_at, put_none, put_length, put_on}

-- the parts of a list whose first element has this number
unfoldable pub laid : {A : Type 0} → (ℕ → A → List ℕ) → ℕ → List A → List ℕ
laid part n [] = []
laid part n (x ∷ l) = part n x ++ laid part (n + 1) l

module _ {A : Type 0} (part : ℕ → A → List ℕ) (w : ℕ) (wide : (n : ℕ) (x : A) → length (part n x) ≡ w) where
  pub laid_length : (n : ℕ) (l : List A) → length (laid part n l) ≡ w * length l
  unfolding laid
  laid_length n [] = omega arith
  laid_length n (x ∷ l) =
      let e = laid_length (n + 1) l in
      let k = wide n x in
      simp (length-append, e, k) (omega arith)

  -- element n + 1 is written, and those behind it follow
  pub laid_more : (at n : ℕ) (l : List A) (d : A) (out : List ℕ) → n < length l →
      put_at (at + w * (n + 1)) (laid part (n + 1) (drop (n + 1) l)) (put_at (at + w * n) (part n (get_or l n d)) out)
      ≡ put_at (at + w * n) (laid part n (drop n l)) out
  unfolding laid
  laid_more at n l d out h =
      let x = get_or l n d in
      let rest = laid part (n + 1) (drop (n + 1) l) in
      let k = wide n x in
      let o : at + w * (n + 1) ≡ at + w * n + length (part n x) = omega arith in
      let e : n + 1 ≡ suc n = omega arith in
      let split : drop n l ≡ x ∷ drop (n + 1) l = drop-cons l n d h ∙ ap (λ (m : ℕ). x ∷ drop m l) (sym e) in
      ap (λ (m : ℕ). put_at m rest (put_at (at + w * n) (part n x) out)) o
      ∙ sym (put_on (at + w * n) (part n x) rest out)
      ∙ ap (λ (m : List A). put_at (at + w * n) (laid part n m) out) (sym split)

  -- nothing follows the last
  pub laid_none : (at n : ℕ) (l : List A) (out : List ℕ) → length l ≤ n → put_at at (laid part n (drop n l)) out ≡ out
  unfolding laid
  laid_none at n l out h =
      ap (λ (m : List A). put_at at (laid part n m) out) (drop_of_length-le l {i = n} h) ∙ put_none at out

-- ---- A loop that writes the parts of l from a place on

-- before turn n + 1: those of the first n are written
module _ {A : Type 0} (part : ℕ → A → List ℕ) (w at : ℕ) (l : List A) (before : List ℕ) where
  pub record Writing (n : ℕ) (out : List ℕ) : Type 0 where
    pub within : n ≤ length l
    pub kept : length out ≡ length before
    pub so_far : put_at (at + w * n) (laid part n (drop n l)) out ≡ put_at at (laid part 0 l) before

  pub writing_starts : Writing 0 before
  writing_starts =
      let e : at + w * 0 ≡ at = omega arith in
      record { within = omega arith; kept = refl; so_far = ap (λ (m : ℕ). put_at m (laid part 0 l) before) e }

module _ {A : Type 0} {part : ℕ → A → List ℕ} {w at : ℕ} {l : List A} {before : List ℕ} {n : ℕ} {out : List ℕ} where
  pub writing_on : ((m : ℕ) (x : A) → length (part m x) ≡ w) → Writing part w at l before n out → n < length l →
      (d : A) (next : List ℕ) → next ≡ put_at (at + w * n) (part n (get_or l n d)) out →
      Writing part w at l before (n + 1) next
  writing_on wide h more d next e =
      let rest = laid part (n + 1) (drop (n + 1) l) in
      record {
        within = omega arith;
        kept = ap length e ∙ put_length (at + w * n) (part n (get_or l n d)) out ∙ h.kept;
        so_far = ap (put_at (at + w * (n + 1)) rest) e ∙ laid_more part w wide at n l d out more ∙ h.so_far;
      }

  pub writing_ends : ((m : ℕ) (x : A) → length (part m x) ≡ w) → Writing part w at l before n out → length l ≤ n →
      out ≡ put_at at (laid part 0 l) before
  writing_ends wide h all = sym (laid_none part w wide (at + w * n) n l out all) ∙ h.so_far
