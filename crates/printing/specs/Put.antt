-- Bytes written over others from a place on: what of them fits, the rest as it was. Definition and laws.
-- Assumes nothing.
use Rattle.std.specs.Prelude.{◌≡◌, refl, List, [], ◌∷◌, ◌++◌, ℕ, zero, suc, ◌+◌, ◌≤◌, length, set, drop}
use Rattle.std.proofs.Common.{sym, ap, ◌∙◌, zero-add, suc-add, not-suc-le-zero, arith}

unfoldable pub put_at : ℕ → List ℕ → List ℕ → List ℕ
put_at n b [] = []
put_at zero [] (x ∷ l) = x ∷ l
put_at zero (y ∷ b) (x ∷ l) = y ∷ put_at zero b l
put_at (suc n) b (x ∷ l) = x ∷ put_at n b l

-- none changes nothing
pub put_none : (n : ℕ) (l : List ℕ) → put_at n [] l ≡ l
unfolding put_at
put_none n [] = refl
put_none zero (x ∷ l) = refl
put_none (suc n) (x ∷ l) = ap (λ (k : List ℕ). x ∷ k) (put_none n l)

pub put_length : (n : ℕ) (b l : List ℕ) → length (put_at n b l) ≡ length l
unfolding put_at
put_length n b [] = refl
put_length zero [] (x ∷ l) = refl
put_length zero (y ∷ b) (x ∷ l) = ap suc (put_length zero b l)
put_length (suc n) b (x ∷ l) = ap suc (put_length n b l)

-- some bytes, then others behind them
pub put_on : (n : ℕ) (a b l : List ℕ) → put_at n (a ++ b) l ≡ put_at (n + length a) b (put_at n a l)
unfolding put_at
put_on n a b [] = refl
put_on zero [] b (x ∷ l) = refl
put_on zero (y ∷ a) b (x ∷ l) =
    ap (λ (k : List ℕ). y ∷ k)
    (put_on zero a b l ∙ ap (λ (m : ℕ). put_at m b (put_at zero a l)) (zero-add (length a)))
    ∙ ap (λ (m : ℕ). put_at m b (y ∷ put_at zero a l)) (sym (zero-add (suc (length a))))
put_on (suc n) a b (x ∷ l) =
    ap (λ (k : List ℕ). x ∷ k) (put_on n a b l)
    ∙ ap (λ (m : ℕ). put_at m b (x ∷ put_at n a l)) (sym (suc-add n (length a)))

-- one byte
pub put_one : (n : ℕ) (v : ℕ) (l : List ℕ) → set l n v ≡ put_at n (v ∷ []) l
unfolding put_at
put_one n v [] = refl
put_one zero v (x ∷ []) = refl
put_one zero v (x ∷ y ∷ l) = refl
put_one (suc n) v (x ∷ l) = ap (λ (k : List ℕ). x ∷ k) (put_one n v l)

-- bytes before a byte that is written first
pub put_before : (n : ℕ) (a : List ℕ) (v : ℕ) (l : List ℕ) →
    put_at n a (set l (n + length a) v) ≡ put_at n (a ++ (v ∷ [])) l
unfolding put_at
put_before n a v [] = refl
put_before zero [] v (x ∷ []) = refl
put_before zero [] v (x ∷ y ∷ l) = refl
put_before zero (y ∷ a) v (x ∷ l) =
    ap (λ (m : ℕ). put_at zero (y ∷ a) (set (x ∷ l) m v)) (zero-add (suc (length a)))
    ∙ ap (λ (k : List ℕ). y ∷ k)
    (ap (λ (m : ℕ). put_at zero a (set l m v)) (sym (zero-add (length a))) ∙ put_before zero a v l)
put_before (suc n) a v (x ∷ l) =
    ap (λ (m : ℕ). put_at (suc n) a (set (x ∷ l) m v)) (suc-add n (length a))
    ∙ ap (λ (k : List ℕ). x ∷ k) (put_before n a v l)

-- from the front
pub put_front : (b l : List ℕ) → length b ≤ length l → put_at zero b l ≡ b ++ drop (length b) l
unfolding put_at
put_front [] [] h = refl
put_front [] (x ∷ l) h = refl
put_front (y ∷ b) [] h = absurd (not-suc-le-zero h)
put_front (y ∷ b) (x ∷ l) h = ap (λ (k : List ℕ). y ∷ k) (put_front b l (omega arith))
