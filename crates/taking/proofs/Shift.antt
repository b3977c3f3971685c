-- Elements that move up one place. Assumes nothing.
use Rattle.std.proofs.Common.{◌≡◌, sym, ap, ◌∙◌, ℕ, suc, ◌+◌, ◌-◌, List, [], ◌∷◌, ◌++◌, length, get_or, set, drop}
use Rattle.std.proofs.Common.{arith, length-drop, drop-cons}
use Rattle.std.specs.List.{copy_within}
use Rattle.std.proofs.Math.ListN.{drop_of_length-le}
use Rattle.std.proofs.lemmas.List.{set_at}
use Rattle.std.proofs.lemmas.List.Edits.{paste_all}

-- all but the first move up, and v takes the last place
pub shifted_up : {A : Type 0} (l : List A) (n : ℕ) (d v : A) → length l ≡ suc n
    → set (copy_within l 1 (length l) 0) n v ≡ drop 1 l ++ v ∷ []
shifted_up {A} l n d v e =
    let at : 0 + (length l - 1) ≡ n = omega arith in
    let last : copy_within l 1 (length l) 0 ≡ drop 1 l ++ get_or l n d ∷ drop (suc n) l =
    paste_all l 0 (drop 1 l) (length l - 1) (sym (length-drop 1 l))
    ∙ ap (λ (i : ℕ). drop 1 l ++ drop i l) at
    ∙ ap (λ (r : List A). drop 1 l ++ r) (drop-cons l n d (omega arith)) in
    ap (λ (r : List A). set r n v) last
    ∙ set_at (drop 1 l) (get_or l n d) (drop (suc n) l) v n (omega (arith, length-drop 1 l))
    ∙ ap (λ (r : List A). drop 1 l ++ v ∷ r) (drop_of_length-le l {i = suc n} (omega arith))
