-- How many bytes a number takes, and how it is written from its last column on. Assumes nothing.
use Rattle.std.specs.Prelude.{◌≡◌, refl, Bool, true, false, cond, ◌&&◌, not, List, [], ◌∷◌, ◌++◌, ℕ, zero, suc, ◌+◌}
use Rattle.std.specs.Prelude.{◌/◌, ◌%◌, ltb, length, set, replicate}
use Rattle.std.proofs.Common.{sym, ap, ◌∙◌, arith, length-append}
use Rattle.std.proofs.lemmas.List.{length-replicate, replicate-append-replicate}
use Rattle.rules.specs.File.{blank}
use Rattle.rules.specs.Query.{decimal}
use Rattle.printing.specs.Put.{put_at, put_on, put_before}

pub decimal_length : (w n : ℕ) → length (decimal w n) ≡ w
unfolding decimal
decimal_length zero n = refl
decimal_length (suc w) n = go (ltb n 10) (decimal_length w (n / 10))
  where
    go : (b : Bool) → length (decimal w (n / 10)) ≡ w →
        length (elim b [ true ↦ replicate w blank | false ↦ decimal w (n / 10) ] ++ ((48 + n % 10) ∷ [])) ≡ suc w
    go true e = simp (length-append, length-replicate) (omega arith)
    go false e = simp (length-append, e) (omega arith)

-- what is left of a number in w columns: the number, or blanks once its digits are written
unfoldable pub left : Bool → ℕ → ℕ → List ℕ
left more w n = cond more (decimal w n) (replicate w blank)

-- the last of them
unfoldable pub last_column : Bool → ℕ → ℕ
last_column more n = cond more (48 + n % 10) blank

pub left_length : (more : Bool) (w n : ℕ) → length (left more w n) ≡ w
unfolding left
left_length true w n = decimal_length w n
left_length false w n = length-replicate w blank

one_more : (w : ℕ) → replicate w blank ++ (blank ∷ []) ≡ replicate (suc w) blank
one_more w =
    replicate-append-replicate w 1 blank ∙ ap (λ (k : ℕ). replicate k blank) {x = w + 1} {y = suc w} (omega arith)

pub left_last : (more : Bool) (w n : ℕ) →
    left more (suc w) n ≡ left (more && not (ltb n 10)) w (n / 10) ++ (last_column more n ∷ [])
unfolding left last_column decimal
left_last true w n = go (ltb n 10)
  where
    go : (b : Bool) →
        elim b [ true ↦ replicate w blank | false ↦ decimal w (n / 10) ] ++ ((48 + n % 10) ∷ [])
        ≡ cond (not b) (decimal w (n / 10)) (replicate w blank) ++ ((48 + n % 10) ∷ [])
    go true = refl
    go false = refl
left_last false w n = sym (one_more w)

pub none_left : (more : Bool) (w n : ℕ) → w ≡ 0 → left more w n ≡ []
unfolding left decimal
none_left true w n e = ap (λ (k : ℕ). decimal k n) e
none_left false w n e = ap (λ (k : ℕ). replicate k blank) e

-- one column more is written, before those that are
pub one_column : (at w m n : ℕ) (more : Bool) (v : ℕ) (l : List ℕ) → w ≡ suc m → v ≡ last_column more n →
    put_at at (left (more && not (ltb n 10)) m (n / 10)) (set l (at + m) v) ≡ put_at at (left more w n) l
one_column at w m n more v l h e =
    let rest = left (more && not (ltb n 10)) m (n / 10) in
    ap (λ (k : ℕ). put_at at rest (set l (at + k) v)) (sym (left_length (more && not (ltb n 10)) m (n / 10)))
    ∙ put_before at rest v l
    ∙ ap (λ (k : ℕ). put_at at (rest ++ (k ∷ [])) l) e
    ∙ ap (λ (b : List ℕ). put_at at b l) (sym (left_last more m n))
    ∙ ap (λ (k : ℕ). put_at at (left more k n) l) (sym h)

-- a number of w columns, then other bytes
pub then : (w at n : ℕ) (b l : List ℕ) → put_at at (decimal w n ++ b) l ≡ put_at (at + w) b (put_at at (decimal w n) l)
then w at n b l =
    put_on at (decimal w n) b l ∙ ap (λ (m : ℕ). put_at (at + m) b (put_at at (decimal w n) l)) (decimal_length w n)

-- the same of bytes that were put one after the other: from l to m the number, from m to r the others
pub and_then : (w at n : ℕ) (b l : List ℕ) {m r : List ℕ} → m ≡ put_at at (decimal w n) l → r ≡ put_at (at + w) b m →
    r ≡ put_at at (decimal w n ++ b) l
and_then w at n b l e f = f ∙ ap (λ (k : List ℕ). put_at (at + w) b k) e ∙ sym (then w at n b l)
