-- A pair's line: its bytes, and how many. Assumes nothing.
use Rattle.std.specs.Prelude.{◌≡◌, List, [], ◌∷◌, ◌++◌, ℕ, ◌+◌, length}
use Rattle.std.proofs.Common.{sym, ap, ◌∙◌, arith, length-append}
use Rattle.rules.specs.File.{line_feed}
use Rattle.rules.specs.Query.{decimal}
use Rattle.printing.specs.Put.{put_at}
use Rattle.printing.specs.Numbers.{decimal_length, then}
use Rattle.pair_line.specs.declared.Line.{Line}

-- a pair's line, of the numbers in it
unfoldable pub line_bytes : Line → List ℕ
line_bytes x =
    decimal 6 x.rank
    ++ (decimal 6 x.sum
    ++ (decimal 6 x.field
    ++ (decimal 6 x.trim ++ (decimal 8 x.root ++ (decimal 8 x.rest ++ (line_feed ∷ []))))))

abbrev pub line_length : ℕ
line_length = 41

pub line_length_lem : (x : Line) → length (line_bytes x) ≡ line_length
unfolding line_bytes
line_length_lem x = simp (length-append, decimal_length)

-- two of w columns, v in all, then other bytes
pub then_two : (w v at m n : ℕ) (b l : List ℕ) → w + w ≡ v →
    put_at at (decimal w m ++ (decimal w n ++ b)) l ≡ put_at (at + v) b (put_at at (decimal w m ++ decimal w n) l)
then_two w v at m n b l e =
    let o : at + w + w ≡ at + v = omega arith in
    then w at m (decimal w n ++ b) l
    ∙ then w (at + w) n b (put_at at (decimal w m) l)
    ∙ ap (λ (x : List ℕ). put_at (at + w + w) b x) (sym (then w at m (decimal w n) l))
    ∙ ap (λ (k : ℕ). put_at k b (put_at at (decimal w m ++ decimal w n) l)) o

-- the same of bytes that were put one after the other: from l to m the two, from m to r the others
pub and_two : (w v at x y : ℕ) (b l : List ℕ) {m r : List ℕ} → w + w ≡ v →
    m ≡ put_at at (decimal w x ++ decimal w y) l → r ≡ put_at (at + v) b m →
    r ≡ put_at at (decimal w x ++ (decimal w y ++ b)) l
and_two w v at x y b l h e f = f ∙ ap (λ (k : List ℕ). put_at (at + v) b k) e ∙ sym (then_two w v at x y b l h)
