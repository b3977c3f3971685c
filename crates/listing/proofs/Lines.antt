-- The lines of pairs are parts of one length, and the listing is the first line, these, and the last. Assumes nothing.
use mathlib.Core.Path.{◌≡◌, refl, sym, ap, ◌∙◌}
use mathlib.Core.List.{List, [], ◌∷◌, ◌++◌}
use Prim.Native.Nat.{ℕ, ◌+◌, ◌*◌}
use native.Mathlib.Omega.{arith}
use lib.ListN.{length, length-append}
use Rattle.rules.specs.declared.Pair.{Pair}
use Rattle.rules.specs.Query.{input_length, settled_session, list, pair_line, pair_lines, query_line, last_line}
use Rattle.rules.specs.Query.{listing}
use Rattle.printing.specs.Put.{put_at, put_on}
use Rattle.printing.specs.Laid.{laid, laid_length}
use Rattle.pair_line.specs.Line.{line_length, line_length_lem}
use Rattle.other_lines.specs.Lines.{last_length, query_length, last_length_lem}
use Rattle.outcomes.specs.declared.Outcome.{Outcome}
use Rattle.outcomes.specs.Outcomes.{query_outcome, OutcomeOf}
use Rattle.listing.specs.Shown.{line_of, line_bytes_lem, list_lines}
use Rattle.listing.specs.ListShown.{count_is}
use Rattle.rules.specs.Tables.{Table}

-- the line of pair n + 1
abbrev pub line_at : Table → Table → ℕ → Pair → List ℕ
line_at f t n p = pair_line f t (n + 1) p

module _ (f t : Table) where
  pub line_at_length : (n : ℕ) (p : Pair) → length (line_at f t n p) ≡ line_length
  line_at_length n p = ap length (sym (line_bytes_lem f t (n + 1) p)) ∙ line_length_lem (line_of f t (n + 1) p)

  pub lines_laid : (n : ℕ) (l : List Pair) → pair_lines f t (n + 1) l ≡ laid (line_at f t) n l
  unfolding pair_lines laid
  lines_laid n [] = refl
  lines_laid n (p ∷ l) = ap (λ (rest : List ℕ). line_at f t n p ++ rest) (lines_laid (n + 1) l)

  lines_length : (l : List Pair) → length (pair_lines f t 1 l) ≡ line_length * length l
  lines_length l = ap length (lines_laid 0 l) ∙ laid_length (line_at f t) line_length line_at_length 0 l

-- a, b, c: the bytes after the first line was written, then the pairs', then the last
pub listing_put : (f t : Table) (r : Outcome) (out a b c : List ℕ) → OutcomeOf f t r →
    a ≡ put_at 0 (query_line r.query) out → b ≡ put_at input_length (list_lines r.query f t) a →
    c ≡ put_at (input_length + line_length * r.count) (last_line r.session) b →
    (input_length + line_length * r.count + last_length ≡ length (listing r.query f t))
    × (c ≡ put_at 0 (listing r.query f t) out)
unfolding listing query_outcome
listing_put f t r out a b c e ea eb ec =
    let q = r.query in
    let first = query_line q in
    let lines = list_lines q f t in
    let last = last_line (settled_session q f t) in
    let many : line_length * r.count ≡ length lines =
    ap (λ (k : ℕ). line_length * k) (count_is f t r e) ∙ sym (lines_length f t (list q f t)) in
    let front = query_length q in
    let tail = last_length_lem (settled_session q f t) in
    let lb : b ≡ put_at input_length lines (put_at 0 first out) = eb ∙ ap (put_at input_length lines) ea in
    let lc : c ≡ put_at (input_length + length lines) last (put_at input_length lines (put_at 0 first out)) =
    ec
    ∙ ap (λ (x : Outcome). put_at (input_length + line_length * r.count) (last_line x.session) b) e
    ∙ ap (λ (k : ℕ). put_at (input_length + k) last b) many
    ∙ ap (put_at (input_length + length lines) last) lb in (
      simp (length-append, front, tail) (omega arith),
      lc
          ∙ sym (put_on input_length lines last (put_at 0 first out))
          ∙ ap (λ (k : ℕ). put_at k (lines ++ last) (put_at 0 first out)) (sym (ap (λ (k : ℕ). 0 + k) front))
          ∙ sym (put_on 0 first (lines ++ last) out),
    )
