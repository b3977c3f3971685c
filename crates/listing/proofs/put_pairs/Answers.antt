-- `put_pairs` meets its contract. Assumes nothing.
use mathlib.Core.Path.{◌≡◌, sym, ap, ◌∙◌}
use mathlib.Core.List.{List}
use Prim.Native.Nat.{ℕ, ◌+◌, ◌*◌, ◌≤◌}
use native.Mathlib.Omega.{arith}
use lib.ListN.{length, get_or}
use Rattle.rules.specs.Tables.{table}
use Rattle.rules.specs.Session.{no_pair}
use Rattle.rules.specs.Query.{list}
use Rattle.printing.specs.Put.{put_at}
use Rattle.printing.specs.Laid.{writing_on, writing_ends}
use Rattle.pair_line.specs.Line.{line_bytes, line_length}
use Rattle.listing.specs.Shown.{line_bytes_lem}
use Rattle.listing.specs.ListShown.{count_is, pair_at_lem}
use Rattle.listing.proofs.Lines.{line_at, line_at_length, lines_laid}
use Rattle.listing.proofs.put_pairs.Goals as goal

pub line_of-line-requires : goal.line_of-line-requires
line_of-line-requires c =
    let s = c in
    let i = c.loop-i.i in
    (pair_at_lem (table s.args.n s.args.f.now) (table s.args.n s.args.t.now) s.args.run s.requires.1 i
    c.loop-i-test.true).shown

pub loop-i-preserved : goal.loop-i-preserved
loop-i-preserved c =
    let line = c.line_of-line in
    let l = c.loop-i in
    let s = c in
    let f = table s.args.n s.args.f.now in
    let t = table s.args.n s.args.t.now in
    let run = s.args.run in
    let p = pair_at_lem f t run s.requires.1 l.i c.loop-i-test.true in
    let bytes : line_bytes line.result ≡ line_at f t l.i (get_or (list run.query f t) l.i no_pair) =
    ap line_bytes line.ensures
    ∙ line_bytes_lem f t (l.i + 1) (get_or run.pairs l.i no_pair)
    ∙ ap (line_at f t l.i) p.same in
    let put_is = c.put_line.ensures ∙ ap (λ (b : List ℕ). put_at (s.args.at + line_length * l.i) b l.out) bytes in
    writing_on (line_at_length f t) l.invariant p.within no_pair c.put_line.new.out put_is

pub returns : goal.returns
returns c =
    let s = c in
    let f = table s.args.n s.args.f.now in
    let t = table s.args.n s.args.t.now in
    let run = s.args.run in
    let l = c.loop-i in
    let all = list run.query f t in
    let done : length all ≤ l.i = omega (arith, c.loop-i-test.false, count_is f t run s.requires.1) in
    writing_ends (line_at_length f t) l.invariant done
    ∙ ap (λ (b : List ℕ). put_at s.args.at b s.args.out.now) (sym (lines_laid f t 0 all))
