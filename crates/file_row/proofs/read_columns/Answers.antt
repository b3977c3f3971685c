-- `read_columns` meets its contract: the columns passed are read. Assumes nothing.
use Rattle.std.proofs.Common.{◌≡◌, sym, ap, ap₂, ◌∙◌, Bool, ◌&&◌, ◌+◌, ℕ, arith, to_z, of_z}
use mir.Syntax.{w32}
use borrow.Author.Rules.{rules}
use Rattle.rules.specs.Tables.{width, coordinate_fits}
use Rattle.rules.specs.File.{row_bytes}
use Rattle.file_laws.specs.Columns.{start_up}
use Rattle.file_row.specs.Held.{columns_held, row_read}
use Rattle.file_row.proofs.Rows.{columns_ok, columns_err, columns_told, back_told, back_read}
use Rattle.file_row.proofs.read_columns.Goals.{in-Ok, in-Err}
use Rattle.file_row.proofs.read_columns.Goals as goal

pub read_front-requires : goal.read_front-requires
unfolding row_bytes
read_front-requires c = omega (arith, start_up (width 2) (width c.args.n) (omega (arith, c.requires.0)))

pub loop-k-init : goal.loop-k-init
loop-k-init c =
    elim c.match-read_front.branch [
      | in-Ok w ↦
          let r = columns_ok c.args.bytes.now c.args.o 2 _ (sym c.read_front.ensures ∙ w.in-Ok.is) in
          record { fits = ap (λ p. p.0) w.fits-is ∙ sym r.0; read = ap (λ p. p.1) w.fits-is ∙ r.1 }
      | in-Err w ↦
          let r = columns_err c.args.bytes.now c.args.o 2 _ (sym c.read_front.ensures ∙ w.in-Err.is) in
          record { fits = ap (λ p. p.0) w.fits-is ∙ sym r.0; read = ap (λ p. p.1) w.fits-is ∙ r.1 }
    ]

pub loop-k-preserved : goal.loop-k-preserved
loop-k-preserved c =
    let l = c.loop-k in
    let s = c.args in
    let x = c.column_at-x in
    let told : to_z w32 (of_z w32 c.unwrap_or.result) ≡ c.unwrap_or.result = search rules in
    let here = c.coordinate_fits.ensures ∙ ap (coordinate_fits l.k) (told ∙ c.unwrap_or.ensures) in
    record {
      fits = ap₂ (λ a b. a && b) l.invariant.fits c.is_some-fits.ensures
          ∙ back_told s.bytes.now s.o l.k l.row l.auto.k l.invariant.read x.result x.ensures;
      read = ap (λ (b : Bool). record { inside = l.row.inside && b; score = l.row.score; end = l.row.end + 6 }) here
          ∙ back_read s.bytes.now s.o l.k l.row l.auto.k l.invariant.read x.result x.ensures;
    }

pub returns : goal.returns
returns c =
    let l = c.loop-k in
    let s = c.args in
    let e : l.k ≡ s.n = omega (arith, l.auto.k-end c.requires.0, c.loop-k-test.false) in
    c.formed.ensures
    ∙ columns_told s.bytes.now s.o s.n l.fits l.row
    (l.invariant.fits ∙ ap (λ (k : ℕ). columns_held (width k) s.bytes.now s.o) e)
    (l.invariant.read ∙ ap (λ (k : ℕ). row_read k s.bytes.now s.o) e)
