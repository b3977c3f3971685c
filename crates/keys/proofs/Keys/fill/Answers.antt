-- The places of the pairs held, then the others. Assumes nothing.
use Rattle.std.proofs.Common.{arith, length-set, ◌∙◌, ◌≡◌}
use Rattle.keys.proofs.Filling.{fill_on, fill_ends}
use Rattle.keys.proofs.Keys.fill.Goals as goal

pub loop-i-preserved : goal.loop-i-preserved
loop-i-preserved c =
    let v = c.loop-i in
    record {
      long = length-set v.pairs v.i c.pair.result ∙ v.invariant.long;
      filled =
          fill_on v.pairs c.self.inside.places v.i c.pair.result v.invariant.filled (omega arith) (omega arith)
          c.pair.ensures;
    }

pub returns : goal.returns
returns c =
    let v = c.loop-i in
    let s = c.self.inside in
    let end : v.i ≡ s.held = omega arith in
    fill_ends v.pairs c.fill.new.self s.places _ s.held c.self.view_is (rw (← end) v.invariant.filled) (omega arith)
    v.invariant.long (omega arith) (c.fill.ensures.after (λ y h. h))
