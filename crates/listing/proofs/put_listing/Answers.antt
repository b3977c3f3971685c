-- `put_listing` meets its contract. Assumes nothing.
use native.Mathlib.Omega.{arith}
use Rattle.rules.specs.Tables.{table}
use Rattle.listing.specs.ListShown.{count_few}
use Rattle.listing.proofs.Lines.{listing_put}
use Rattle.listing.proofs.put_listing.Goals as goal

pub returns : goal.returns
returns c =
    let s = c in
    let f = table s.args.n s.args.f.now in
    let t = table s.args.n s.args.t.now in
    let few = count_few f t s.args.run s.requires.1 in
    let end =
    listing_put f t s.args.run s.args.out.now c.put_query.new.out c.put_pairs.new.out
    c.put_last.new.out s.requires.1 c.put_query.ensures c.put_pairs.ensures c.put_last.ensures in
    record {
      upper_bound = (omega arith, end.0);
      out_after = end.1;
    }
