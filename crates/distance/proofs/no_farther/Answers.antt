-- `no_farther` meets its contract: a small number and a reach fit 32 bits together. Assumes nothing.
use Rattle.distance.proofs.Moved as M
use Rattle.distance.proofs.no_farther.Goals as goal

pub overflow_sub-result : goal.overflow_sub-result
overflow_sub-result c = M.sub_fits c.args.x c.args.y c.args.reach c.requires.0 c.requires.1 c.requires.2

pub overflow_add-result : goal.overflow_add-result
overflow_add-result c = M.add_fits c.args.x c.args.y c.args.reach c.requires.0 c.requires.1 c.requires.2

pub returns : goal.returns
returns c = M.test_is c.args.x c.args.y c.args.reach c.requires.0 c.requires.1 c.requires.2
