-- `root_of` meets its contract: a root by trial, or the root of n moved up, moved back. Assumes nothing.
use Rattle.root.specs.Roots.{parted_is}
use Rattle.root.proofs.root_of.Goals as goal

pub returns-then-n-lt256-clause-root_value : goal.returns-then-n-lt256-clause-root_value
returns-then-n-lt256-clause-root_value c = (parted_is c.tried.ensures).1

pub returns-then-n-lt65536-clause-root_value : goal.returns-then-n-lt65536-clause-root_value
returns-then-n-lt65536-clause-root_value c = (parted_is c.moved_back.ensures).1

pub returns-then-n-lt4294967296-clause-root_value : goal.returns-then-n-lt4294967296-clause-root_value
returns-then-n-lt4294967296-clause-root_value c = (parted_is c.moved_back-then-n-lt4294967296.ensures).1

pub returns-clause-root_value : goal.returns-clause-root_value
returns-clause-root_value c = (parted_is c.moved_back-2.ensures).1
