-- What is known of checks made one after the other. Assumes nothing.
use Rattle.codes.specs.Steps.{passed, stopped}

pub ruleset steps = (passed, stopped)
