-- Settings have one list of what is told of a parameter's range.
use Rattle.dcx_outcomes.proofs.RangeEnds as holds
use Rattle.dcx_outcomes.proofs.laws.ranges_are_one.Goals as goal

pub returns : goal.returns
returns c = holds.ranges_are_one
