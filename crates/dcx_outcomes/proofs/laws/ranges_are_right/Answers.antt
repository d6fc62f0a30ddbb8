-- What is told of a parameter's range is right at its setting.
use Rattle.dcx_outcomes.proofs.RangeEnds as holds
use Rattle.dcx_outcomes.proofs.laws.ranges_are_right.Goals as goal

pub returns : goal.returns
returns c = holds.ranges_are_right
