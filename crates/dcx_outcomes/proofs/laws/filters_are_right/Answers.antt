-- What the filter finds is right at its setting.
use Rattle.dcx_outcomes.proofs.FilterEnds as holds
use Rattle.dcx_outcomes.proofs.laws.filters_are_right.Goals as goal

pub returns : goal.returns
returns c = holds.filters_are_right
