-- Settings have one list of what the filter finds.
use Rattle.dcx_outcomes.proofs.FilterEnds as holds
use Rattle.dcx_outcomes.proofs.laws.filters_are_one.Goals as goal

pub returns : goal.returns
returns c = holds.filters_are_one
