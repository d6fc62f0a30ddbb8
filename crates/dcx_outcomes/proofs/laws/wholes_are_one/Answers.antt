-- Settings of a problem with marked variables have one list of outcomes.
use Rattle.dcx_outcomes.proofs.WholeEnds as holds
use Rattle.dcx_outcomes.proofs.laws.wholes_are_one.Goals as goal

pub returns : goal.returns
returns c = holds.wholes_are_one
