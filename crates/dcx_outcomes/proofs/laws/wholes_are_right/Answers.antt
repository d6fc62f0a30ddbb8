-- Each answer of a problem with marked variables is right at its setting.
use Rattle.dcx_outcomes.proofs.WholeEnds as holds
use Rattle.dcx_outcomes.proofs.laws.wholes_are_right.Goals as goal

pub returns : goal.returns
returns c = holds.wholes_are_right
