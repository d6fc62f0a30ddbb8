-- What the filter finds is right for the problem.
use Rattle.dcx_iis.proofs.Right as holds
use Rattle.dcx_iis.proofs.laws.found_is_right.Goals as goal

pub returns : goal.returns
returns c = holds.found_is_right
