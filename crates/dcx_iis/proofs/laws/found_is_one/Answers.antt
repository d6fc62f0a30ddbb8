-- The filter finds one thing.
use Rattle.dcx_iis.proofs.OneFound as holds
use Rattle.dcx_iis.proofs.laws.found_is_one.Goals as goal

pub returns : goal.returns
returns c = holds.found_is_one
