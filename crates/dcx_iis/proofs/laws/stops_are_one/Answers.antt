-- The filter has one stop, in one step.
use Rattle.dcx_iis.proofs.Ends as holds
use Rattle.dcx_iis.proofs.laws.stops_are_one.Goals as goal

pub returns : goal.returns
returns c = holds.stops_are_one
