-- A filter that finds something has no step that stops.
use Rattle.dcx_iis.proofs.Ends as holds
use Rattle.dcx_iis.proofs.laws.found_or_stopped.Goals as goal

pub returns : goal.returns
returns c = holds.found_or_stopped
