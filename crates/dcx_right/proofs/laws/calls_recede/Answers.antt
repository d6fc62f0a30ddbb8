-- Calls recede.
use Rattle.dcx_right.proofs.RayLawsHold.{calls_recede}
use Rattle.dcx_right.proofs.laws.calls_recede.Goals as goal

pub returns : goal.returns
returns c = calls_recede
