-- Calls keep their laws.
use Rattle.dcx_convex.proofs.LawsHold.{calls_are_lawful}
use Rattle.dcx_convex.proofs.laws.calls_are_lawful.Goals as goal

pub returns : goal.returns
returns c = calls_are_lawful
