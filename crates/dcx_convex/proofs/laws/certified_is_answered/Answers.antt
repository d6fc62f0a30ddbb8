-- Certificates bound the Lagrangian.
use Rattle.dcx_convex.proofs.LawsHold.{certified_is_answered}
use Rattle.dcx_convex.proofs.laws.certified_is_answered.Goals as goal

pub returns : goal.returns
returns c = certified_is_answered
