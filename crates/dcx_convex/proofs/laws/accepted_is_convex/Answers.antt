-- What the rules accept is convex.
use Rattle.dcx_convex.proofs.LawsHold.{accepted_is_convex}
use Rattle.dcx_convex.proofs.laws.accepted_is_convex.Goals as goal

pub returns : goal.returns
returns c = accepted_is_convex
