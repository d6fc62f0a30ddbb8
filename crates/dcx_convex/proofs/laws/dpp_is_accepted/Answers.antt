-- Parameters that are affine accept no more.
use Rattle.dcx_convex.proofs.LawsHold.{dpp_is_accepted}
use Rattle.dcx_convex.proofs.laws.dpp_is_accepted.Goals as goal

pub returns : goal.returns
returns c = dpp_is_accepted
