-- What reaches no variable has one value.
use Rattle.dcx_convex.proofs.LawsHold.{constants_are_fixed}
use Rattle.dcx_convex.proofs.laws.constants_are_fixed.Goals as goal

pub returns : goal.returns
returns c = constants_are_fixed
