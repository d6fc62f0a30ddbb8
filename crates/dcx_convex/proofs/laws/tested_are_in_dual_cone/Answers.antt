-- What may reach a variable is in the dual cone of its attribute.
use Rattle.dcx_convex.proofs.LawsHold.{tested_are_in_dual_cone}
use Rattle.dcx_convex.proofs.laws.tested_are_in_dual_cone.Goals as goal

pub returns : goal.returns
returns c = tested_are_in_dual_cone
