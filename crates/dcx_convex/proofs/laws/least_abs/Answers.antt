-- A reduced program and its answer.
use Rattle.dcx_convex.proofs.LawsHold.{least_abs}
use Rattle.dcx_convex.proofs.laws.least_abs.Goals as goal

pub returns : goal.returns
returns c = least_abs
