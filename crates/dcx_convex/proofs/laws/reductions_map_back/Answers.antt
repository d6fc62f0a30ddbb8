-- A right answer of a reduced program is one of the problem.
use Rattle.dcx_convex.proofs.LawsHold.{reductions_map_back}
use Rattle.dcx_convex.proofs.laws.reductions_map_back.Goals as goal

pub returns : goal.returns
returns c = reductions_map_back
