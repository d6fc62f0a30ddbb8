-- The cost at columns is the objective at their unknowns.
use Rattle.dcx_std.proofs.Solutions.{cost_is}
use Rattle.dcx_std.proofs.laws.objective_carries_over.Goals as goal

pub returns : goal.returns
returns c = λ rows q zs known scaled. cost_is rows q known scaled zs
