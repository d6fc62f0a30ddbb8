-- Where multipliers show a problem infeasible, no point is feasible.
use Rattle.dcx_right.proofs.Optima.{infeasible_have_no_point}
use Rattle.dcx_right.proofs.laws.infeasible_have_no_point.Goals as goal

pub returns : goal.returns
returns c = infeasible_have_no_point
