-- No feasible point is better than an optimal answer.
use Rattle.dcx_right.proofs.Optima.{optima_are_least}
use Rattle.dcx_right.proofs.laws.optima_are_least.Goals as goal

pub returns : goal.returns
returns c = optima_are_least
