-- No solution has a smaller objective than an optimal answer.
use Rattle.dcx_linear.proofs.RowAnswers.{least}
use Rattle.dcx_linear.proofs.laws.optimal_is_least.Goals as goal

pub returns : goal.returns
returns c = least
