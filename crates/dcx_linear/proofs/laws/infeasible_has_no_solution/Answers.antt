-- Rows with an infeasible answer have no solution.
use Rattle.dcx_linear.proofs.RowAnswers.{none}
use Rattle.dcx_linear.proofs.laws.infeasible_has_no_solution.Goals as goal

pub returns : goal.returns
returns c = none
