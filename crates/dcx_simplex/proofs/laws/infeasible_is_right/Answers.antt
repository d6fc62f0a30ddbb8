-- At a point the sum of the artificials would be 0.
use Rattle.dcx_simplex.proofs.EndLaws.{infeasible_is_right}
use Rattle.dcx_simplex.proofs.laws.infeasible_is_right.Goals as goal

-- the law, as it is proved
pub returns : goal.returns
returns c = infeasible_is_right
