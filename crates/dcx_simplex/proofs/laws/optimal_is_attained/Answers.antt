-- The basic solution has the cost that is shown.
use Rattle.dcx_simplex.proofs.EndLaws.{optimal_is_attained}
use Rattle.dcx_simplex.proofs.laws.optimal_is_attained.Goals as goal

-- the law, as it is proved
pub returns : goal.returns
returns c = optimal_is_attained
