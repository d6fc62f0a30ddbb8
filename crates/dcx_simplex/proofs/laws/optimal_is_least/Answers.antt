-- No point costs less.
use Rattle.dcx_simplex.proofs.EndLaws.{optimal_is_least}
use Rattle.dcx_simplex.proofs.laws.optimal_is_least.Goals as goal

-- the law, as it is proved
pub returns : goal.returns
returns c = optimal_is_least
