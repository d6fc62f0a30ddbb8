-- No set of basic columns comes twice, and there are few sets.
use Rattle.dcx_simplex.proofs.PhaseLaws.{few_pivots}
use Rattle.dcx_simplex.proofs.laws.makes_few_pivots.Goals as goal

-- the law, as it is proved
pub returns : goal.returns
returns c = few_pivots
