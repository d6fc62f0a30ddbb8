-- Each pivot lowers the cost or keeps it.
use Rattle.dcx_simplex.proofs.PhaseLaws.{never_rises}
use Rattle.dcx_simplex.proofs.laws.never_rises.Goals as goal

-- the law, as it is proved
pub returns : goal.returns
returns c = never_rises
