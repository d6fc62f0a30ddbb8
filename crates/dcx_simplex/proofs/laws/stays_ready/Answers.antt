-- Each pivot keeps right sides at least 0.
use Rattle.dcx_simplex.proofs.PhaseLaws.{stays_ready}
use Rattle.dcx_simplex.proofs.laws.stays_ready.Goals as goal

-- the law, as it is proved
pub returns : goal.returns
returns c = stays_ready
