-- A start has all that the first phase asks for, and each step up to the second keeps it.
use Rattle.dcx_simplex.proofs.Runs.{phases_are_ready}
use Rattle.dcx_simplex.proofs.laws.phases_are_ready.Goals as goal

-- the law, as it is proved
pub returns : goal.returns
returns c = phases_are_ready
