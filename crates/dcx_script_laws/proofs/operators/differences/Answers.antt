-- The laws of differences.
use Rattle.dcx_script_laws.proofs.Differences.{differences_hold}
use Rattle.dcx_script_laws.proofs.operators.differences.Goals as goal

pub returns : goal.returns
returns c = differences_hold
