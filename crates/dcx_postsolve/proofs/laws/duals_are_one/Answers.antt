-- One list of multipliers.
use Rattle.dcx_postsolve.proofs.DualLaws.{are_one}
use Rattle.dcx_postsolve.proofs.laws.duals_are_one.Goals as goal

pub returns : goal.returns
returns c = are_one
