-- Each entry is the multiplier by which the answer is right.
use Rattle.dcx_postsolve.proofs.DualLaws.{right_multiplier}
use Rattle.dcx_postsolve.proofs.laws.duals_are_right.Goals as goal

pub returns : goal.returns
returns c = right_multiplier
