-- Each entry is a multiplier.
use Rattle.dcx_postsolve.proofs.DualLaws.{row_multiplier}
use Rattle.dcx_postsolve.proofs.laws.duals_are_multipliers.Goals as goal

pub returns : goal.returns
returns c = row_multiplier
