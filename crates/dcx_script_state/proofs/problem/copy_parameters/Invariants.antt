-- The copies so far are the parameters that are passed.
use Rattle.std.proofs.Common.{◌≡◌, take}
use Rattle.dcx_script_state.proofs.problem.copy_parameters.Given as goal

abbrev pub invariant-loop-parameter : goal.invariant-loop-parameter
invariant-loop-parameter l = l.copies.items ≡ take l.parameter-index l.parameters
