-- The copies so far are the variables that are passed.
use Rattle.std.proofs.Common.{◌≡◌, take}
use Rattle.dcx_script_state.proofs.problem.copy_variables.Given as goal

abbrev pub invariant-loop-variable : goal.invariant-loop-variable
invariant-loop-variable l = l.copies.items ≡ take l.variable-index l.variables
