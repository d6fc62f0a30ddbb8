-- The constraints so far are those among the values that are passed.
use Rattle.std.proofs.Common.{◌≡◌, map, take}
use Rattle.dcx_script_values.specs.Meant.{meant}
use Rattle.dcx_script_state.specs.Declarations.{constraint_list}
use Rattle.dcx_script_state.proofs.problem.constraints_in.Given as goal

abbrev pub invariant-loop-value : goal.invariant-loop-value
invariant-loop-value l = l.constraints.items ≡ constraint_list (map meant (take l.value-index l.values))
