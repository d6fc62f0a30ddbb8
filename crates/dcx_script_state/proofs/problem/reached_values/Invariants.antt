-- The values so far are those of the entries passed whose names are reached.
use Rattle.std.proofs.Common.{◌≡◌, take}
use Rattle.std.specs.Prelude.{filter}
use Rattle.std.specs.HashSet.{contains}
use Rattle.dcx_point.specs.Pairs.{same_name}
use Rattle.dcx_script_state.proofs.problem.reached_values.Given as goal

abbrev pub invariant-loop-i : goal.invariant-loop-i
invariant-loop-i l = l.values ≡ filter (λ e. contains same_name l.reached e.0) (take l.i l.setting)
