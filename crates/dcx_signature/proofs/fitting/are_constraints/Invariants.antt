-- What was passed over is a constraint.
use Rattle.std.proofs.Common.{◌≡◌, map, drop}
use Rattle.std.specs.List.{list_all}
use Rattle.dcx_script_values.specs.Meant.{meant}
use Rattle.dcx_signature.specs.Fits.{is_constraint}
use Rattle.dcx_signature.proofs.fitting.are_constraints.Given as goal

abbrev pub invariant-loop-value : goal.invariant-loop-value
invariant-loop-value l = list_all is_constraint (map meant (drop l.value-index l.values)) ≡ list_all is_constraint (map meant l.values)
