-- What was passed over is fit.
use Rattle.std.proofs.Common.{◌≡◌, map, drop}
use Rattle.std.specs.List.{list_all}
use Rattle.dcx_script_values.specs.Kinds.{is_fit, reading}
use Rattle.dcx_script_values.specs.Meant.{meant}
use Rattle.dcx_signature.proofs.fitting.are_fit.Given as goal

abbrev pub invariant-loop-value : goal.invariant-loop-value
invariant-loop-value l = list_all (λ v. is_fit (reading v)) (map meant (drop l.value-index l.values)) ≡ list_all (λ v. is_fit (reading v)) (map meant l.values)
