-- The readings so far are those of the arguments that are passed.
use Rattle.std.proofs.Common.{◌≡◌, map, take}
use Rattle.dcx_script_values.specs.Kinds.{reading}
use Rattle.dcx_script_values.specs.Meant.{meant}
use Rattle.dcx_script_values.specs.View.{read_as}
use Rattle.dcx_functions.proofs.expressions.arguments_read.Given as goal

abbrev pub invariant-loop-argument : goal.invariant-loop-argument
invariant-loop-argument l = map read_as l.readings.items ≡ map (λ a. reading (meant a.value)) (take l.argument-index l.arguments)
