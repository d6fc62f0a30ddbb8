-- The readings so far are those of the values that are passed.
use Rattle.std.proofs.Common.{◌≡◌, map, take}
use Rattle.dcx_script_values.specs.Kinds.{reading}
use Rattle.dcx_script_values.specs.Meant.{meant}
use Rattle.dcx_script_values.specs.View.{read_as}
use Rattle.dcx_functions.proofs.expressions.values_read.Given as goal

abbrev pub invariant-loop-value : goal.invariant-loop-value
invariant-loop-value l = map read_as l.readings.items ≡ map reading (map meant (take l.value-index l.values))
