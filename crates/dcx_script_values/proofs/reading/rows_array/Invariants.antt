-- The numbers so far are those of the rows that are passed.
use Rattle.std.proofs.Common.{◌≡◌, map, take}
use Rattle.std.specs.List.{flat_map}
use Rattle.dcx_script_values.specs.Meant.{meant}
use Rattle.dcx_script_values.specs.Kinds.{row_numbers}
use Rattle.dcx_script_values.proofs.reading.rows_array.Given as goal

abbrev pub invariant-loop-value : goal.invariant-loop-value
invariant-loop-value l = l.numbers.items ≡ flat_map row_numbers (map meant (take l.value-index l.values))
