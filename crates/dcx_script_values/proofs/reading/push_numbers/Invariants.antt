-- Behind what was there stand the numbers of the values that are passed.
use Rattle.std.proofs.Common.{◌≡◌, ◌++◌, map, take}
use Rattle.dcx_script_values.specs.Meant.{meant}
use Rattle.dcx_script_values.specs.Kinds.{number_of}
use Rattle.dcx_script_values.proofs.reading.push_numbers.Given as goal

abbrev pub invariant-loop-value : goal.invariant-loop-value
invariant-loop-value l = l.numbers.items ≡ l.fn.numbers.items ++ map number_of (map meant (take l.value-index l.values))
