-- Behind what was there stand the values that are passed, each the same again.
use Rattle.std.proofs.Common.{◌≡◌, ◌++◌, map, take}
use Rattle.dcx_script_values.specs.Meant.{meant}
use Rattle.dcx_script_values.proofs.items.push_shared.Given as goal

abbrev pub invariant-loop-value : goal.invariant-loop-value
invariant-loop-value l = map meant l.all.items ≡ map meant l.fn.all.items ++ map meant (take l.value-index l.values)
