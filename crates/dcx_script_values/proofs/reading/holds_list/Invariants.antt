-- A list is among the items that are left exactly where one is among all.
use Rattle.std.proofs.Common.{◌≡◌, map, drop}
use Rattle.std.specs.List.{list_any}
use Rattle.dcx_script_values.specs.Meant.{meant}
use Rattle.dcx_script_values.specs.Kinds.{is_list}
use Rattle.dcx_script_values.proofs.reading.holds_list.Given as goal

abbrev pub invariant-loop-value : goal.invariant-loop-value
invariant-loop-value l = list_any is_list (map meant (drop l.value-index l.values)) ≡ list_any is_list (map meant l.values)
