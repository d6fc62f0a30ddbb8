-- A nested list is among the readings that are left exactly where one is among all.
use Rattle.std.proofs.Common.{◌≡◌, map, drop}
use Rattle.std.specs.List.{list_any}
use Rattle.dcx_script_values.specs.View.{read_as}
use Rattle.dcx_script_values.specs.Kinds.{is_nested}
use Rattle.dcx_script_values.proofs.operands.has_nested.Given as goal

abbrev pub invariant-loop-reading : goal.invariant-loop-reading
invariant-loop-reading l = list_any is_nested (map read_as (drop l.reading-index l.readings)) ≡ list_any is_nested (map read_as l.readings)
