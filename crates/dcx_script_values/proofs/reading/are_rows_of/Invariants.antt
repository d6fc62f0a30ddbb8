-- The items that are left are all rows of the length exactly where all items are.
use Rattle.std.proofs.Common.{◌≡◌, map, drop}
use Rattle.std.specs.List.{list_all}
use Rattle.dcx_script_values.specs.Meant.{meant}
use Rattle.dcx_script_values.specs.Kinds.{is_long}
use Rattle.dcx_script_values.proofs.reading.are_rows_of.Given as goal

abbrev pub invariant-loop-value : goal.invariant-loop-value
invariant-loop-value l = list_all (is_long l.length) (map meant (drop l.value-index l.values)) ≡ list_all (is_long l.length) (map meant l.values)
