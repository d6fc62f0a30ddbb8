-- The lines so far are appended.
use Rattle.std.proofs.Common.{◌≡◌, ◌++◌, take}
use Rattle.std.specs.List.{flat_map, zip}
use Rattle.dcx_report.specs.FilterText.{without_lines}
use Rattle.dcx_report.proofs.filter_lines.put_points.Given as goal

abbrev pub invariant-pairs : goal.invariant-pairs
invariant-pairs l = l.out.items ≡ l.fn.out.items ++ flat_map without_lines (take l.i (zip l.members l.points))
