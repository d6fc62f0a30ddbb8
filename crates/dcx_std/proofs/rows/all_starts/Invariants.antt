-- It is told how the rows so far start.
use Rattle.std.proofs.Common.{◌≡◌, map, take}
use Rattle.dcx_std.specs.IntegerRows.{start_of}
use Rattle.dcx_std.proofs.rows.all_starts.Given as goal

abbrev pub invariant-rows : goal.invariant-rows
invariant-rows l = l.starts.items ≡ map (start_of l.count) (take l.row-index l.rows)
