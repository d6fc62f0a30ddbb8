-- The entries are what the cost has at the columns so far.
use Rattle.std.proofs.Common.{◌≡◌, map, take}
use Rattle.dcx_std.specs.Columns.{cost_in}
use Rattle.dcx_std.proofs.rows.cost_row.Given as goal

abbrev pub invariant-columns : goal.invariant-columns
invariant-columns l = l.entries.items ≡ map (cost_in l.numbers) (take l.column-index l.columns)
