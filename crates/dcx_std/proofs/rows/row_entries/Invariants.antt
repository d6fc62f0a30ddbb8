-- The entries are what the row has at the columns so far.
use Rattle.std.proofs.Common.{◌≡◌, map, take}
use Rattle.dcx_std.specs.Columns.{number_in}
use Rattle.dcx_std.proofs.rows.row_entries.Given as goal

abbrev pub invariant-columns : goal.invariant-columns
invariant-columns l = l.entries.items ≡ map (number_in l.row l.is_negated l.numbers) (take l.column-index l.columns)
