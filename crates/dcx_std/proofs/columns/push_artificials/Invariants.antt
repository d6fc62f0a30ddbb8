-- The artificials of the rows so far are put.
use Rattle.std.proofs.Common.{◌≡◌, ◌++◌, take}
use Rattle.dcx_std.specs.Columns.{artificial_columns}
use Rattle.dcx_std.proofs.columns.push_artificials.Given as goal

abbrev pub invariant-starts : goal.invariant-starts
invariant-starts l = l.columns.items ≡ l.fn.columns.items ++ artificial_columns (take l.row l.starts)
