-- The columns of the unknowns so far are put.
use Rattle.std.proofs.Common.{◌≡◌, ◌++◌, take}
use Rattle.dcx_std.specs.Columns.{all_unknown_columns}
use Rattle.dcx_std.proofs.columns.push_unknowns.Given as goal

abbrev pub invariant-kinds : goal.invariant-kinds
invariant-kinds l = l.columns.items ≡ l.fn.columns.items ++ all_unknown_columns 0 (take l.unknown l.kinds)
