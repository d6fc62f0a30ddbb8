-- The count is that of the columns of the kinds so far, or the largest number of 32 bits.
use Rattle.std.proofs.Common.{◌≡◌, take, sum_by}
use Rattle.dcx_linear.specs.Size.{columns_for, capped}
use Rattle.dcx_linear.proofs.size.unknown_columns.Given as goal

abbrev pub invariant-kinds : goal.invariant-kinds
invariant-kinds l = l.count ≡ capped (sum_by columns_for (take l.kind-index l.kinds))
