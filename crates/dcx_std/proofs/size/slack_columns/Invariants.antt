-- The count is that of the slacks of the rows so far, or the largest number of 32 bits.
use Rattle.std.proofs.Common.{◌≡◌, take, sum_by}
use Rattle.dcx_linear.specs.Size.{capped}
use Rattle.dcx_std.specs.Size.{slacks_for}
use Rattle.dcx_std.proofs.size.slack_columns.Given as goal

abbrev pub invariant-rows : goal.invariant-rows
invariant-rows l = l.count ≡ capped (sum_by (λ r. slacks_for r.kind) (take l.row-index l.rows))
