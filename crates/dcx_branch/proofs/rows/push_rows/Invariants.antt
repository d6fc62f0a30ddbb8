-- The rows so far are added.
use Rattle.std.proofs.Common.{◌≡◌, ◌++◌, take}
use Rattle.dcx_branch.proofs.rows.push_rows.Given as goal

abbrev pub invariant-rows : goal.invariant-rows
invariant-rows l = l.rows.items ≡ l.fn.rows.items ++ take l.row-index l.from
