-- The rows so far are added.
use Rattle.std.proofs.Common.{◌≡◌, ◌++◌, take}
use Rattle.dcx_iis.proofs.program.push_rows.Given as goal

abbrev pub invariant-rows : goal.invariant-rows
invariant-rows l = l.copies.items ≡ l.fn.copies.items ++ take l.row-index l.rows
