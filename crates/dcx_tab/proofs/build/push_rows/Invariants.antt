-- The cells have the rows so far.
use Rattle.std.proofs.Common.{◌≡◌, ◌++◌, map, take}
use Rattle.dcx_tab.specs.Cells.{joined}
use Rattle.dcx_tab.specs.Program.{tableau_row}
use Rattle.dcx_tab.proofs.build.push_rows.Given as goal

abbrev pub invariant-rows : goal.invariant-rows
invariant-rows l = l.cells.items ≡ l.fn.cells.items ++ joined (take l.row-index (map tableau_row l.rows))
