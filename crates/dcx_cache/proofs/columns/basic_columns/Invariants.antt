-- The list has the basic columns of the rows so far.
use Rattle.std.proofs.Common.{◌≡◌, take}
use Rattle.dcx_cache.proofs.columns.basic_columns.Given as goal

abbrev pub invariant-rows : goal.invariant-rows
invariant-rows l = l.basics.items ≡ take l.row l.tableau.basis.items
