-- The best of the rows so far.
use Rattle.dcx_warm.specs.Dual.{IsBestRow}
use Rattle.dcx_warm.proofs.dual.leaving.Given as goal

abbrev pub invariant-rows : goal.invariant-rows
invariant-rows g l = IsBestRow (g.T.Tableau.table l.tableau) l.i l.best
