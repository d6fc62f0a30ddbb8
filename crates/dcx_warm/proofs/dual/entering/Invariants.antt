-- The best of the columns so far.
use Rattle.dcx_warm.specs.Dual.{IsBestColumn}
use Rattle.dcx_warm.proofs.dual.entering.Given as goal

abbrev pub invariant-columns : goal.invariant-columns
invariant-columns g l = IsBestColumn (g.T.Tableau.table l.tableau) l.row l.c l.best
