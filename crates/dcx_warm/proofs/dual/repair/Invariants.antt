-- What is reached from here is what is reached from the start, and the pivots left to do fall.
use Rattle.std.proofs.Common.{◌-◌}
use Rattle.dcx_warm.specs.Install.{IsSound}
use Rattle.dcx_warm.specs.Dual.{RepairsAlike}
use Rattle.dcx_warm.proofs.dual.repair.Given as goal

abbrev pub invariant-pivots : goal.invariant-pivots
invariant-pivots g l = record {
  sound : IsSound (g.T.Tableau.table l.tableau);
  alike : RepairsAlike l.limit (g.T.Tableau.table l.fn.tableau) l.fn.pivots (g.T.Tableau.table l.tableau) l.pivots;
}

abbrev pub decreases-pivots : goal.decreases-pivots
decreases-pivots g l = l.limit - l.pivots
