-- The listed columns so far are basic, and what is reached from here is what is reached from the start.
use Rattle.std.proofs.Common.{◌≡◌, ℕ, ◌<◌}
use Rattle.dcx_simplex.specs.Basis.{IsBasic}
use Rattle.dcx_warm.specs.Install.{IsSound, IsListed, InstallsAlike}
use Rattle.dcx_warm.proofs.install.install.Given as goal

abbrev pub invariant-columns : goal.invariant-columns
invariant-columns g l = record {
  sound : IsSound (g.T.Tableau.table l.tableau);
  plain : (g.T.Tableau.table l.tableau).plain ≡ (g.T.Tableau.table l.fn.tableau).plain;
  basic : (k : ℕ) → k < l.column → IsListed l.columns k → IsBasic (g.T.Tableau.table l.tableau) k;
  alike : InstallsAlike l.columns l.limit (g.T.Tableau.table l.fn.tableau) l.fn.pivots (g.T.Tableau.table l.tableau) l.pivots;
}
