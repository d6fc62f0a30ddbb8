-- None of the rows so far may give up its basic column.
use Rattle.std.proofs.Common.{ℕ, ◌<◌}
use Rattle.dcx_warm.specs.Install.{MayGive}
use Rattle.dcx_warm.proofs.install.giving.Given as goal

abbrev pub invariant-rows : goal.invariant-rows
invariant-rows g l = (k : ℕ) → k < l.i → ¬ (MayGive l.columns (g.T.Tableau.table l.tableau) l.column k)
