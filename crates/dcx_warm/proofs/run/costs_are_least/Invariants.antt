-- No column so far has a positive cost.
use Rattle.std.proofs.Common.{ℕ, ◌<◌, ◌≤ℤ◌, pos}
use Rattle.dcx_tab.specs.Table.{entry_at}
use Rattle.dcx_simplex.specs.Whole.{objective_row}
use Rattle.dcx_warm.proofs.run.costs_are_least.Given as goal

abbrev pub invariant-columns : goal.invariant-columns
invariant-columns g l = (k : ℕ) → k < l.c → entry_at (g.T.Tableau.table l.tableau) (objective_row (g.T.Tableau.table l.tableau)) k ≤ℤ pos 0
