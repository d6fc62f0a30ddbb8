-- The column is basic in none of the rows so far.
use Rattle.std.proofs.Common.{ℕ, ◌<◌, ◌≢◌}
use Rattle.dcx_tab.specs.Rows.{basic_at}
use Rattle.dcx_warm.proofs.install.is_basic.Given as goal

abbrev pub invariant-rows : goal.invariant-rows
invariant-rows g l = (k : ℕ) → k < l.i → basic_at (g.T.Tableau.table l.tableau).basis k ≢ l.column
