-- The basic columns of the rows so far are written, the others as they were.
use Rattle.std.proofs.Common.{◌≡◌, ◌≢◌, ℕ, ◌<◌}
use Rattle.dcx_math.specs.Rational.{whole, ◌/ℚ◌}
use Rattle.dcx_math.specs.Sums.{rat_at}
use Rattle.dcx_tab.specs.Rows.{basic_at}
use Rattle.dcx_tab.specs.Table.{entry_at}
use Rattle.dcx_lp_answer.specs.Notes.{numbers}
use Rattle.dcx_lp_answer.specs.Right.{turned_if}
use Rattle.dcx_simplex.proofs.read.put_basic.Given as goal

abbrev pub invariant-rows : goal.invariant-rows
invariant-rows g l = record {
  basic : (k : ℕ) → k < l.i → rat_at (numbers l.xs) (basic_at (g.T.Tableau.table l.tableau).basis k)
      ≡ turned_if l.is_negated (whole (entry_at (g.T.Tableau.table l.tableau) k l.column) /ℚ whole (entry_at (g.T.Tableau.table l.tableau) k (basic_at (g.T.Tableau.table l.tableau).basis k)));
  other : (j : ℕ) → ((k : ℕ) → k < l.i → basic_at (g.T.Tableau.table l.tableau).basis k ≢ j) → rat_at (numbers l.xs) j ≡ rat_at (numbers l.fn.xs) j;
}
