-- The rows so far are put.
use Rattle.std.proofs.Common.{◌≡◌, ℕ, ◌<◌, ◌≤◌, map}
use Rattle.dcx_tab.specs.Program.{tableau_row}
use Rattle.dcx_tab.specs.Rows.{row_at}
use Rattle.dcx_links.specs.Matrix.{row_of}
use Rattle.dcx_chained.proofs.build.put_rows.Given as goal

abbrev pub invariant-rows : goal.invariant-rows
invariant-rows l = record {
  height : l.links.height ≡ l.initial.links.height;
  width : l.links.width ≡ l.initial.links.width;
  there : (k : ℕ) → k < l.k → row_of l.links k ≡ row_at (map tableau_row l.rows) k;
  same : (k : ℕ) → l.k ≤ k → row_of l.links k ≡ row_of l.initial.links k;
}
