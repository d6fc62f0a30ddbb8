-- The entries so far are put.
use Rattle.std.proofs.Common.{◌≡◌, ℕ, ◌<◌, ◌≤◌}
use Rattle.dcx_tab.specs.Rows.{entry}
use Rattle.dcx_links.specs.Matrix.{number_at}
use Rattle.dcx_chained.proofs.build.put_entries.Given as goal

abbrev pub invariant-entries : goal.invariant-entries
invariant-entries l = record {
  height : l.links.height ≡ l.initial.links.height;
  width : l.links.width ≡ l.initial.links.width;
  there : (j : ℕ) → j < l.j → number_at l.links l.i j ≡ entry l.entries j;
  same : (k j : ℕ) → (k ≡ l.i → l.j ≤ j) → number_at l.links k j ≡ number_at l.initial.links k j;
}
