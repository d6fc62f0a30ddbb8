-- The nodes so far are marked.
use Rattle.std.proofs.Common.{◌≡◌, ℕ, ◌<◌, length}
use Rattle.dcx_postsolve.specs.Fixed.{is_fixed}
use Rattle.dcx_unknowns.specs.Layout.{marked}
use Rattle.dcx_graph.proofs.marks.fixed_nodes.Given as goal

abbrev pub invariant-nodes : goal.invariant-nodes
invariant-nodes l = record {
  count : length l.marks.items ≡ l.i;
  so_far : (k : ℕ) → k < l.i → marked l.marks.items k ≡ is_fixed l.problem k;
}
