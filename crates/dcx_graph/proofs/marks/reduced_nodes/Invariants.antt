-- The nodes so far are marked.
use Rattle.std.proofs.Common.{◌≡◌, ℕ, ◌<◌, length}
use Rattle.dcx_convex.specs.Rules.{Rules}
use Rattle.dcx_unknowns.specs.Layout.{is_reduced, marked}
use Rattle.dcx_graph.specs.Marks.{are_affine}
use Rattle.dcx_graph.proofs.marks.reduced_nodes.Given as goal

abbrev pub invariant-nodes : goal.invariant-nodes
invariant-nodes l = record {
  count : length l.marks.items ≡ l.i;
  so_far : (rules : Rules) → l.affine ≡ are_affine rules → (k : ℕ) → k < l.i → marked l.marks.items k ≡ is_reduced rules l.problem k;
}
