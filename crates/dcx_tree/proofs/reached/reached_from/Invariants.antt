-- The arguments of the marked nodes from the last down are marked.
use Rattle.std.proofs.Common.{◌≡◌, ℕ, ◌+◌, length}
use Rattle.dcx_arena.specs.Nodes.{positions}
use Rattle.dcx_tree.proofs.Marking.{IsMarking}
use Rattle.dcx_tree.proofs.reached.reached_from.Given as goal

abbrev pub invariant-loop-k : goal.invariant-loop-k
invariant-loop-k l = record {
  count : length l.marks.items ≡ length l.tree;
  marking : (n : ℕ) → n + l.k ≡ length l.tree → IsMarking l.tree (positions l.roots) n l.marks.items;
}
