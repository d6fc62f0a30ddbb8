-- The leaves so far are given.
use Rattle.std.proofs.Common.{ℕ, ◌<◌}
use Rattle.dcx_arena.specs.Nodes.{IsNode}
use Rattle.dcx_call.specs.Values.{IsGiven}
use Rattle.dcx_tree.specs.Nodes.{Node}
use Rattle.dcx_tree.proofs.tree.Tree.is_given.Given as goal

abbrev pub invariant-loop-i : goal.invariant-loop-i
invariant-loop-i l = (k : ℕ) (n : Node) → k < l.i → IsNode l.self k n → IsGiven n.call l.setting l.point
