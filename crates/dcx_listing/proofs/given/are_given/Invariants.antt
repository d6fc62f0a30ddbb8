-- The parameters so far have arrays.
use Rattle.std.proofs.Common.{ℕ, ◌<◌, IsSome}
use Rattle.dcx_arena.specs.Nodes.{IsNode}
use Rattle.dcx_convex.specs.Rules.{Plain}
use Rattle.dcx_tree.specs.Nodes.{Node}
use Rattle.dcx_linear.specs.Parameters.{entry_of}
use Rattle.dcx_graph.specs.Reducing.{IsGivenFor}
use Rattle.dcx_listing.proofs.given.are_given.Given as goal

abbrev pub invariant-loop-i : goal.invariant-loop-i
invariant-loop-i l = (k : ℕ) (n : Node) → k < l.i → IsNode l.tree k n → IsGivenFor Plain (λ pairs name entry. IsSome (entry_of pairs name entry)) l.setting n.call
