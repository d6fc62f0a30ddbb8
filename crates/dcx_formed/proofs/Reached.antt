-- Each node of an accepted problem is convex or concave, since each is reached.
use Rattle.std.proofs.Common.{ℕ, ◌<◌, IsTrue, length}
use Rattle.dcx_convex.specs.Rules.{Rules, judgement_at}
use Rattle.dcx_convex.specs.Problems.{accepted_by}
use Rattle.dcx_convex.proofs.Reached.{IsBent, reached_bent}
use Rattle.dcx_tree.specs.declared.problem.Problem.{Problem}
use Rattle.dcx_tree.specs.Meaning.{convex_problem}
use Rattle.dcx_tree.proofs.AllReached.{node_reached}
use Rattle.dcx_unknowns.proofs.NodeForms.{nodes_ordered}

-- each node is convex or concave
pub node_bent : (p : Problem) (rules : Rules) → IsTrue (accepted_by rules (convex_problem p)) → (i : ℕ) → i < length p.tree → IsBent (judgement_at rules (convex_problem p).nodes i)
node_bent p rules ok i b = reached_bent rules (convex_problem p) (nodes_ordered p) ok i (node_reached p i b)
