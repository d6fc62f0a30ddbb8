-- The sides of products and quotients that count with their values are fixed.
use Rattle.std.proofs.Common.{◌≡◌, ℕ, IsFalse, map, subst}
use Rattle.std.proofs.lemmas.Option.{slice_get_within}
use Rattle.dcx_affine.specs.declared.pairing.Pairing.{Pairing}
use Rattle.dcx_arena.specs.Nodes.{IsNode}
use Rattle.dcx_convex.specs.Nodes as convex
use Rattle.dcx_convex.specs.Rules.{Plain, judgement_at}
use Rattle.dcx_convex.specs.Certificates.{is_fixed}
use Rattle.dcx_call.specs.declared.call.Call.{Call}
use Rattle.dcx_call.specs.declared.call.Call.TheVariants as calls
use Rattle.dcx_tree.specs.declared.problem.Problem.{Problem}
use Rattle.dcx_tree.specs.Nodes.{Node, head_of, arg_sides, pairing_call}
use Rattle.dcx_tree.specs.Meaning.{names_in, convex_problem, IsAccepted}
use Rattle.dcx_tree.proofs.Lawful.{problem_lawful}
use Rattle.dcx_tree.proofs.AllReached.{convex_at, node_reached}
use Rattle.dcx_right.specs.Steepness.{IsValueFixed}
use Rattle.dcx_right.proofs.Values.{side_fixed}

pub tree_side_fixed : (p : Problem) → IsAccepted p → (i : ℕ) (n : Node) (q : Pairing) → IsNode p.tree i n → n.call ≡ calls.Pairing q → IsFalse (is_fixed (convex_problem p).nodes i) →
    IsValueFixed (pairing_call q (arg_sides p.tree n) n.sides).kind (map (judgement_at Plain (convex_problem p).nodes) n.args)
tree_side_fixed p ok i n q at is loose =
    let at_convex : convex.IsNode (convex_problem p).nodes i (record { head = head_of (names_in p) (calls.Pairing q) (arg_sides p.tree n) n.sides; args = n.args }) =
    subst (λ (call : Call). convex.IsNode (convex_problem p).nodes i (record { head = head_of (names_in p) call (arg_sides p.tree n) n.sides; args = n.args })) is (convex_at p i n at) in
    side_fixed (convex_problem p) (problem_lawful p).ordered ok i (node_reached p i (slice_get_within p.tree i n at))
    (pairing_call q (arg_sides p.tree n) n.sides) n.args at_convex loose
