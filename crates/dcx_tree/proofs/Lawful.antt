-- The nodes of a tree keep what disciplined convex programming asks for.
use Rattle.std.proofs.Common.{◌≡◌, ◌<◌, List, length, Some, subst}
use Rattle.std.specs.List.{All}
use Rattle.std.proofs.lemmas.List.{length-map}
use Rattle.dcx_math.proofs.Lists.{mapped}
use Rattle.dcx_shape.specs.declared.shape.Sides.{Sides}
use Rattle.dcx_shape.specs.Sides.{entries_of}
use Rattle.dcx_call.specs.pairing.Pairing.{Pairing}
use Rattle.dcx_call.specs.pairing.Pairing.TheVariants.{Times, MatTimes, Over}
use Rattle.dcx_arena.specs.Nodes.{AreNodes, sides_at}
use Rattle.dcx_convex.specs.Calls as convex_calls
use Rattle.dcx_convex.specs.Nodes as convex
use Rattle.dcx_convex.proofs.AtomLaws as atoms
use Rattle.dcx_convex.proofs.PairLaws.{product_lawful, quotient_lawful}
use Rattle.dcx_call.specs.declared.call.Call.{Call}
use Rattle.dcx_call.specs.declared.call.Call.TheVariants as calls
use Rattle.dcx_call.specs.Atoms.{atom_meaning, atom_lawful}
use Rattle.dcx_call.specs.Linears.{linear_meaning, linear_lawful}
use Rattle.dcx_call.specs.Calls.{shape_of}
use Rattle.dcx_tree.specs.Nodes.{Names, Node, pairs_of, pairing_call, head_of, arg_sides, convex_node, convex_nodes}
use Rattle.dcx_tree.specs.declared.problem.Problem.{Problem}
use Rattle.dcx_tree.specs.Meaning.{names_in}
use Rattle.dcx_tree.specs.Laws.{IsLawful}

pairing_lawful : (p : Pairing) (args : List Sides) (sides : Sides) → convex_calls.IsLawful (pairing_call p args sides) (length args)
pairing_lawful Times args sides = product_lawful (entries_of sides) (pairs_of Times args) (length args)
pairing_lawful MatTimes args sides = product_lawful (entries_of sides) (pairs_of MatTimes args) (length args)
pairing_lawful Over args sides = quotient_lawful (entries_of sides) (pairs_of Over args) (length args)

-- a call that has a value keeps the laws
head_lawful : (names : Names) (call : Call) (args : List Sides) (sides : Sides) → shape_of call args ≡ Some sides → convex.IsLawfulHead (head_of names call args sides) (length args)
head_lawful names (calls.Variable v) args sides e = tt
head_lawful names (calls.Parameter p) args sides e = tt
head_lawful names (calls.Constant x) args sides e = tt
head_lawful names (calls.Atom m) args sides e =
    let law = atom_lawful m in
    atoms.atom_lawful (atom_meaning m) law.sign law.monotonicity law.curvature args sides e
head_lawful names (calls.Linear l) args sides e =
    let law = linear_lawful l in
    atoms.linear_lawful (linear_meaning l) law.linearity law.sign law.monotonicity args sides e
head_lawful names (calls.Pairing p) args sides e = pairing_lawful p args sides

module _ (names : Names) (nodes : List Node) (are : AreNodes shape_of nodes) where
  lawful : convex.AreLawful (convex_nodes names nodes)
  lawful i m h =
      let (n, at, is) = mapped (convex_node names nodes) nodes i m h in
      let law = subst (convex.IsLawfulHead (head_of names n.call (arg_sides nodes n) n.sides)) (length-map n.args (sides_at nodes))
      (head_lawful names n.call (arg_sides nodes n) n.sides (are.shaped i n at)) in
      subst (λ (k : convex.Node). convex.IsLawfulHead k.head (length k.args)) is law

  ordered : convex.IsOrdered (convex_nodes names nodes)
  ordered i m h =
      let (n, at, is) = mapped (convex_node names nodes) nodes i m h in
      subst (λ (k : convex.Node). All (λ a. a < i) k.args) is (are.earlier i n at)

  pub tree_lawful : IsLawful names nodes
  tree_lawful = record { ordered = ordered; lawful = lawful }

-- of a problem
pub problem_lawful : (p : Problem) → IsLawful (names_in p) p.tree
problem_lawful p = tree_lawful (names_in p) p.tree p.nodes
