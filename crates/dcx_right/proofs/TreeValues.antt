-- The nodes of a tree keep the recession law.
use Rattle.std.proofs.Common.{◌≡◌, List, Some, subst}
use Rattle.dcx_math.proofs.Lists.{mapped}
use Rattle.dcx_shape.specs.declared.shape.Sides.{Sides}
use Rattle.dcx_shape.specs.Sides.{entries_of}
use Rattle.dcx_affine.specs.declared.pairing.Pairing.{Pairing}
use Rattle.dcx_affine.specs.declared.pairing.Pairing.TheVariants.{Times, MatTimes, Over}
use Rattle.dcx_arena.specs.Nodes.{AreNodes}
use Rattle.dcx_convex.specs.Nodes as convex
use Rattle.dcx_call.specs.declared.call.Call.{Call}
use Rattle.dcx_call.specs.declared.call.Call.TheVariants as calls
use Rattle.dcx_call.specs.Atoms.{atom_meaning, atom_lawful}
use Rattle.dcx_call.specs.Linears.{linear_meaning, linear_lawful}
use Rattle.dcx_call.specs.Calls.{shape_of}
use Rattle.dcx_tree.specs.Nodes.{Names, Node, pairs_of, pairing_call, head_of, arg_sides, convex_node, convex_nodes}
use Rattle.dcx_right.specs.Rays.{Recedes, HeadRecedes, AreReceding}
use Rattle.dcx_right.proofs.Calls.{atom_recedes, linear_recedes, product_recedes, quotient_recedes}

pairing_recedes : (p : Pairing) (args : List Sides) (sides : Sides) → Recedes (pairing_call p args sides)
pairing_recedes Times args sides = product_recedes (entries_of sides) (pairs_of Times args)
pairing_recedes MatTimes args sides = product_recedes (entries_of sides) (pairs_of MatTimes args)
pairing_recedes Over args sides = quotient_recedes (entries_of sides) (pairs_of Over args)

-- a call that has a value does
head_recedes : (names : Names) (call : Call) (args : List Sides) (sides : Sides) → shape_of call args ≡ Some sides → HeadRecedes (head_of names call args sides)
head_recedes names (calls.Variable v) args sides e = tt
head_recedes names (calls.Parameter p) args sides e = tt
head_recedes names (calls.Constant x) args sides e = tt
head_recedes names (calls.Atom m) args sides e = atom_recedes (atom_meaning m) (atom_lawful m).recession args sides e
head_recedes names (calls.Linear l) args sides e = linear_recedes (linear_meaning l) (linear_lawful l).linearity args sides e
head_recedes names (calls.Pairing p) args sides e = pairing_recedes p args sides

pub tree_recedes : (names : Names) (nodes : List Node) → AreNodes shape_of nodes → AreReceding (convex_nodes names nodes)
tree_recedes names nodes are i m h =
    let (n, at, is) = mapped (convex_node names nodes) nodes i m h in
    subst (λ (k : convex.Node). HeadRecedes k.head) is (head_recedes names n.call (arg_sides nodes n) n.sides (are.shaped i n at))
