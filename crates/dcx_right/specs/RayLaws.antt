-- The main statements, as the clauses of the laws say them.
use Rattle.std.specs.Prelude.{◌≡◌, ℕ, ◌<◌, IsTrue, IsFalse, List, map, Some, length}
use Rattle.dcx_math.specs.Rational.{ℚ, ◌+ℚ◌, ◌*ℚ◌}
use Rattle.dcx_math.specs.Sums.{IsNonnegative}
use Rattle.dcx_shape.specs.declared.shape.Sides.{Sides}
use Rattle.dcx_atom.specs.declared.flags.Bend.{Bend}
use Rattle.dcx_atom.specs.Signs.{IsBeyond, shifted}
use Rattle.dcx_atom.specs.Meaning.{Meaning}
use Rattle.dcx_atom.specs.Laws as atom
use Rattle.dcx_atom.specs.Linear.{LinearMeaning, IsLinear}
use Rattle.dcx_convex.specs.Atoms.{atom_call, linear_call}
use Rattle.dcx_convex.specs.Pairs.{Pair, product_call, quotient_call}
use Rattle.dcx_convex.specs.Nodes as convex
use Rattle.dcx_convex.specs.Nodes.{Apply, Node, Numbers, Point, Setting, IsOrdered, IsInDomain, AreLawful, value_at}
use Rattle.dcx_convex.specs.Rules.{Plain, judgement_at, is_bent}
use Rattle.dcx_convex.specs.Problems as convex_problems
use Rattle.dcx_convex.specs.Problems.{Problem}
use Rattle.dcx_convex.specs.Answers as answers
use Rattle.dcx_arena.specs.Nodes as arena
use Rattle.dcx_affine.specs.declared.pairing.Pairing.{Pairing}
use Rattle.dcx_call.specs.declared.call.Call.TheVariants as calls
use Rattle.dcx_convex.specs.Calls.{Call}
use Rattle.dcx_convex.specs.Certificates.{is_fixed}
use Rattle.dcx_tree.specs.declared.problem.Problem as tree
use Rattle.dcx_tree.specs.Nodes as tree_nodes
use Rattle.dcx_tree.specs.Meaning.{convex_problem, IsAccepted, Fits, IsUnbounded}
use Rattle.dcx_right.specs.Steepness.{IsValueFixed, steep_at, AreSteep}
use Rattle.dcx_right.specs.Rays.{Recedes, AreReceding, IsRay}

-- where arguments stand before their nodes, the steepness of each node is what its rule tells from that of its arguments, and nothing else is
pub record IsSteepnessTold (nodes : List Node) (s : Setting) (d : Point) : Type 0 where
  pub told : AreSteep nodes s d (steep_at nodes s d)
  pub one : (f : ℕ → Numbers) → AreSteep nodes s d f → (i : ℕ) → i < length nodes → f i ≡ steep_at nodes s d i

abbrev pub SteepnessIsTold : Type 0
SteepnessIsTold = (nodes : List Node) → IsOrdered nodes → (s : Setting) (d : Point) → IsSteepnessTold nodes s d

-- the calls that there are keep the recession law
pub record CallsRecede : Type 0 where
  pub atoms : (m : Meaning) → atom.Recedes m → (args : List Sides) (sides : Sides) → m.shape args ≡ Some sides → Recedes (atom_call m args sides)
  pub linear_calls : (m : LinearMeaning) → IsLinear m → (args : List Sides) (sides : Sides) → m.shape args ≡ Some sides → Recedes (linear_call m args sides)
  pub products : (size : ℕ) (pairs : ℕ → List Pair) → Recedes (product_call size pairs)
  pub quotients : (size : ℕ) (pairs : ℕ → List Pair) → Recedes (quotient_call size pairs)

-- from x along d by k a node isn't beyond its value at x and k times its steepness, as far as the rules say: at most that where it is
-- convex, and at least where it is concave
abbrev pub NodesRecede : Type 0
NodesRecede = (nodes : List Node) → IsOrdered nodes → AreLawful nodes → AreReceding nodes → (s : Setting) → convex.Fits nodes s → (x d : Point) → IsInDomain nodes x → IsInDomain nodes d →
    (k : ℚ) → IsNonnegative k → (i : ℕ) (bend : Bend) → IsTrue (is_bent bend (judgement_at Plain nodes i)) →
    (j : ℕ) → IsBeyond bend (value_at nodes s (shifted x k d) i j) (value_at nodes s x i j +ℚ k *ℚ steep_at nodes s d i j)

-- in an accepted problem, of each product and quotient that is reached and reaches a variable, the side whose value counts reaches none
abbrev pub ValuesAreFixed : Type 0
ValuesAreFixed = (p : Problem) → IsOrdered p.nodes → convex_problems.IsAccepted p → (i : ℕ) → convex_problems.IsReached p i → (c : Call) (args : List ℕ) →
    convex.IsNode p.nodes i (record { head = Apply c; args = args }) → IsFalse (is_fixed p.nodes i) → IsValueFixed c.kind (map (judgement_at Plain p.nodes) args)

-- the same of a problem over a tree
abbrev pub TreeValuesAreFixed : Type 0
TreeValuesAreFixed = (p : tree.Problem) → IsAccepted p → (i : ℕ) (n : tree_nodes.Node) (q : Pairing) → arena.IsNode p.tree i n → n.call ≡ calls.Pairing q →
    IsFalse (is_fixed (convex_problem p).nodes i) →
    IsValueFixed (tree_nodes.pairing_call q (tree_nodes.arg_sides p.tree n) n.sides).kind (map (judgement_at Plain (convex_problem p).nodes) n.args)

-- an accepted problem is unbounded along a ray
abbrev pub RaysAreUnbounded : Type 0
RaysAreUnbounded = (p : Problem) → IsOrdered p.nodes → AreLawful p.nodes → AreReceding p.nodes → convex_problems.IsAccepted p → (s : Setting) → convex.Fits p.nodes s →
    (x d : Point) (b e : ℚ) → IsRay p s x d b e → answers.IsUnbounded p s x d b e

-- the same of a problem over a tree, whose calls keep all laws
abbrev pub RaysShow : Type 0
RaysShow = (p : tree.Problem) → IsAccepted p → (s : Setting) → Fits p s → (x d : Point) (b e : ℚ) → IsRay (convex_problem p) s x d b e → IsUnbounded p s x d b e
