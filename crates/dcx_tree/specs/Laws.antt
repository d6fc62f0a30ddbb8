-- The main statements, as the clauses of the laws say them.
use Rattle.std.specs.Prelude.{◌≡◌, ℕ, List, [], ◌∷◌, Some, slice_get}
use Rattle.dcx_math.specs.Rational.{ℚ}
use Rattle.dcx_atom.specs.Signs.{HasSign}
use Rattle.dcx_point.specs.Pairs.{Pairs}
use Rattle.dcx_arena.specs.Nodes.{AreNodes, sides_at}
use Rattle.dcx_arena.specs.Unfold.{Expressions, Unfold}
use Rattle.dcx_call.specs.declared.call.Call.{Call}
use Rattle.dcx_call.specs.Calls.{shape_of}
use Rattle.dcx_call.specs.Values.{given_by}
use Rattle.dcx_convex.specs.Nodes as convex
use Rattle.dcx_convex.specs.Nodes.{Setting, Point}
use Rattle.dcx_convex.specs.Answers.{Multipliers}
use Rattle.dcx_tree.specs.declared.problem.Problem.{Problem}
use Rattle.dcx_tree.specs.declared.roots.Roots.{Roots}
use Rattle.dcx_tree.specs.Nodes.{Names, Node, convex_nodes, source_value}
use Rattle.dcx_tree.specs.Problems.{roots_of}
use Rattle.dcx_tree.specs.Values.{AreNamed}
use Rattle.dcx_tree.specs.Expressions.{values_of}
use Rattle.dcx_tree.specs.Gather.{positions_of, declared_in, AreDeclarations, IsProblemOf}
use Rattle.dcx_tree.specs.Meaning.{setting_of, point_of, value_at, sign_at, Fits, IsInDomain, IsAccepted, IsConvex, IsOptimal, IsInfeasible, IsUnbounded}

-- the nodes of a tree are what disciplined convex programming asks for: arguments stand first, and each call keeps the laws of calls
pub record IsLawful (names : Names) (nodes : List Node) : Type 0 where
  pub ordered : convex.IsOrdered (convex_nodes names nodes)
  pub lawful : convex.AreLawful (convex_nodes names nodes)

abbrev pub TreesAreLawful : Type 0
TreesAreLawful = (names : Names) (nodes : List Node) → AreNodes shape_of nodes → IsLawful names nodes

-- a node has the sides and the numbers of the expression for which it stands, by whichever names
abbrev pub ValuesUnfold : Type 0
ValuesUnfold = (nodes : List Node) (names : Names) → AreNodes shape_of nodes → (setting point : Pairs) (i : ℕ) → AreNamed nodes names i → (t : Expressions Call) → Unfold nodes (i ∷ []) t →
    values_of (given_by setting) (given_by point) t ≡ record { sides = sides_at nodes i; numbers = source_value nodes names setting point i } ∷ []

-- the sign that is told of a node is true of its value, at every fitting setting and every point of the domain
abbrev pub SignsAreTrue : Type 0
SignsAreTrue = (p : Problem) (s : Setting) (x : Point) → Fits p s → IsInDomain p x → (i j : ℕ) → HasSign (sign_at p i) (value_at p s x i j)

-- an accepted problem is convex at every fitting setting
abbrev pub AcceptedIsConvex : Type 0
AcceptedIsConvex = (p : Problem) → IsAccepted p → (s : Setting) → Fits p s → IsConvex p s

-- at one setting no two kinds of answers hold together, and two optimal answers have one value
pub record AnswersAgree (p : Problem) (s : Setting) : Type 0 where
  pub one_value : (v w : ℚ) (x y : Point) (m n : Multipliers) → IsOptimal p s v x m → IsOptimal p s w y n → v ≡ w
  pub not_infeasible : (v g : ℚ) (x : Point) (m n : Multipliers) → IsOptimal p s v x m → ¬ IsInfeasible p s n g
  pub not_unbounded : (v b e : ℚ) (x y d : Point) (m : Multipliers) → IsOptimal p s v x m → ¬ IsUnbounded p s y d b e
  pub not_both : (g b e : ℚ) (x d : Point) (m : Multipliers) → IsInfeasible p s m g → ¬ IsUnbounded p s x d b e

-- where a problem is gathered, each root has the value that it has in the source, at every setting and point of arrays
abbrev pub GatheringKeepsValues : Type 0
GatheringKeepsValues = (source : List Node) (roots : Roots) (p : Problem) → AreNodes shape_of source → AreDeclarations source roots → IsProblemOf source roots p →
    (setting point : Pairs) (k i h : ℕ) → slice_get (positions_of roots) k ≡ Some i → slice_get (roots_of p.objective p.constraints) k ≡ Some h →
    (j : ℕ) → value_at p (setting_of p setting) (point_of p point) h j ≡ source_value source (declared_in roots) setting point i j
