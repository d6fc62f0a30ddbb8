-- When an answer in whole numbers is right: a whole point that no other betters, or that there is none, with a tree that shows it.
use Rattle.std.specs.Prelude.{⊤, ℕ, List, [], ◌∷◌, ◌++◌, map, Option, Some, None, ℤ}
use Rattle.dcx_math.specs.Rational.{ℚ}
use Rattle.dcx_frac.specs.declared.fraction.Frac.{Frac}
use Rattle.dcx_frac.specs.Frac.{value}
use Rattle.dcx_atom.specs.declared.array.Array.{Array}
use Rattle.dcx_point.specs.Pairs.{Pairs}
use Rattle.dcx_convex.specs.Nodes.{Setting}
use Rattle.dcx_tree.specs.declared.problem.Problem.{Problem}
use Rattle.dcx_tree.specs.Meaning.{IsFitting, setting_of, point_of}
use Rattle.dcx_answer.specs.declared.branch_tree.BoundWeight.{BoundWeight}
use Rattle.dcx_answer.specs.declared.branch_tree.BranchNode.{BranchNode}
use Rattle.dcx_answer.specs.declared.branch_tree.BranchNode.TheVariants.{Bound, Empty, Split}
use Rattle.dcx_answer.specs.declared.whole_answer.WholeAnswer.{WholeAnswer}
use Rattle.dcx_answer.specs.declared.whole_answer.WholeAnswer.TheVariants.{Optimal, Infeasible}
use Rattle.dcx_right.specs.Points.{IsWholeOptimum, HasNoWholePoint}
use Rattle.dcx_right.specs.Trees as trees
use Rattle.dcx_right.specs.Trees.{Weight, Shown, Tree, IsTree}
use Rattle.dcx_right.specs.Answers.{multipliers_in, IsPointFor}

abbrev pub weight_of : BoundWeight → Weight
weight_of d = record { variable = d.variable; entry = d.entry; upper = d.upper; weight = value d.weight }

-- the multipliers that arrays and a list of bounds' multipliers are
abbrev pub shown_by : List Array → List BoundWeight → Shown
shown_by duals bounds = record { duals = multipliers_in duals; bounds = map weight_of bounds }

-- the nodes are those of a tree: first its root, then those of its lower side, and then those of its upper side
pub data Lists : List BranchNode → Tree → Type 0 where
  bound : (duals : List Array) (bounds : List BoundWeight) → Lists (Bound duals bounds ∷ []) (trees.Bound (shown_by duals bounds))
  empty : (duals : List Array) (bounds : List BoundWeight) (gap : Frac) → Lists (Empty duals bounds gap ∷ []) (trees.Empty (shown_by duals bounds) (value gap))
  split : (k j : ℕ) (n : ℤ) (lower upper : List BranchNode) (below above : Tree) → Lists lower below → Lists upper above → Lists (Split k j n ∷ (lower ++ upper)) (trees.Split k j n below above)

-- they are those of a tree that shows of the box of all whole points what it shows with this value
pub record Shows (p : Problem) (s : Setting) (v : Option ℚ) (nodes : List BranchNode) : Type 0 where
  pub tree : Tree
  pub lists : Lists nodes tree
  pub shows : IsTree p s v tree

-- the point is a whole optimum and the tree shows it, or the tree shows that there is no whole point
abbrev pub IsRightFor : Problem → Setting → WholeAnswer → Type 0
IsRightFor p s (Optimal number point tree nodes) = IsWholeOptimum p s (value number) (point_of p point) × Shows p s (Some (value number)) tree
IsRightFor p s (Infeasible tree nodes) = HasNoWholePoint p s × Shows p s None tree

-- ---- of a problem, at a setting under names
-- the point of a whole answer has the arrays of the variables
abbrev pub SpeaksWhole : Problem → WholeAnswer → Type 0
SpeaksWhole p (Optimal number point tree nodes) = IsPointFor p point
SpeaksWhole p (Infeasible tree nodes) = ⊤

-- the setting fits; the point is a whole optimum there, or there is no whole point, and a tree shows it
pub record IsRightWhole (p : Problem) (setting : Pairs) (a : WholeAnswer) : Type 0 where
  pub fits : IsFitting p setting
  pub right : IsRightFor p (setting_of p setting) a
  pub speaks : SpeaksWhole p a
