-- What an answer says of every feasible point, and what holds of each filter's set.
use Rattle.dcx_math.specs.Rational.{ℚ, ◌≤ℚ◌}
use Rattle.dcx_convex.specs.Nodes.{Setting, Point}
use Rattle.dcx_convex.specs.Answers.{Multipliers}
use Rattle.dcx_tree.specs.declared.problem.Problem.{Problem}
use Rattle.dcx_tree.specs.Meaning.{objective_at, IsFeasible, IsOptimal, IsInfeasible, IsUnbounded}
use Rattle.std.specs.Prelude.{◌≡◌, ℕ, ◌<◌, Some, None, length}
use Rattle.dcx_right.specs.Points.{IsWholePoint, IsWholeOptimum, HasNoWholePoint}
use Rattle.dcx_right.specs.Boxes.{Box, IsInBox, root_box}
use Rattle.dcx_right.specs.Trees.{Tree, IsTreeOf, IsTree}
use Rattle.dcx_right.specs.ConstraintSets.{ConstraintSet, IsMinimal, IsFilterSet}

-- no feasible point has a smaller minimized objective
abbrev pub OptimaAreLeast : Type 0
OptimaAreLeast = (p : Problem) (s : Setting) (v : ℚ) (x y : Point) (m : Multipliers) → IsOptimal p s v x m → IsFeasible p s y → v ≤ℚ objective_at p s y

-- no point is feasible
abbrev pub InfeasibleHaveNoPoint : Type 0
InfeasibleHaveNoPoint = (p : Problem) (s : Setting) (g : ℚ) (y : Point) (m : Multipliers) → IsInfeasible p s m g → ¬ IsFeasible p s y

-- no number is at most the minimized objective of every feasible point
abbrev pub UnboundedHaveNoLeast : Type 0
UnboundedHaveNoLeast = (p : Problem) (s : Setting) (b e low : ℚ) (x d : Point) → IsUnbounded p s x d b e → ¬ ((y : Point) → IsFeasible p s y → low ≤ℚ objective_at p s y)

-- a tree shows what it says of the whole points of its box
pub record TreesShow : Type 0 where
  pub bound : (p : Problem) (s : Setting) (v : ℚ) (box : Box) (t : Tree) → IsTreeOf p s (Some v) box t → (x : Point) → IsWholePoint p s x → IsInBox box x → v ≤ℚ objective_at p s x
  pub none : (p : Problem) (s : Setting) (box : Box) (t : Tree) → IsTreeOf p s None box t → (x : Point) → IsWholePoint p s x → ¬ IsInBox box x

-- a tree shows less, too: a smaller value, and any value where it shows that there is no whole point
pub record TreesWeaken : Type 0 where
  pub smaller : (p : Problem) (s : Setting) (v w : ℚ) (box : Box) (t : Tree) → w ≤ℚ v → IsTreeOf p s (Some v) box t → IsTreeOf p s (Some w) box t
  pub any : (p : Problem) (s : Setting) (w : ℚ) (box : Box) (t : Tree) → IsTreeOf p s None box t → IsTreeOf p s (Some w) box t

-- the root box has all whole points
abbrev pub RootHasAll : Type 0
RootHasAll = (p : Problem) (s : Setting) (x : Point) → IsWholePoint p s x → IsInBox (root_box p) x

-- a tree with the objective of a whole point shows that the point is a whole optimum
abbrev pub TreesShowOptima : Type 0
TreesShowOptima = (p : Problem) (s : Setting) (v : ℚ) (x : Point) (t : Tree) → IsWholePoint p s x → objective_at p s x ≡ v → IsTree p s (Some v) t → IsWholeOptimum p s v x

-- a tree without a value shows that there is no whole point
abbrev pub TreesShowNone : Type 0
TreesShowNone = (p : Problem) (s : Setting) (t : Tree) → IsTree p s None t → HasNoWholePoint p s

-- a setting has one whole optimum's value, or no whole point
pub record WholeAnswersAgree (p : Problem) (s : Setting) : Type 0 where
  pub one_value : (v w : ℚ) (x y : Point) → IsWholeOptimum p s v x → IsWholeOptimum p s w y → v ≡ w
  pub not_both : (v : ℚ) (x : Point) → IsWholeOptimum p s v x → ¬ HasNoWholePoint p s

-- the filter's set is impossible, and is not without any one of its constraints
abbrev pub FilterSetsAreMinimal : Type 0
FilterSetsAreMinimal = (p : Problem) (s : Setting) (set : ConstraintSet) → IsFilterSet p s set → IsMinimal p s set

-- a problem has one filter's set at a setting
abbrev pub FilterSetsAreOne : Type 0
FilterSetsAreOne = (p : Problem) (s : Setting) (a b : ConstraintSet) → IsFilterSet p s a → IsFilterSet p s b → (k : ℕ) → k < length p.constraints → a k ≡ b k
