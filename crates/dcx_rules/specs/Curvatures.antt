-- The curvature of a node, and what it says of the node's value.
use Rattle.std.specs.Prelude.{◌≡◌, ℕ, Bool, true, false, if◌then◌else◌, Option, Some, None}
use Rattle.dcx_math.specs.Rational.{ℚ, ◌+ℚ◌, ◌*ℚ◌, ◌≤ℚ◌}
use Rattle.dcx_atom.specs.Signs.{combination}
use Rattle.dcx_convex.specs.Nodes.{Point}
use Rattle.dcx_convex.specs.Rules.{Plain, Judgement, judgement_at}
use Rattle.dcx_convex.specs.Problems.{BetweenPoints, IsConvexOn, IsAffineOn}
use Rattle.dcx_tree.specs.declared.problem.Problem.{Problem}
use Rattle.dcx_tree.specs.Meaning.{convex_problem}
use Rattle.dcx_rules.specs.declared.curvature.Curvature.{Curvature}
use Rattle.dcx_rules.specs.declared.curvature.Curvature.TheVariants.{Constant, Affine, Convex, Concave}

-- of a value that is convex, and concave
abbrev pub bent_curvature : Bool → Bool → Option Curvature
bent_curvature true true = Some Affine
bent_curvature true false = Some Convex
bent_curvature false true = Some Concave
bent_curvature false false = None

-- constant where no variable is reached; None where it is neither convex nor concave
abbrev pub curvature_of : Judgement → Option Curvature
curvature_of g = if g.fixed then Some Constant else bent_curvature g.convex g.concave

-- the curvature of node i
abbrev pub curvature_at : Problem → ℕ → Option Curvature
curvature_at p i = curvature_of (judgement_at Plain (convex_problem p).nodes i)

-- a function that is concave on a set
abbrev pub IsConcaveOn : (Point → Type 0) → (Point → ℚ) → Type 0
IsConcaveOn D f = BetweenPoints D (λ t r x y. t *ℚ f x +ℚ r *ℚ f y ≤ℚ f (combination t r x y))

-- a number for each point has this curvature over a set of points
abbrev pub HasCurvature : Curvature → (Point → Type 0) → (Point → ℚ) → Type 0
HasCurvature Constant D f = (x y : Point) → f x ≡ f y
HasCurvature Affine D f = IsAffineOn D f
HasCurvature Convex D f = IsConvexOn D f
HasCurvature Concave D f = IsConcaveOn D f
