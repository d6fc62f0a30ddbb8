-- The points of a problem whose marked entries are whole, and the least objective among them.
use Rattle.std.specs.Prelude.{◌≡◌, ◌≢◌, ℕ, ◌<◌, ◌⊎◌, ℤ, pos, Some, slice_get}
use Rattle.dcx_math.specs.Rational.{ℚ, whole, ◌≤ℚ◌}
use Rattle.dcx_shape.specs.Shape.{sides_of}
use Rattle.dcx_shape.specs.Sides.{entries_of}
use Rattle.dcx_call.specs.declared.attribute.Variable.{Variable}
use Rattle.dcx_call.specs.declared.attribute.Whole.{Whole}
use Rattle.dcx_call.specs.declared.attribute.Whole.TheVariants.{Not, Integer, Boolean}
use Rattle.dcx_convex.specs.Nodes.{Setting, Point}
use Rattle.dcx_tree.specs.declared.problem.Problem.{Problem}
use Rattle.dcx_tree.specs.Meaning.{IsFeasible, objective_at}

-- ---- entries of variables, which go by their position in order of declaration
-- this is variable k, and it has an entry j
pub record HasEntry (p : Problem) (k j : ℕ) (v : Variable) : Type 0 where
  pub variable : slice_get p.variables k ≡ Some v
  pub entry : j < entries_of (sides_of v.shape)

-- entry j of variable k is marked: it is to be whole
pub record IsMarked (p : Problem) (k j : ℕ) : Type 0 where
  pub variable : Variable
  pub entry : HasEntry p k j variable
  pub marked : variable.whole ≢ Not

-- ---- whole points
-- the number is an integer
abbrev pub IsWhole : ℚ → Type 0
IsWhole x = (n : ℤ) × (x ≡ whole n)

-- the number is as the mark of its variable says
abbrev pub KeepsMark : Whole → ℚ → Type 0
KeepsMark Not x = Unit {0}
KeepsMark Integer x = IsWhole x
KeepsMark Boolean x = (x ≡ whole (pos 0)) ⊎ (x ≡ whole (pos 1))

-- each entry of each variable is as its mark says
abbrev pub KeepsMarks : Problem → Point → Type 0
KeepsMarks p x = (k j : ℕ) (v : Variable) → HasEntry p k j v → KeepsMark v.whole (x k j)

-- x is feasible, integer entries are whole, and boolean ones 0 or 1
pub record IsWholePoint (p : Problem) (s : Setting) (x : Point) : Type 0 where
  pub feasible : IsFeasible p s x
  pub marks : KeepsMarks p x

-- ---- answers
-- x is such a point with the value v of the minimized objective, and no such point has a smaller one
pub record IsWholeOptimum (p : Problem) (s : Setting) (v : ℚ) (x : Point) : Type 0 where
  pub point : IsWholePoint p s x
  pub value : objective_at p s x ≡ v
  pub least : (y : Point) → IsWholePoint p s y → v ≤ℚ objective_at p s y

-- there is no such point
abbrev pub HasNoWholePoint : Problem → Setting → Type 0
HasNoWholePoint p s = (x : Point) → ¬ IsWholePoint p s x
