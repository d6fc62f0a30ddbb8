-- When what is told of a parameter's range is right, in the problem's own words.
use Rattle.std.specs.Prelude.{◌≡◌, ◌≢◌, ⊤, ℕ, List, Option, Some, None, position, slice_get}
use Rattle.dcx_math.specs.Rational.{ℚ, ◌+ℚ◌, ◌*ℚ◌, ◌≤ℚ◌}
use Rattle.dcx_frac.specs.declared.fraction.Frac.{Frac}
use Rattle.dcx_frac.specs.Frac.{value}
use Rattle.dcx_shape.specs.declared.shape.Sides.TheVariants.{Scalar}
use Rattle.dcx_shape.specs.Shape.{sides_of}
use Rattle.dcx_point.specs.Pairs.{same_name}
use Rattle.dcx_convex.specs.Nodes.{Setting, Point}
use Rattle.dcx_convex.specs.Answers.{Multipliers}
use Rattle.dcx_call.specs.declared.attribute.Parameter.{Parameter}
use Rattle.dcx_tree.specs.declared.problem.Problem.{Problem}
use Rattle.dcx_tree.specs.Meaning.{Fits, IsOptimal, IsInfeasible, IsUnbounded}
use Rattle.dcx_answer.specs.declared.ranged.Ranged.{Ranged}
use Rattle.dcx_answer.specs.declared.ranged.Ranged.TheVariants.{Span, Infeasible, Unbounded}

-- ---- the parameter
-- the position of the parameter with this name, in order of declaration; None where the problem reaches none
abbrev pub place_of : List Parameter → List ℕ → Option ℕ
place_of parameters name = position (λ q. same_name name q.name) parameters

-- q is the parameter with this name, at position k
pub record HasParameter (p : Problem) (name : List ℕ) (k : ℕ) (q : Parameter) : Type 0 where
  pub place : place_of p.parameters name ≡ Some k
  pub there : slice_get p.parameters k ≡ Some q

-- the parameter with this name is a number
pub record IsNumber (p : Problem) (name : List ℕ) : Type 0 where
  pub at : ℕ
  pub parameter : Parameter
  pub named : HasParameter p name at parameter
  pub scalar : sides_of parameter.shape ≡ Scalar

-- ---- settings and ends
-- they differ by the parameter at position k alone
abbrev pub DifferAt : ℕ → Setting → Setting → Type 0
DifferAt k s t = (j e : ℕ) → j ≢ k → t j e ≡ s j e

abbrev pub IsFrom : Option Frac → ℚ → Type 0
IsFrom None v = ⊤
IsFrom (Some x) v = value x ≤ℚ v

abbrev pub IsUpTo : Option Frac → ℚ → Type 0
IsUpTo None v = ⊤
IsUpTo (Some x) v = v ≤ℚ value x

-- the value is between the ends
pub record IsBetween (low high : Option Frac) (v : ℚ) : Type 0 where
  pub from : IsFrom low v
  pub up_to : IsUpTo high v

-- ---- what is told
-- some point and some multipliers show that the problem has this value
pub record HasValue (p : Problem) (s : Setting) (v : ℚ) : Type 0 where
  pub point : Point
  pub multipliers : Multipliers
  pub optimal : IsOptimal p s v point multipliers

-- some multipliers show that no point is feasible
pub record HasNoPoint (p : Problem) (s : Setting) : Type 0 where
  pub multipliers : Multipliers
  pub gap : ℚ
  pub infeasible : IsInfeasible p s multipliers gap

-- from some feasible point along some ray the objective falls for ever
pub record HasNoLeast (p : Problem) (s : Setting) : Type 0 where
  pub point : Point
  pub ray : Point
  pub bound : ℚ
  pub slope : ℚ
  pub unbounded : IsUnbounded p s point ray bound slope

-- the parameter's value at the setting is in the span; and at each setting that fits and differs from it by a value of the parameter in
-- the span alone, the problem has the value on the line
pub record HoldsAlong (p : Problem) (s : Setting) (name : List ℕ) (low high : Option Frac) (constant slope : Frac) : Type 0 where
  pub here : (n : IsNumber p name) → IsBetween low high (s n.at 0)
  pub along : (n : IsNumber p name) (t : Setting) → Fits p t → DifferAt n.at s t → IsBetween low high (t n.at 0) → HasValue p t (value constant +ℚ value slope *ℚ t n.at 0)

-- what is told of the parameter is true of the problem
abbrev pub HoldsOn : Problem → Setting → List ℕ → Ranged → Type 0
HoldsOn p s name (Span low high constant slope) = HoldsAlong p s name low high constant slope
HoldsOn p s name Infeasible = HasNoPoint p s
HoldsOn p s name Unbounded = HasNoLeast p s
