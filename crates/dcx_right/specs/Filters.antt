-- When what filtering the constraints finds is right, in the problem's own words: a feasible point; or constraints that no point keeps
-- together, with what shows it, and with each of them a point that keeps all the others.
use Rattle.std.specs.Prelude.{◌≡◌, ◌≢◌, ℕ, ◌<◌, IsTrue, List, All, length, pos}
use Rattle.std.specs.List.{AllZip}
use Rattle.dcx_math.specs.Rational.{whole}
use Rattle.dcx_math.specs.Rising.{IsRising}
use Rattle.dcx_frac.specs.declared.fraction.Frac.{Frac}
use Rattle.dcx_frac.specs.Frac.{value}
use Rattle.dcx_shape.specs.Shape.{sides_of}
use Rattle.dcx_atom.specs.declared.array.Array.{Array}
use Rattle.dcx_point.specs.Pairs.{Pairs}
use Rattle.dcx_convex.specs.Nodes.{Setting}
use Rattle.dcx_tree.specs.declared.constraint.Constraint.{Constraint}
use Rattle.dcx_tree.specs.declared.problem.Problem.{Problem}
use Rattle.dcx_tree.specs.Meaning.{point_of, IsFeasible, IsInfeasible, IsDomainPoint}
use Rattle.dcx_answer.specs.declared.filtered.Filtered.{Filtered}
use Rattle.dcx_answer.specs.declared.filtered.Filtered.TheVariants.{Feasible, Infeasible}
use Rattle.dcx_right.specs.Answers.{multipliers_in}
use Rattle.dcx_right.specs.ConstraintSets.{set_of, Keeps, IsFilterSet}

-- ---- a feasible point
-- the point has an array for each variable, is in the domain, and is feasible
pub record IsFeasiblePoint (p : Problem) (s : Setting) (point : Pairs) : Type 0 where
  pub domain : IsDomainPoint p point
  pub feasible : IsFeasible p s (point_of p point)

-- ---- constraints that no point keeps together
-- an array in the shape of a constraint
abbrev pub HasShapeOf : Constraint → Array → Type 0
HasShapeOf c x = sides_of x.shape ≡ sides_of c.shape

-- the point has an array for each variable, is in the domain, and keeps each of these constraints but k
pub record KeepsOthers (p : Problem) (s : Setting) (members : List ℕ) (k : ℕ) (point : Pairs) : Type 0 where
  pub domain : IsDomainPoint p point
  pub keeps : (i : ℕ) → IsTrue (set_of members i) → i ≢ k → Keeps p s (point_of p point) i

-- the members are the filter's set; the multipliers and the gap show that no point keeps them together; and each has a point that keeps
-- all the others
pub record IsIrreducible (p : Problem) (s : Setting) (members : List ℕ) (duals : List Array) (gap : Frac) (points : List Pairs) : Type 0 where
  pub filter : IsFilterSet p s (set_of members)
  pub rising : IsRising (λ k. k) members
  pub within : All (λ k. k < length p.constraints) members
  pub shown : IsInfeasible p s (multipliers_in duals) (value gap)
  pub shaped : AllZip HasShapeOf p.constraints duals
  pub outside : (k : ℕ) → ¬ IsTrue (set_of members k) → (j : ℕ) → multipliers_in duals k j ≡ whole (pos 0)
  pub others_kept : AllZip (KeepsOthers p s members) members points

-- ---- what is found
-- the point is feasible, or the constraints are the filter's set and are shown to be it
abbrev pub IsRightFor : Problem → Setting → Filtered → Type 0
IsRightFor p s (Feasible point) = IsFeasiblePoint p s point
IsRightFor p s (Infeasible members duals gap points) = IsIrreducible p s members duals gap points
