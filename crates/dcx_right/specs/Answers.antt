-- When an answer to a problem at a setting is right, in the problem's own words.
use Rattle.std.specs.Prelude.{◌≡◌, List, map}
use Rattle.std.specs.List.{All}
use Rattle.dcx_frac.specs.Frac.{value}
use Rattle.dcx_shape.specs.Shape.{sides_of}
use Rattle.dcx_atom.specs.declared.array.Array.{Array}
use Rattle.dcx_atom.specs.Arrays.{numbers_of}
use Rattle.dcx_point.specs.Pairs.{Pairs, names_of}
use Rattle.dcx_convex.specs.Nodes.{Setting}
use Rattle.dcx_convex.specs.Answers.{Multipliers}
use Rattle.dcx_call.specs.Values.{HasArray}
use Rattle.dcx_tree.specs.declared.problem.Problem.{Problem}
use Rattle.dcx_tree.specs.Meaning as meaning
use Rattle.dcx_tree.specs.Meaning.{IsFitting, names_in, setting_of, point_of}
use Rattle.dcx_answer.specs.declared.answer.Answer.{Answer}
use Rattle.dcx_answer.specs.declared.answer.Answer.TheVariants as answers

-- the multipliers that arrays are: entry j of array k, and 0 past the end
abbrev pub multipliers_in : List Array → Multipliers
multipliers_in duals = numbers_of duals

-- the answer shows itself right: the point is feasible and the multipliers bound its value, or they show that no point is feasible,
-- or from the point along the ray the objective falls for ever
abbrev pub IsRightFor : Problem → Setting → Answer → Type 0
IsRightFor p s (answers.Optimal number point duals) = meaning.IsOptimal p s (value number) (point_of p point) (multipliers_in duals)
IsRightFor p s (answers.Infeasible duals gap) = meaning.IsInfeasible p s (multipliers_in duals) (value gap)
IsRightFor p s (answers.Unbounded point ray bound slope) = meaning.IsUnbounded p s (point_of p point) (point_of p ray) (value bound) (value slope)

-- ---- of a problem, at a setting under names
-- a point has an array of its shape for each variable of the problem, in order of declaration, and for nothing else
pub record IsPointFor (p : Problem) (point : Pairs) : Type 0 where
  pub names : names_of point ≡ (names_in p).variables
  pub shaped : All (λ v. HasArray point v.name (sides_of v.shape)) p.variables

-- the multipliers of each constraint have its shape, in order
abbrev pub AreShaped : Problem → List Array → Type 0
AreShaped p duals = map (λ a. sides_of a.shape) duals ≡ map (λ c. sides_of c.shape) p.constraints

-- the answer speaks of the variables and the constraints of the problem
abbrev pub SpeaksOf : Problem → Answer → Type 0
SpeaksOf p (answers.Optimal number point duals) = IsPointFor p point × AreShaped p duals
SpeaksOf p (answers.Infeasible duals gap) = AreShaped p duals
SpeaksOf p (answers.Unbounded point ray bound slope) = IsPointFor p point × IsPointFor p ray

-- The setting fits, and the answer shows itself right there: an optimal point is feasible and the multipliers bound its value; or
-- multipliers show that no point is feasible; or from a feasible point along a ray the objective falls for ever.
pub record IsRightAnswer (p : Problem) (setting : Pairs) (a : Answer) : Type 0 where
  pub fits : IsFitting p setting
  pub right : IsRightFor p (setting_of p setting) a
  pub speaks : SpeaksOf p a
