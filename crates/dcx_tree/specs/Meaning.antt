-- What a problem says: the value of its expressions at a point and a setting, its domain, its feasible points and its answers.
--
-- A point is an array for each variable, and a setting one for each parameter, by their position in order of declaration.
-- Their numbers are exact and of any size.
use Rattle.std.specs.Prelude.{ℕ, map}
use Rattle.std.specs.List.{All, Contains}
use Rattle.dcx_math.specs.Rational.{ℚ}
use Rattle.dcx_shape.specs.Shape.{sides_of}
use Rattle.dcx_shape.specs.Sides.{entries_of}
use Rattle.dcx_atom.specs.declared.flags.Sign.{Sign}
use Rattle.dcx_point.specs.Pairs as pairs
use Rattle.dcx_point.specs.Pairs.{Pairs}
use Rattle.dcx_call.specs.Values.{HasArray}
use Rattle.dcx_convex.specs.Nodes as nodes
use Rattle.dcx_convex.specs.Nodes.{Setting, Point}
use Rattle.dcx_convex.specs.Rules.{Plain, judgement_at}
use Rattle.dcx_convex.specs.Problems as convex
use Rattle.dcx_convex.specs.Answers as answers
use Rattle.dcx_convex.specs.Answers.{Multipliers}
use Rattle.dcx_tree.specs.declared.constraint.Sense.{Sense}
use Rattle.dcx_tree.specs.declared.constraint.Sense.TheVariants as senses
use Rattle.dcx_tree.specs.declared.constraint.Kind.{Kind}
use Rattle.dcx_tree.specs.declared.constraint.Kind.TheVariants as kinds
use Rattle.dcx_tree.specs.declared.constraint.Constraint.{Constraint}
use Rattle.dcx_tree.specs.declared.problem.Problem.{Problem}
use Rattle.dcx_tree.specs.Nodes.{Names, convex_nodes, numbers_by}

-- ---- the problem
abbrev pub sense_of : Sense → convex.Sense
sense_of senses.Minimize = convex.Minimize
sense_of senses.Maximize = convex.Maximize

abbrev pub relation_of : Kind → convex.Relation
relation_of kinds.AtMost = convex.AtMost
relation_of kinds.Equal = convex.Equal

abbrev pub convex_constraint : Constraint → convex.Constraint
convex_constraint c = record { relation = relation_of c.kind; left = c.left.0; right = c.right.0; size = entries_of (sides_of c.shape) }

-- the declared names
abbrev pub names_in : Problem → Names
names_in p = record { variables = map (λ v. v.name) p.variables; parameters = map (λ q. q.name) p.parameters }

-- the problem in the terms of disciplined convex programming
abbrev pub convex_problem : Problem → convex.Problem
convex_problem p = record {
  nodes = convex_nodes (names_in p) p.tree;
  sense = sense_of p.sense;
  objective = p.objective.0;
  constraints = map convex_constraint p.constraints;
}

-- ---- values
-- entry j of the value of node i at a setting and a point
abbrev pub value_at : Problem → Setting → Point → ℕ → ℕ → ℚ
value_at p s x i j = nodes.value_at (convex_problem p).nodes s x i j

-- the objective, negated where it is to be maximized
abbrev pub objective_at : Problem → Setting → Point → ℚ
objective_at p s x = convex.objective_at (convex_problem p) s x

-- the sign that the rules tell of node i
abbrev pub sign_at : Problem → ℕ → Sign
sign_at p i = (judgement_at Plain (convex_problem p).nodes i).sign

-- ---- settings and points
-- each parameter is as its attribute says, and nothing is divided by 0
abbrev pub Fits : Problem → Setting → Type 0
Fits p s = nodes.Fits (convex_problem p).nodes s

-- each variable is as its attribute says
abbrev pub IsInDomain : Problem → Point → Type 0
IsInDomain p x = nodes.IsInDomain (convex_problem p).nodes x

-- x is in the domain, and each constraint holds, entry by entry
abbrev pub IsFeasible : Problem → Setting → Point → Type 0
IsFeasible p s x = convex.IsFeasible (convex_problem p) s x

-- the arrays that a setting gives the parameters, and those that a point gives the variables
abbrev pub setting_of : Problem → Pairs → Setting
setting_of p given = numbers_by (names_in p).parameters given

abbrev pub point_of : Problem → Pairs → Point
point_of p given = numbers_by (names_in p).variables given

-- a setting of arrays names parameters of the problem alone, each has an array of its shape, and their numbers fit
pub record IsFitting (p : Problem) (given : Pairs) : Type 0 where
  pub named : All (Contains (names_in p).parameters) (pairs.names_of given)
  pub shaped : All (λ q. HasArray given q.name (sides_of q.shape)) p.parameters
  pub fits : Fits p (setting_of p given)

-- a point of arrays gives each variable an array of its shape, and their numbers are in the domain
pub record IsDomainPoint (p : Problem) (given : Pairs) : Type 0 where
  pub shaped : All (λ v. HasArray given v.name (sides_of v.shape)) p.variables
  pub domain : IsInDomain p (point_of p given)

-- ---- acceptance and convexity
-- the rules of disciplined convex programming accept the problem, and also where parameters are affine
abbrev pub IsAccepted : Problem → Type 0
IsAccepted p = convex.IsAccepted (convex_problem p)

abbrev pub IsDpp : Problem → Type 0
IsDpp p = convex.IsDpp (convex_problem p)

-- over a convex domain a convex function is minimized, where left minus right is convex and at most 0, or affine and 0
abbrev pub IsConvex : Problem → Setting → Type 0
IsConvex p s = convex.IsConvex (convex_problem p) s

-- ---- answers
-- the minimized objective plus the sum of multipliers times left minus right
abbrev pub lagrangian : Problem → Setting → Point → Multipliers → ℚ
lagrangian p s x m = answers.lagrangian (convex_problem p) s x m

-- x is feasible with value v, and the Lagrangian with the multipliers m is at least v at every point of the domain
abbrev pub IsOptimal : Problem → Setting → ℚ → Point → Multipliers → Type 0
IsOptimal p s v x m = answers.IsOptimal (convex_problem p) s v x m

-- the sum of multipliers times left minus right is at least the gap g, above 0, at every point of the domain
abbrev pub IsInfeasible : Problem → Setting → Multipliers → ℚ → Type 0
IsInfeasible p s m g = answers.IsInfeasible (convex_problem p) s m g

-- from x along d all points are feasible, and from the bound b on the objective falls by at least the slope e for each step
abbrev pub IsUnbounded : Problem → Setting → Point → Point → ℚ → ℚ → Type 0
IsUnbounded p s x d b e = answers.IsUnbounded (convex_problem p) s x d b e
