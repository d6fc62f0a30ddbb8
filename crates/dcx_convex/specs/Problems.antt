-- A problem over a list of nodes: when the rules accept it, and when it is convex.
use Rattle.std.specs.Prelude.{◌≡◌, ℕ, ◌<◌, Bool, ◌&&◌, IsTrue, List, Some, slice_get, pos}
use Rattle.std.specs.List.{list_all}
use Rattle.dcx_math.specs.Rational.{ℚ, whole, ◌+ℚ◌, ◌-ℚ◌, ◌*ℚ◌, neg_ℚ, ◌≤ℚ◌}
use Rattle.dcx_math.specs.Sums.{IsNonnegative}
use Rattle.dcx_atom.specs.Signs.{combination}
use Rattle.dcx_convex.specs.Calls.{Call}
use Rattle.dcx_convex.specs.Nodes.{Apply, Node, IsNode, Numbers, Point, Setting, value_at, IsInDomain}
use Rattle.dcx_convex.specs.Rules.{Rules, Plain, Parametrized, Judgement, is_affine, judgement_at}

pub data Sense : Type 0 where
  Minimize : Sense
  Maximize : Sense

-- left <= right, or left == right
pub data Relation : Type 0 where
  AtMost : Relation
  Equal : Relation

-- a relation between so many entries of two nodes
pub record Constraint : Type 0 where
  pub relation : Relation
  pub left : ℕ
  pub right : ℕ
  pub size : ℕ

pub record Problem : Type 0 where
  pub nodes : List Node
  pub sense : Sense
  pub objective : ℕ
  pub constraints : List Constraint

-- c is constraint k
abbrev pub IsConstraint : Problem → ℕ → Constraint → Type 0
IsConstraint p k c = slice_get p.constraints k ≡ Some c

-- P holds of each entry j of each constraint k
abbrev pub EachRow : Problem → (ℕ → Constraint → ℕ → Type 0) → Type 0
EachRow p P = (k : ℕ) (c : Constraint) → IsConstraint p k c → (j : ℕ) → j < c.size → P k c j

-- node i is reached: it is the objective, a side of a constraint, or an argument of a call that is reached
pub data IsReached (p : Problem) : ℕ → Type 0 where
  Objective : IsReached p p.objective
  Left : (k : ℕ) (c : Constraint) → IsConstraint p k c → IsReached p c.left
  Right : (k : ℕ) (c : Constraint) → IsConstraint p k c → IsReached p c.right
  Argument : (i : ℕ) (c : Call) (args : List ℕ) (k a : ℕ) → IsReached p i → IsNode p.nodes i (record { head = Apply c; args = args }) → slice_get args k ≡ Some a → IsReached p a

-- ---- acceptance
-- to minimize, the objective must be convex; to maximize, concave
abbrev pub may_be_objective : Sense → Judgement → Bool
may_be_objective Minimize g = g.convex
may_be_objective Maximize g = g.concave

-- left minus right must be convex, or affine
abbrev pub may_be_sides : Relation → Judgement → Judgement → Bool
may_be_sides AtMost left right = left.convex && right.concave
may_be_sides Equal left right = is_affine left && is_affine right

-- the rules accept the problem
abbrev pub accepted_by : Rules → Problem → Bool
accepted_by rules p =
    may_be_objective p.sense (judgement_at rules p.nodes p.objective)
    && list_all (λ c. may_be_sides c.relation (judgement_at rules p.nodes c.left) (judgement_at rules p.nodes c.right)) p.constraints

-- it is accepted
abbrev pub IsAccepted : Problem → Type 0
IsAccepted p = IsTrue (accepted_by Plain p)

-- it is accepted, and again where parameters are affine
abbrev pub IsDpp : Problem → Type 0
IsDpp p = IsAccepted p × IsTrue (accepted_by Parametrized p)

-- ---- objective and constraints
-- the number that is minimized in place of x
abbrev pub minimized : Sense → ℚ → ℚ
minimized Minimize x = x
minimized Maximize x = neg_ℚ x

-- the minimized objective, and entry j of left minus right, where the nodes have the arrays f
abbrev pub objective_of : Problem → (ℕ → Numbers) → ℚ
objective_of p f = minimized p.sense (f p.objective 0)

abbrev pub gap_of : (ℕ → Numbers) → Constraint → ℕ → ℚ
gap_of f c j = f c.left j -ℚ f c.right j

-- the same at a setting and a point
abbrev pub objective_at : Problem → Setting → Point → ℚ
objective_at p s x = objective_of p (value_at p.nodes s x)

abbrev pub gap_at : Problem → Setting → Point → Constraint → ℕ → ℚ
gap_at p s x c j = gap_of (value_at p.nodes s x) c j

-- left minus right is at most 0, or is 0
abbrev pub Holds : Relation → ℚ → Type 0
Holds AtMost gap = gap ≤ℚ whole (pos 0)
Holds Equal gap = gap ≡ whole (pos 0)

-- x is feasible at s: it is in the domain, and each constraint holds, entry by entry
pub record IsFeasible (p : Problem) (s : Setting) (x : Point) : Type 0 where
  pub domain : IsInDomain p.nodes x
  pub holds : EachRow p (λ k c j. Holds c.relation (gap_at p s x c j))

-- ---- convexity
-- between any two points of a set, with two shares that are at least 0 and sum to 1
abbrev pub BetweenPoints : (Point → Type 0) → (ℚ → ℚ → Point → Point → Type 0) → Type 0
BetweenPoints D P = (t r : ℚ) (x y : Point) → IsNonnegative t → IsNonnegative r → t +ℚ r ≡ whole (pos 1) → D x → D y → P t r x y

-- a convex set; a function that is convex on a set, and one that is affine there
abbrev pub IsConvexSet : (Point → Type 0) → Type 0
IsConvexSet D = BetweenPoints D (λ t r x y. D (combination t r x y))

abbrev pub IsConvexOn : (Point → Type 0) → (Point → ℚ) → Type 0
IsConvexOn D f = BetweenPoints D (λ t r x y. f (combination t r x y) ≤ℚ t *ℚ f x +ℚ r *ℚ f y)

abbrev pub IsAffineOn : (Point → Type 0) → (Point → ℚ) → Type 0
IsAffineOn D f = BetweenPoints D (λ t r x y. f (combination t r x y) ≡ t *ℚ f x +ℚ r *ℚ f y)

-- what left minus right must be
abbrev pub IsBentGap : Relation → (Point → Type 0) → (Point → ℚ) → Type 0
IsBentGap AtMost D gap = IsConvexOn D gap
IsBentGap Equal D gap = IsAffineOn D gap

-- the problem is convex at s: over a convex set it minimizes a convex function, where convex functions are at most 0 and affine ones are 0
pub record IsConvex (p : Problem) (s : Setting) : Type 0 where
  pub domain : IsConvexSet (IsInDomain p.nodes)
  pub objective : IsConvexOn (IsInDomain p.nodes) (objective_at p s)
  pub constraints : EachRow p (λ k c j. IsBentGap c.relation (IsInDomain p.nodes) (λ x. gap_at p s x c j))
