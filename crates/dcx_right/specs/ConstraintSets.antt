-- Sets of constraints in words of points: which points keep them all, when no point does, and what is left of all constraints
-- when each that isn't needed is left out.
use Rattle.std.specs.Prelude.{ℕ, ◌<◌, Bool, true, ◌&&◌, not, IsTrue, ◌↔◌, nat_lt, nat_eq, if◌then◌else◌, List, length}
use Rattle.std.specs.List.{list_any}
use Rattle.dcx_convex.specs.Nodes.{Setting, Point}
use Rattle.dcx_convex.specs.Problems.{Constraint, IsConstraint, gap_at, Holds}
use Rattle.dcx_tree.specs.declared.problem.Problem.{Problem}
use Rattle.dcx_tree.specs.Meaning.{convex_problem, IsInDomain}

-- a set of constraints, by their numbers, which count from 0
abbrev pub ConstraintSet : Type 0
ConstraintSet = ℕ → Bool

abbrev pub every_constraint : ConstraintSet
every_constraint k = true

-- the constraints with these numbers
abbrev pub set_of : List ℕ → ConstraintSet
set_of members k = list_any (nat_eq k) members

-- the set without constraint k
abbrev pub without : ConstraintSet → ℕ → ConstraintSet
without set k i = set i && not (nat_eq i k)

-- ---- points
-- the point keeps constraint k, entry by entry
abbrev pub Keeps : Problem → Setting → Point → ℕ → Type 0
Keeps p s x k = (c : Constraint) → IsConstraint (convex_problem p) k c → (j : ℕ) → j < c.size → Holds c.relation (gap_at (convex_problem p) s x c j)

-- it is in the domain, and keeps each constraint of the set
pub record KeepsSet (p : Problem) (s : Setting) (set : ConstraintSet) (x : Point) : Type 0 where
  pub domain : IsInDomain p x
  pub keeps : (k : ℕ) → IsTrue (set k) → Keeps p s x k

-- no point of the domain keeps each constraint of the set
abbrev pub IsImpossible : Problem → Setting → ConstraintSet → Type 0
IsImpossible p s set = (x : Point) → ¬ KeepsSet p s set x

-- the set is impossible, and is not without any one of its constraints
pub record IsMinimal (p : Problem) (s : Setting) (set : ConstraintSet) : Type 0 where
  pub impossible : IsImpossible p s set
  pub needed : (k : ℕ) → k < length p.constraints → IsTrue (set k) → ¬ IsImpossible p s (without set k)

-- ---- the filter's set
-- what is left beside constraint k when it is tried: what stayed of the constraints before it, and all that follow it
abbrev pub left_beside : ConstraintSet → ℕ → ConstraintSet
left_beside set k i = if nat_lt i k then set i else nat_lt k i

-- of the first n constraints these stay: each is left out for good exactly where those that are left beside it are still impossible
abbrev pub StayBelow : Problem → Setting → ℕ → ConstraintSet → Type 0
StayBelow p s n set = (k : ℕ) → k < n → IsTrue (set k) ↔ ¬ IsImpossible p s (left_beside set k)

-- all constraints together are impossible, and these stay when they are gone through in order
pub record IsFilterSet (p : Problem) (s : Setting) (set : ConstraintSet) : Type 0 where
  pub impossible : IsImpossible p s every_constraint
  pub stay : StayBelow p s (length p.constraints) set
