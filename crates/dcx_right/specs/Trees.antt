-- Trees that show what whole points a box has: each leaf by multipliers, each node by its two sides.
use Rattle.std.specs.Prelude.{ℕ, Bool, if◌then◌else◌, ℤ, ◌+ℤ◌, pos, List, All, Option, Some, None}
use Rattle.dcx_math.specs.Rational.{ℚ, whole, ◌+ℚ◌, ◌-ℚ◌, ◌*ℚ◌, ◌≤ℚ◌, ◌<ℚ◌}
use Rattle.dcx_math.specs.Sums.{IsNonnegative, rat_sum_by}
use Rattle.dcx_convex.specs.Nodes.{Setting, Point}
use Rattle.dcx_convex.specs.Answers as answers
use Rattle.dcx_convex.specs.Answers.{Multipliers, AreMultipliers}
use Rattle.dcx_tree.specs.declared.problem.Problem.{Problem}
use Rattle.dcx_tree.specs.Meaning.{convex_problem, IsInDomain, lagrangian}
use Rattle.dcx_right.specs.Points.{IsMarked}
use Rattle.dcx_right.specs.Boxes.{Box, root_box, at_most, at_least}

-- ---- multipliers of bounds
-- a multiplier of the upper or the lower bound of an entry
pub record Weight : Type 0 where
  pub variable : ℕ
  pub entry : ℕ
  pub upper : Bool
  pub weight : ℚ

-- what is told of a bound, and 0 where there is none
abbrev pub over : (ℤ → ℚ) → Option ℤ → ℚ
over f None = whole (pos 0)
over f (Some n) = f n

-- a multiplier times what the number exceeds the upper bound by, or falls short of the lower one
abbrev pub exceeded : Box → Point → Weight → ℚ
exceeded box x w =
    if w.upper
    then over (λ n. w.weight *ℚ (x w.variable w.entry -ℚ whole n)) (box w.variable w.entry).upper
    else over (λ n. w.weight *ℚ (whole n -ℚ x w.variable w.entry)) (box w.variable w.entry).lower

abbrev pub all_exceeded : Box → List Weight → Point → ℚ
all_exceeded box ws x = rat_sum_by (exceeded box x) ws

-- multipliers of constraints and of bounds
pub record Shown : Type 0 where
  pub duals : Multipliers
  pub bounds : List Weight

-- those of `<=` and of bounds are at least 0
pub record MayShow (p : Problem) (m : Shown) : Type 0 where
  pub duals : AreMultipliers (convex_problem p) m.duals
  pub bounds : All (λ w. IsNonnegative w.weight) m.bounds

-- ---- leaves
-- the sum of multipliers times left minus right
abbrev pub penalty : Problem → Setting → Point → Multipliers → ℚ
penalty p s x m = answers.penalty (convex_problem p) s x m

-- the Lagrangian and the multipliers times the bounds are at least v, at every point of the domain
pub record BoundsBelow (p : Problem) (s : Setting) (box : Box) (v : ℚ) (m : Shown) : Type 0 where
  pub multipliers : MayShow p m
  pub bound : (y : Point) → IsInDomain p y → v ≤ℚ lagrangian p s y m.duals +ℚ all_exceeded box m.bounds y

-- the same sum without the objective is at least the gap g, above 0, at every point of the domain: so the box has no feasible point
pub record ShowsEmpty (p : Problem) (s : Setting) (box : Box) (m : Shown) (g : ℚ) : Type 0 where
  pub positive : whole (pos 0) <ℚ g
  pub multipliers : MayShow p m
  pub bound : (y : Point) → IsInDomain p y → g ≤ℚ penalty p s y m.duals +ℚ all_exceeded box m.bounds y

-- ---- trees
-- a leaf that bounds the objective from below; a leaf without feasible points; or an entry of a variable and an integer, with a
-- tree for the points whose entry is at most that, and one for those whose entry is above it
pub data Tree : Type 0 where
  Bound : Shown → Tree
  Empty : Shown → ℚ → Tree
  Split : (variable entry : ℕ) → ℤ → (below above : Tree) → Tree

-- a leaf bounds the objective by v; without a v there is no such leaf
abbrev pub BoundsBy : Problem → Setting → Box → Option ℚ → Shown → Type 0
BoundsBy p s box None m = ⊥
BoundsBy p s box (Some v) m = BoundsBelow p s box v m

-- the tree is one of the box: it shows that no whole point there has an objective below v, and without a v that there is no such point
abbrev pub IsTreeOf : Problem → Setting → Option ℚ → Box → Tree → Type 0
IsTreeOf p s v box (Bound m) = BoundsBy p s box v m
IsTreeOf p s v box (Empty m g) = ShowsEmpty p s box m g
IsTreeOf p s v box (Split k j n below above) = IsMarked p k j × IsTreeOf p s v (at_most box k j n) below × IsTreeOf p s v (at_least box k j (n +ℤ pos 1)) above

-- the same of the box of all whole points
abbrev pub IsTree : Problem → Setting → Option ℚ → Tree → Type 0
IsTree p s v t = IsTreeOf p s v (root_box p) t
