-- What is known of the boxes that are open, and of the tree so far.
use Rattle.std.proofs.Common.{◌≡◌, ◌⊎◌, ℕ, List, [], ◌∷◌, ◌++◌, Option, Some, None, slice_get, pos}
use Rattle.std.specs.Prelude.{⊤, ℤ, ◌≤ℤ◌}
use Rattle.dcx_math.specs.Rational.{ℚ, ◌≤ℚ◌}
use Rattle.dcx_frac.specs.declared.fraction.Frac.{Frac}
use Rattle.dcx_call.specs.declared.attribute.Whole.TheVariants.{Boolean}
use Rattle.dcx_point.specs.Pairs.{Pairs}
use Rattle.dcx_convex.specs.Nodes.{Setting}
use Rattle.dcx_tree.specs.declared.problem.Problem.{Problem}
use Rattle.dcx_tree.specs.Meaning.{point_of, objective_at}
use Rattle.dcx_linear.specs.FormTerms.{Unknowns}
use Rattle.dcx_linear.specs.Rows.{IsSolution}
use Rattle.dcx_std.specs.Solutions.{linear_program}
use Rattle.dcx_graph.specs.Program.{Program}
use Rattle.dcx_graph.specs.Answers.{rows_of}
use Rattle.dcx_right.specs.Points.{IsWholePoint}
use Rattle.dcx_right.specs.Boxes.{Box, root_box}
use Rattle.dcx_right.specs.Trees.{Tree, IsTreeOf}
use Rattle.dcx_right.specs.WholeAnswers.{Lists, Shows}
use Rattle.dcx_answer.specs.declared.branch_tree.BranchNode.{BranchNode}
use Rattle.dcx_branch.specs.declared.place.Place.{Place}
use Rattle.dcx_branch.specs.Places.{places}
use Rattle.dcx_branch.specs.Nodes.{node_program}
use Rattle.dcx_branch.specs.Run.{Best, bounds_in}
use Rattle.dcx_branch.specs.Answers.{IsPointAt}

-- ---- the tree so far
-- a value is at most the best one; without one nothing is at most anything but where there is no best one
abbrev pub IsBelow : Option ℚ → Option ℚ → Type 0
IsBelow w None = ⊤
IsBelow None (Some b) = ⊥
IsBelow (Some c) (Some b) = c ≤ℚ b

-- the nodes of trees of these boxes, one after another, with this value
pub data Fills (p : Problem) (s : Setting) (w : Option ℚ) : List Box → List BranchNode → Type 0 where
  no_boxes : Fills p s w [] []
  one_box : (box : Box) (rest : List Box) (listed items : List BranchNode) (t : Tree) → Lists listed t → IsTreeOf p s w box t → Fills p s w rest items → Fills p s w (box ∷ rest) (listed ++ items)

-- the nodes so far, and then those of trees of the open boxes with a value that is at most the best one, show that value
abbrev pub Completes : Problem → Setting → List BranchNode → List Box → Option ℚ → Type 0
Completes p s listed boxes best = (w : Option ℚ) → IsBelow w best → (items : List BranchNode) → Fills p s w boxes items → Shows p s w (listed ++ items)

-- ---- the boxes
-- something is an item of a list
abbrev pub IsIn : {A : Type 0} → A → List A → Type 0
IsIn x xs = (i : ℕ) × (slice_get xs i ≡ Some x)

-- boolean entries are at most 1 in the box
abbrev pub IsNested : Problem → Box → Type 0
IsNested p box = (q : Place) → IsIn q (places p.variables) → q.whole ≡ Boolean → (n : ℤ) × ((box q.variable q.entry).upper ≡ Some n) × (n ≤ℤ pos 1)

-- solutions of the rows of the root have an objective of at least so much
pub record HasFloor (p : Problem) (q : Program Frac) : Type 0 where
  pub least : ℚ
  pub bound : (u : Unknowns) → IsSolution (node_program (linear_program (rows_of q)) (bounds_in p (root_box p))) u → least ≤ℚ (linear_program (rows_of q)).objective u

-- the root comes next, or no box is open, or the root is solved
abbrev pub IsPlaced : Problem → Program Frac → List Box → Type 0
IsPlaced p q boxes = (boxes ≡ root_box p ∷ []) ⊎ ((boxes ≡ []) ⊎ HasFloor p q)

-- ---- the best point
-- each point with the arrays of its unknowns is a whole point with an objective of at most its value
pub record IsWholeBest (p : Problem) (s : Setting) (b : Best) : Type 0 where
  pub whole : (point : Pairs) → IsPointAt p b.unknowns point → IsWholePoint p s (point_of p point)
  pub low : (point : Pairs) → IsPointAt p b.unknowns point → objective_at p s (point_of p point) ≤ℚ b.value

abbrev pub HoldsWhole : Problem → Setting → Option Best → Type 0
HoldsWhole p s None = ⊤
HoldsWhole p s (Some b) = IsWholeBest p s b
