-- What the answer of a node's linear program shows of the node's box: a leaf, and where it is optimal a feasible point of the box.
use Rattle.std.specs.Prelude.{◌≡◌, ℕ, suc, Bool, IsTrue, if◌then◌else◌, List, [], ◌∷◌, ◌++◌, length, map, Some, slice_get, ℤ, pos}
use Rattle.dcx_math.specs.Rational.{ℚ, whole, ◌-ℚ◌, ◌≤ℚ◌}
use Rattle.dcx_convex.specs.Nodes.{Setting}
use Rattle.dcx_convex.specs.Rules.{Rules}
use Rattle.dcx_convex.specs.Problems.{accepted_by}
use Rattle.dcx_call.specs.declared.attribute.Variable.{Variable}
use Rattle.dcx_tree.specs.declared.problem.Problem.{Problem}
use Rattle.dcx_tree.specs.Meaning.{convex_problem, Fits, IsFeasible, objective_at}
use Rattle.dcx_linear.specs.FormTerms.{Unknowns}
use Rattle.dcx_linear.specs.Rows.{LinearProgram, IsOptimal, IsInfeasible}
use Rattle.dcx_unknowns.specs.Unknowns.{first_unknown, unknown_from, point_at}
use Rattle.dcx_postsolve.specs.Programs.{bound_row, multipliers_of}
use Rattle.dcx_graph.specs.AsLinear.{IsReductionAt}
use Rattle.dcx_right.specs.Points.{HasEntry}
use Rattle.dcx_right.specs.Boxes.{Box}
use Rattle.dcx_right.specs.Trees.{Weight, BoundsBelow, ShowsEmpty}
use Rattle.dcx_branch.specs.declared.bound.BoundAt.{BoundAt}

-- ---- bounds as rows
-- what an entry exceeds its upper bound by, or falls short of its lower one
abbrev pub excess : Bool → ℤ → ℚ → ℚ
excess upper limit x = if upper then x -ℚ whole limit else whole limit -ℚ x

-- the same at unknowns
abbrev pub bound_number : BoundAt → Unknowns → ℚ
bound_number b u = excess b.upper b.limit (u b.place.unknown)

-- the linear program with a row for each bound after its own
abbrev pub node_program : LinearProgram → List BoundAt → LinearProgram
node_program l bs = record { kinds = l.kinds; rows = l.rows ++ map bound_row (map bound_number bs); objective = l.objective }

-- ---- the bounds of a box
-- the entry is there, this is its unknown, and the box has this bound of it
pub record IsBoundOf (p : Problem) (box : Box) (b : BoundAt) : Type 0 where
  pub variable : Variable
  pub entry : HasEntry p b.place.variable b.place.entry variable
  pub unknown : unknown_from (first_unknown p.variables b.place.variable) variable b.place.entry ≡ Some b.place.unknown
  pub limit : (if b.upper then (box b.place.variable b.place.entry).upper else (box b.place.variable b.place.entry).lower) ≡ Some b.limit

-- the multipliers of these bounds, the first of whose rows has the number i
abbrev pub weights_from : (ℕ → ℚ) → ℕ → List BoundAt → List Weight
weights_from m i [] = []
weights_from m i (b ∷ bs) = record { variable = b.place.variable; entry = b.place.entry; upper = b.upper; weight = m i } ∷ weights_from m (suc i) bs

-- ---- the statement
-- where the rules accept the problem, the setting fits and l is the linear program of a reduced program there, answers of the program
-- with rows for bounds of a box are leaves of the box
pub record NodesShow (p : Problem) (s : Setting) (l : LinearProgram) (box : Box) (bs : List BoundAt) : Type 0 where
  pub bound : (v : ℚ) (x : Unknowns) (m : ℕ → ℚ) → IsOptimal (node_program l bs) v x m →
      BoundsBelow p s box v (record { duals = multipliers_of (convex_problem p) m; bounds = weights_from m (length l.rows) bs })
  pub empty : (g : ℚ) (m : ℕ → ℚ) → IsInfeasible (node_program l bs) g m →
      ShowsEmpty p s box (record { duals = multipliers_of (convex_problem p) m; bounds = weights_from m (length l.rows) bs }) g
  pub feasible : (v : ℚ) (x : Unknowns) (m : ℕ → ℚ) → IsOptimal (node_program l bs) v x m → IsFeasible p s (point_at p.variables x)
  pub objective : (v : ℚ) (x : Unknowns) (m : ℕ → ℚ) → IsOptimal (node_program l bs) v x m → objective_at p s (point_at p.variables x) ≤ℚ v
  pub kept : (v : ℚ) (x : Unknowns) (m : ℕ → ℚ) → IsOptimal (node_program l bs) v x m → (i : ℕ) (b : BoundAt) → slice_get bs i ≡ Some b →
      excess b.upper b.limit (point_at p.variables x b.place.variable b.place.entry) ≤ℚ whole (pos 0)

abbrev pub AnswersAreLeaves : Type 0
AnswersAreLeaves = (rules : Rules) (p : Problem) (s : Setting) (l : LinearProgram) (box : Box) (bs : List BoundAt) → IsTrue (accepted_by rules (convex_problem p)) → Fits p s
    → IsReductionAt rules p s l
    → ((i : ℕ) (b : BoundAt) → slice_get bs i ≡ Some b → IsBoundOf p box b) → NodesShow p s l box bs
