-- What the pass shows: the total, and what reaches the variables, bound the coefficients at the start from below, at every point.
use Rattle.std.specs.Prelude.{◌≡◌, ◌⊎◌, ℕ, ◌+◌, List, [], length, Option, Some, None, IsSome, Ok, slice_index, true, false, All, pos}
use Rattle.dcx_math.specs.Rational.{ℚ, ◌+ℚ◌, ◌≤ℚ◌, whole, ◌<ℚ◌}
use Rattle.dcx_math.specs.Sums.{rat_sum_below, rat_sum_by}
use Rattle.dcx_frac.specs.declared.fraction.Frac.{Frac}
use Rattle.dcx_frac.specs.Frac.{value}
use Rattle.dcx_shape.specs.Sides.{entries_of}
use Rattle.dcx_atom.specs.declared.array.Array.{Array}
use Rattle.dcx_atom.specs.Arrays.{number_at, numbers_of}
use Rattle.dcx_affine.specs.declared.pairing.Pairing.{Pairing}
use Rattle.dcx_affine.specs.declared.pairing.Pairing.TheVariants.{Times, MatTimes, Over}
use Rattle.dcx_arena.specs.Nodes.{AreNodes, IsNode, sides_at, entries_in, call_at}
use Rattle.dcx_convex.specs.Nodes.{Numbers, Setting, Point, value_at}
use Rattle.dcx_convex.specs.Certificates.{times, MayReach, HasSides}
use Rattle.dcx_call.specs.declared.call.Call.{Call}
use Rattle.dcx_call.specs.declared.call.Call.TheVariants as calls
use Rattle.dcx_call.specs.Calls.{shape_of}
use Rattle.dcx_tree.specs.Nodes.{Names, Node, convex_nodes, variable_attribute}
use Rattle.dcx_convex.specs.Answers.{lagrangian_of, penalty_of}
use Rattle.dcx_tree.specs.declared.problem.Problem.{Problem}
use Rattle.dcx_tree.specs.Meaning.{convex_problem, names_in, IsInDomain, IsFeasible, objective_at, IsOptimal, IsInfeasible}
use Rattle.dcx_tree.specs.Values.{array_at}
use Rattle.dcx_shape.specs.Shape.{sides_of}
use Rattle.dcx_call.specs.declared.attribute.Variable.{Variable}
use Rattle.dcx_convex.specs.Answers as meant
use Rattle.dcx_cert_collect.specs.Multipliers.{start_table, AreDuals}
use Rattle.dcx_cert_collect.specs.declared.collected.Reached.{Reached}
use Rattle.dcx_cert_collect.specs.Starts.{start_of}
use Rattle.dcx_cert_collect.specs.Pass.{begin, pass_down, HaveFractions}

-- the coefficients of node i in a list of all
abbrev pub coefficients_of : List Node → List Frac → ℕ → Numbers
coefficients_of nodes table i e = number_at table (start_of nodes i + e)

-- coefficients times the numbers of the nodes
abbrev pub table_times : List Node → List Frac → (ℕ → Numbers) → ℚ
table_times nodes table f = rat_sum_below (length nodes) (λ i. times (entries_of (sides_at nodes i)) (coefficients_of nodes table i) (f i))

-- what reaches the variables times their numbers
abbrev pub reached_times : List Reached → (ℕ → Numbers) → ℚ
reached_times reached f = rat_sum_by (λ r. times (length r.coefficients) (number_at r.coefficients) (f r.node.0)) reached

-- the value of a side is known that multiplies, or divides
abbrev pub HasKnownSide : Pairing → (left right : Option Array) → Type 0
HasKnownSide Times left right = IsSome left ⊎ IsSome right
HasKnownSide MatTimes left right = IsSome left ⊎ IsSome right
HasKnownSide Over left right = IsSome right

-- a call whose value isn't known may hand its coefficients on: it is no number, and one side of a product, and the divisor of a
-- quotient, is known
abbrev pub MayHandOn : List (Option Array) → Call → List ℕ → Type 0
MayHandOn values (calls.Variable v) args = Unit {0}
MayHandOn values (calls.Parameter p) args = ⊥
MayHandOn values (calls.Constant x) args = ⊥
MayHandOn values (calls.Atom m) args = Unit {0}
MayHandOn values (calls.Linear l) args = Unit {0}
MayHandOn values (calls.Pairing p) args = HasKnownSide p (array_at values (slice_index args 0)) (array_at values (slice_index args 1))

-- the values that are known are those of their nodes at every point, and the other nodes may hand on
pub record AreKnown (names : Names) (nodes : List Node) (s : Setting) (values : List (Option Array)) : Type 0 where
  pub known : (i : ℕ) (x : Array) → array_at values i ≡ Some x → (y : Point) (j : ℕ) → number_at x.entries j ≡ value_at (convex_nodes names nodes) s y i j
  pub others : (i : ℕ) (n : Node) → IsNode nodes i n → array_at values i ≡ None → MayHandOn values n.call n.args

-- at every point of any numbers the total and what reaches the variables are at most the coefficients at the start times the values
abbrev pub CollectedIsABound : Type 0
CollectedIsABound = (names : Names) (nodes : List Node) (s : Setting) (values : List (Option Array)) (weights : ℕ → List Frac) → AreNodes shape_of nodes → AreKnown names nodes s values
    → HaveFractions nodes values weights
    → (table : List Frac) → length table ≡ entries_in nodes → (reached : List Reached) (total : Frac) →
    pass_down nodes values weights (length nodes) (begin table) ≡ Ok (record { below = []; reached = reached; total = total }) →
    (y : Point) → value total +ℚ reached_times reached (value_at (convex_nodes names nodes) s y) ≤ℚ table_times nodes table (value_at (convex_nodes names nodes) s y)

-- the coefficients at the start times the numbers of the nodes are the Lagrangian, or without the objective the penalty
pub record StartIsLagrangian (p : Problem) (duals : List Array) : Type 0 where
  pub lagrangian : (table : List Frac) → start_table true p duals ≡ Ok table → (f : ℕ → Numbers) → table_times p.tree table f ≡ lagrangian_of (convex_problem p) (numbers_of duals) f
  pub penalty : (table : List Frac) → start_table false p duals ≡ Ok table → (f : ℕ → Numbers) → table_times p.tree table f ≡ penalty_of (convex_problem p) (numbers_of duals) f

abbrev pub StartsAreLagrangians : Type 0
StartsAreLagrangians = (p : Problem) (duals : List Array) → AreDuals p duals → StartIsLagrangian p duals

-- what reaches a variable may reach it, by the test for its attribute
abbrev pub MayReachIn : List Node → Reached → Type 0
MayReachIn nodes r = (v : Variable) → call_at nodes r.node.0 ≡ Some (calls.Variable v) → MayReach (variable_attribute v.whole v.attribute) (sides_of v.shape) (number_at r.coefficients)

-- symmetric variables are square
abbrev pub AreSquareIn : List Node → Type 0
AreSquareIn nodes = (i : ℕ) (v : Variable) → call_at nodes i ≡ Some (calls.Variable v) → HasSides (variable_attribute v.whole v.attribute) (sides_of v.shape)

-- where all that reaches the variables may, the total is at most the Lagrangian, or the penalty, at every point of the domain
pub record TotalIsABound (p : Problem) (s : Setting) (values : List (Option Array)) (weights : ℕ → List Frac) (duals : List Array) : Type 0 where
  pub lagrangian : (table : List Frac) → start_table true p duals ≡ Ok table → (reached : List Reached) (total : Frac) →
      pass_down p.tree values weights (length p.tree) (begin table) ≡ Ok (record { below = []; reached = reached; total = total }) → All (MayReachIn p.tree) reached →
      (y : Point) → IsInDomain p y → value total ≤ℚ meant.lagrangian (convex_problem p) s y (numbers_of duals)
  pub penalty : (table : List Frac) → start_table false p duals ≡ Ok table → (reached : List Reached) (total : Frac) →
      pass_down p.tree values weights (length p.tree) (begin table) ≡ Ok (record { below = []; reached = reached; total = total }) → All (MayReachIn p.tree) reached →
      (y : Point) → IsInDomain p y → value total ≤ℚ meant.penalty (convex_problem p) s y (numbers_of duals)

abbrev pub TotalsAreBounds : Type 0
TotalsAreBounds = (p : Problem) (s : Setting) (values : List (Option Array)) (weights : ℕ → List Frac) (duals : List Array) → AreKnown (names_in p) p.tree s values
    → HaveFractions p.tree values weights → AreSquareIn p.tree
    → AreDuals p duals → TotalIsABound p s values weights duals

-- what such a total shows: a feasible point whose value is at most the total is optimal; and where the total without the objective
-- is at least a gap above 0, no point is feasible
pub record TotalShowsAnswers (p : Problem) (s : Setting) (values : List (Option Array)) (weights : ℕ → List Frac) (duals : List Array) : Type 0 where
  pub optimal : (table : List Frac) → start_table true p duals ≡ Ok table → (reached : List Reached) (total : Frac) →
      pass_down p.tree values weights (length p.tree) (begin table) ≡ Ok (record { below = []; reached = reached; total = total }) → All (MayReachIn p.tree) reached →
      (v : ℚ) (x : Point) → IsFeasible p s x → objective_at p s x ≡ v → meant.AreMultipliers (convex_problem p) (numbers_of duals) → v ≤ℚ value total → IsOptimal p s v x (numbers_of duals)
  pub infeasible : (table : List Frac) → start_table false p duals ≡ Ok table → (reached : List Reached) (total : Frac) →
      pass_down p.tree values weights (length p.tree) (begin table) ≡ Ok (record { below = []; reached = reached; total = total }) → All (MayReachIn p.tree) reached →
      (gap : ℚ) → whole (pos 0) <ℚ gap → meant.AreMultipliers (convex_problem p) (numbers_of duals) → gap ≤ℚ value total → IsInfeasible p s (numbers_of duals) gap

abbrev pub TotalsShowAnswers : Type 0
TotalsShowAnswers = (p : Problem) (s : Setting) (values : List (Option Array)) (weights : ℕ → List Frac) (duals : List Array) → AreKnown (names_in p) p.tree s values
    → HaveFractions p.tree values weights → AreSquareIn p.tree
    → AreDuals p duals → TotalShowsAnswers p s values weights duals
