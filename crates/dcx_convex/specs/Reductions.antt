-- A reduced program of a problem: forms over unknowns that stand for the nodes, and rows that the unknowns keep. When it
-- is one, and when an answer is right for it.
use Rattle.std.specs.Prelude.{◌≡◌, ℕ, suc, ◌<◌, Bool, IsTrue, List, [], ◌∷◌, Some, length, map, slice_get, pos}
use Rattle.std.specs.List.{list_all}
use Rattle.dcx_math.specs.Rational.{ℚ, whole, ◌+ℚ◌, ◌-ℚ◌, ◌*ℚ◌, ◌≤ℚ◌, ◌<ℚ◌}
use Rattle.dcx_math.specs.Sums.{IsNonnegative}
use Rattle.dcx_atom.specs.declared.flags.Bend.{Bend}
use Rattle.dcx_atom.specs.Signs.{IsBeyond, shifted}
use Rattle.dcx_convex.specs.Nodes.{Head, Variable, Parameter, Constant, Apply, Node, IsNode, Numbers, Point, Setting, IsOrdered, value_by, value_at, IsInDomain}
use Rattle.dcx_convex.specs.Rules.{Rules, Judgement, is_constant, bends, judgement_at}
use Rattle.dcx_convex.specs.Problems.{Constraint, Problem, IsConstraint, EachRow, objective_of, gap_of, Holds}
use Rattle.dcx_convex.specs.Answers.{Multipliers, AreMultipliers, penalty_of}

-- each argument stands before its node, and the objective and both sides of each constraint are nodes
pub record IsWellFormed (p : Problem) : Type 0 where
  pub ordered : IsOrdered p.nodes
  pub objective : p.objective < length p.nodes
  pub sides : (k : ℕ) (c : Constraint) → IsConstraint p k c → (c.left < length p.nodes) × (c.right < length p.nodes)

-- ---- forms
-- v is beyond the value of the call at the arguments a, as far as the call bends; where the arguments are constant it is that value
pub record IsBeyondCall (rules : Rules) (v value : Numbers) (bent : Bend → Bool) (constant : Bool) : Type 0 where
  pub beyond : (bend : Bend) → IsTrue (bent bend) → (j : ℕ) → IsBeyond bend (value j) (v j)
  pub same : IsTrue constant → v ≡ value

-- v stands for a node whose arguments are judged so and for which the arrays `args` stand
abbrev pub StandsFor : Rules → Setting → Point → Head → List Judgement → List Numbers → Numbers → Type 0
StandsFor rules s x (Variable d) judged args v = v ≡ value_by s x (Variable d) args
StandsFor rules s x (Parameter d) judged args v = v ≡ value_by s x (Parameter d) args
StandsFor rules s x (Constant xs) judged args v = v ≡ value_by s x (Constant xs) args
StandsFor rules s x (Apply c) judged args v =
    IsBeyondCall rules v (value_by s x (Apply c) args) (λ bend. bends rules c.kind bend judged) (list_all (is_constant rules) judged)

-- the arrays f stand for the nodes
abbrev pub StandForNodes : Rules → List Node → Setting → Point → (ℕ → Numbers) → Type 0
StandForNodes rules nodes s x f = (i : ℕ) (n : Node) → IsNode nodes i n → StandsFor rules s x n.head (map (judgement_at rules nodes) n.args) (map f n.args) (f i)

-- ---- reduced programs
-- a number for each unknown
abbrev pub Unknowns : Type 0
Unknowns = ℕ → ℚ

-- all that a reduced program is: which unknowns are at least 0 and which at most 0, the point and the forms of the nodes,
-- and the rows that are at most 0, beside those of the constraints
pub record Reduced : Type 0 where
  pub nonneg : ℕ → Bool
  pub nonpos : ℕ → Bool
  pub point : Unknowns → Point
  pub forms : Unknowns → ℕ → Numbers
  pub rows : List (Unknowns → ℚ)

-- each unknown is of its kind
pub record IsAssignment (r : Reduced) (u : Unknowns) : Type 0 where
  pub nonneg : (n : ℕ) → IsTrue (r.nonneg n) → IsNonnegative (u n)
  pub nonpos : (n : ℕ) → IsTrue (r.nonpos n) → u n ≤ℚ whole (pos 0)

abbrev pub RowsHold : Reduced → Unknowns → Type 0
RowsHold r u = (k : ℕ) (row : Unknowns → ℚ) → slice_get r.rows k ≡ Some row → row u ≤ℚ whole (pos 0)

-- u + k d
abbrev pub further : Unknowns → ℚ → Unknowns → Unknowns
further u k d n = u n +ℚ k *ℚ d n

-- an assignment for a point y of the domain: the rows hold, and the forms are the values
pub record IsLifted (r : Reduced) (p : Problem) (s : Setting) (y : Point) (u : Unknowns) : Type 0 where
  pub assignment : IsAssignment r u
  pub rows : RowsHold r u
  pub same : (i : ℕ) → i < length p.nodes → r.forms u i ≡ value_at p.nodes s y i

-- r is a reduced program of the problem at s, by these rules
pub record IsReduction (rules : Rules) (p : Problem) (s : Setting) (r : Reduced) : Type 0 where
  pub domain : (u : Unknowns) → IsAssignment r u → IsInDomain p.nodes (r.point u)
  pub ray : (u d : Unknowns) (k : ℚ) → r.point (further u k d) ≡ shifted (r.point u) k (r.point d)
  pub sound : (u : Unknowns) → IsAssignment r u → RowsHold r u → StandForNodes rules p.nodes s (r.point u) (r.forms u)
  pub lift : Point → Unknowns
  pub lifts : (y : Point) → IsInDomain p.nodes y → IsLifted r p s y (lift y)

-- ---- answers to a reduced program
-- an assignment that keeps all rows, those of the constraints too
pub record Solves (p : Problem) (r : Reduced) (u : Unknowns) : Type 0 where
  pub assignment : IsAssignment r u
  pub rows : RowsHold r u
  pub holds : EachRow p (λ k c j. Holds c.relation (gap_of (r.forms u) c j))

-- the sum of weights times rows
abbrev pub rows_weighed : List (Unknowns → ℚ) → (ℕ → ℚ) → Unknowns → ℚ
rows_weighed [] w u = whole (pos 0)
rows_weighed (row ∷ rows) w u = w 0 *ℚ row u +ℚ rows_weighed rows (λ k. w (suc k)) u

-- the constraints times their multipliers and the rows times their weights
abbrev pub program_penalty : Problem → Reduced → Multipliers → (ℕ → ℚ) → Unknowns → ℚ
program_penalty p r m w u = penalty_of p m (r.forms u) +ℚ rows_weighed r.rows w u

-- multipliers m of the constraints and w of the rows
pub record AreRowMultipliers (p : Problem) (m : Multipliers) (w : ℕ → ℚ) : Type 0 where
  pub constraints : AreMultipliers p m
  pub rows : (k : ℕ) → IsNonnegative (w k)

pub record IsRightOptimal (p : Problem) (r : Reduced) (v : ℚ) (u : Unknowns) (m : Multipliers) (w : ℕ → ℚ) : Type 0 where
  pub solves : Solves p r u
  pub value : objective_of p (r.forms u) ≡ v
  pub multipliers : AreRowMultipliers p m w
  pub bound : (t : Unknowns) → IsAssignment r t → v ≤ℚ objective_of p (r.forms t) +ℚ program_penalty p r m w t

pub record IsRightInfeasible (p : Problem) (r : Reduced) (m : Multipliers) (w : ℕ → ℚ) (g : ℚ) : Type 0 where
  pub positive : whole (pos 0) <ℚ g
  pub multipliers : AreRowMultipliers p m w
  pub bound : (t : Unknowns) → IsAssignment r t → g ≤ℚ program_penalty p r m w t

pub record IsRightUnbounded (p : Problem) (r : Reduced) (u d : Unknowns) (b e : ℚ) : Type 0 where
  pub positive : whole (pos 0) <ℚ e
  pub solves : (k : ℚ) → IsNonnegative k → Solves p r (further u k d)
  pub falls : (k : ℚ) → IsNonnegative k → objective_of p (r.forms (further u k d)) ≤ℚ b -ℚ k *ℚ e
