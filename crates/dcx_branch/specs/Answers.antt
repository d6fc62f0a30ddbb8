-- What branch and bound answers at a setting, or what stops it.
use Rattle.std.specs.Prelude.{◌≡◌, ◌≢◌, ⊤, ℕ, ◌<◌, ◌≤◌, List, Some, None, Result, Ok, Err}
use Rattle.dcx_frac.specs.declared.fraction.Frac.{Frac}
use Rattle.dcx_frac.specs.Frac.{value}
use Rattle.dcx_point.specs.Pairs.{Pairs}
use Rattle.dcx_convex.specs.Nodes.{Setting}
use Rattle.dcx_tree.specs.declared.problem.Problem.{Problem}
use Rattle.dcx_linear.specs.FormTerms.{Unknowns}
use Rattle.dcx_postsolve.specs.Points.{numbered, IsPointOf}
use Rattle.dcx_graph.specs.Program.{Program}
use Rattle.dcx_graph.specs.Answers.{IsReducedAt, IsSamePoint}
use Rattle.dcx_right.specs.WholeAnswers.{IsRightFor}
use Rattle.dcx_answer.specs.declared.branch_tree.BranchNode.{BranchNode}
use Rattle.dcx_answer.specs.declared.whole_answer.WholeAnswer.{WholeAnswer}
use Rattle.dcx_answer.specs.declared.whole_answer.WholeAnswer.TheVariants.{Optimal, Infeasible}
use Rattle.dcx_answer.specs.declared.whole_answer.BranchStop.{BranchStop}
use Rattle.dcx_answer.specs.declared.whole_answer.BranchStop.TheVariants.{RelaxationUnbounded, NodeLimit, Node, Memory}
use Rattle.dcx_branch.specs.Run.{Best, EndsWith, PassesNodes, FallsAtRoot, StopsAtNode}

-- ---- in words of the run
-- the point has the arrays of these unknowns
pub record IsPointAt (p : Problem) (u : Unknowns) (point : Pairs) : Type 0 where
  pub numbers : List Frac
  pub are : (n : ℕ) → numbered numbers n ≡ u n
  pub of_variables : IsPointOf p.variables numbers point

-- the run ends with this point and this tree
pub record EndsAt (p : Problem) (q : Program Frac) (limit : ℕ) (number : Frac) (point : Pairs) (tree : List BranchNode) (nodes : ℕ) : Type 0 where
  pub best : Best
  pub ends : EndsWith p q limit (Some best) nodes tree
  pub number_is : value number ≡ best.value
  pub point_is : IsPointAt p best.unknowns point

-- the run of nodes ends so, or stops so, where so many nodes are allowed; want of memory is free
abbrev pub IsEndOf : Problem → Program Frac → ℕ → ℕ → Result WholeAnswer BranchStop → Type 0
IsEndOf p q limit allowed (Ok (Optimal number point tree nodes)) = (nodes ≤ allowed) × EndsAt p q limit number point tree nodes
IsEndOf p q limit allowed (Ok (Infeasible tree nodes)) = (nodes ≤ allowed) × EndsWith p q limit None nodes tree
IsEndOf p q limit allowed (Err RelaxationUnbounded) = (0 < allowed) × FallsAtRoot p q limit
IsEndOf p q limit allowed (Err (NodeLimit count)) = (count ≡ allowed) × PassesNodes p q limit allowed
IsEndOf p q limit allowed (Err (Node node stop)) = (node ≤ allowed) × StopsAtNode p q limit node stop
IsEndOf p q limit allowed (Err Memory) = ⊤

-- ---- right
-- a run over a reduced program of a problem at a setting has the right end for the problem there: a whole optimum or that there is none,
-- with a tree that shows it
abbrev pub RunsAreRight : Type 0
RunsAreRight = (p : Problem) (s : Setting) (q : Program Frac) (limit allowed : ℕ) (a : WholeAnswer) → IsReducedAt p s q → IsEndOf p q limit allowed (Ok a) → IsRightFor p s a

-- ---- one end
abbrev pub IsSameAnswer : Problem → WholeAnswer → WholeAnswer → Type 0
IsSameAnswer p (Optimal number point tree nodes) (Optimal other place shown count) = (value number ≡ value other) × IsSamePoint p point place × (nodes ≡ count)
IsSameAnswer p (Optimal number point tree nodes) (Infeasible shown count) = ⊥
IsSameAnswer p (Infeasible tree nodes) (Optimal other place shown count) = ⊥
IsSameAnswer p (Infeasible tree nodes) (Infeasible shown count) = nodes ≡ count

abbrev pub AreOneEnd : Problem → Result WholeAnswer BranchStop → Result WholeAnswer BranchStop → Type 0
AreOneEnd p (Ok a) (Ok b) = IsSameAnswer p a b
AreOneEnd p (Err stop) (Err other) = stop ≢ Memory → other ≢ Memory → stop ≡ other
AreOneEnd p (Ok a) (Err stop) = stop ≡ Memory
AreOneEnd p (Err stop) (Ok a) = stop ≡ Memory

-- a run has one end: one value, one point, but for what its arrays hold past their ends, and one number of nodes, or one stop
abbrev pub RunsAreOne : Type 0
RunsAreOne = (p : Problem) (q : Program Frac) (limit allowed : ℕ) (r s : Result WholeAnswer BranchStop) → IsEndOf p q limit allowed r → IsEndOf p q limit allowed s → AreOneEnd p r s
