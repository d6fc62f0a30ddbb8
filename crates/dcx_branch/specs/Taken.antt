-- What one node turns out to be, as the code hands it on.
use Rattle.std.specs.Prelude.{◌≡◌, ◌⊎◌, ℕ, ◌+◌, ◌≤◌, ◌<◌, ◌^◌, List, length, map, sum_by, Option, Some, Result, Ok, Err}
use Rattle.dcx_math.specs.Rational.{ℚ}
use Rattle.dcx_math.specs.Sums.{rat_at}
use Rattle.dcx_frac.specs.declared.fraction.Frac.{Frac}
use Rattle.dcx_frac.specs.declared.fraction.Passes.{Passes}
use Rattle.dcx_frac.specs.Frac.{value}
use Rattle.dcx_tree.specs.declared.problem.Problem.{Problem}
use Rattle.dcx_answer.specs.declared.stop.Stop.{Stop}
use Rattle.dcx_answer.specs.declared.stop.Stop.TheVariants as why
use Rattle.dcx_answer.specs.declared.site.Site.TheVariants as sites
use Rattle.dcx_linear.specs.declared.row.UnknownKind.{UnknownKind}
use Rattle.dcx_tab.specs.declared.program.Program as tab
use Rattle.dcx_lp_answer.specs.declared.answer.LpAnswer.{LpAnswer}
use Rattle.dcx_lp_answer.specs.declared.answer.LpStatus.TheVariants as status
use Rattle.dcx_std.specs.Solutions.{HasKinds}
use Rattle.dcx_lp_solve.specs.declared.solving.Solved.{Solved}
use Rattle.dcx_lp_solve.specs.Solved.{IsSolved}
use Rattle.dcx_unknowns.specs.Layout.{constraint_rows}
use Rattle.dcx_postsolve.specs.Numbers.{unknown_numbers}
use Rattle.dcx_graph.specs.Program.{Program}
use Rattle.dcx_graph.specs.Answers.{TellUnknowns}
use Rattle.dcx_branch.specs.declared.bound.BoundAt.{BoundAt}
use Rattle.dcx_answer.specs.declared.branch_tree.BranchNode.{BranchNode}
use Rattle.dcx_branch.specs.declared.node.Node.{Node}
use Rattle.dcx_branch.specs.declared.node.Taken.{Taken}
use Rattle.dcx_branch.specs.declared.node.Taken.TheVariants as taken
use Rattle.dcx_branch.specs.declared.node.NodeStop.{NodeStop}
use Rattle.dcx_branch.specs.declared.node.NodeStop.TheVariants as stops
use Rattle.dcx_branch.specs.Between.{HasRoom}
use Rattle.dcx_branch.specs.Places.{places}
use Rattle.dcx_branch.specs.Rows.{node_rows}
use Rattle.dcx_branch.specs.Leaves.{IsLeafOf, first_passing}
use Rattle.dcx_branch.specs.Run.{Turn, Cut, Found, Divided, TurnsOut, IsLeafTurn, unknowns_in, NodeStops}
use Rattle.dcx_branch.specs.Answers.{IsPointAt}

-- ---- a node whose rows are solved
-- its rows have rows for these bounds, name unknowns of known kinds alone, and are solved so
pub record IsSolvedWith (q : Program Frac) (limit : ℕ) (bs : List BoundAt) (s : Solved) : Type 0 where
  pub solved : IsSolved limit (node_rows q bs) s
  pub known : HasKinds (node_rows q bs)

-- the node has these bounds, and its rows are solved
pub record IsNodeOf (q : Program Frac) (limit : ℕ) (bs : List BoundAt) (n : Node) : Type 0 where
  pub bounds : n.bounds.items ≡ bs
  pub is : IsSolvedWith q limit bs n.solved

-- the answer has notes of the rows of constraints, and of those of bounds, the first of which has the number `first`
pub record HasNotes (p : Problem) (a : LpAnswer) (first : ℕ) (bs : List BoundAt) : Type 0 where
  pub constraints : sum_by constraint_rows p.constraints ≤ length a.rows
  pub rows : first + length bs ≤ length a.rows
  pub few : length a.rows < 2 ^ 32

-- the numbers of the columns tell those of the unknowns, which are those that the columns stand for
pub record TellsUnknowns (kinds : List UnknownKind) (program : tab.Program) (a : LpAnswer) : Type 0 where
  pub columns : TellUnknowns kinds a.columns
  pub same : (u : ℕ) → rat_at (unknown_numbers kinds (map value a.columns)) u ≡ unknowns_in program a u

-- ---- leaves
-- a leaf without a better point
abbrev pub made_leaf : Result BranchNode Stop → Result Taken NodeStop
made_leaf (Ok leaf) = Ok (taken.Leaf leaf)
made_leaf (Err stop) = Err (stops.Stop stop)

-- the node turns out to be so
module _ (p : Problem) (first : ℕ) (bs : List BoundAt) (best : Option ℚ) where
  abbrev pub IsTaken : Solved → Taken → Type 0
  IsTaken s (taken.Leaf leaf) = TurnsOut (places p.variables) best s.program s.answer Cut × IsLeafOf p s.answer first bs leaf
  IsTaken s (taken.Best leaf number point) =
      TurnsOut (places p.variables) best s.program s.answer Found × IsLeafOf p s.answer first bs leaf × (number ≡ s.answer.number) × IsPointAt p (unknowns_in s.program s.answer) point
  IsTaken s (taken.Split place n) = TurnsOut (places p.variables) best s.program s.answer (Divided place n) × HasRoom n

  -- a multiplier of the leaf that it turns out to be passes, the first one
  pub record PassesLeaf (s : Solved) (stop : Stop) : Type 0 where
    pub turn : Turn
    pub turns : TurnsOut (places p.variables) best s.program s.answer turn
    pub leaf : IsLeafTurn turn
    pub row : ℕ
    pub passes : Passes
    pub first_one : first_passing p s.answer first bs ≡ Some (row, passes)
    pub is : stop ≡ why.Wide (sites.Answer row passes)

  -- why it turns out to be nothing
  abbrev pub StopsJudging : Solved → NodeStop → Type 0
  StopsJudging s stops.Unbounded = s.answer.status ≡ status.Unbounded
  StopsJudging s (stops.Stop stop) = (stop ≡ why.Memory) ⊎ PassesLeaf s stop

-- ---- all of one node
module _ (p : Problem) (q : Program Frac) (limit : ℕ) (bs : List BoundAt) (best : Option ℚ) where
  -- the rows are solved, and the answer makes this of the node
  pub record TakenAs (t : Taken) : Type 0 where
    pub solved : Solved
    pub node : IsSolvedWith q limit bs solved
    pub is : IsTaken p (length q.rows) bs best solved t

  -- the rows are solved, and the objective falls for ever
  pub record FallsAt : Type 0 where
    pub solved : Solved
    pub node : IsSolvedWith q limit bs solved
    pub unbounded : solved.answer.status ≡ status.Unbounded

  -- why the node isn't taken
  abbrev pub StopsTaking : NodeStop → Type 0
  StopsTaking stops.Unbounded = FallsAt
  StopsTaking (stops.Stop stop) = (stop ≡ why.Memory) ⊎ NodeStops p q limit bs best stop
