-- What is kept while nodes are taken: the run so far with its tree, and the best point.
use Rattle.std.specs.Prelude.{◌≡◌, ⊤, ℕ, suc, ◌+◌, Bool, true, false, List, [], ◌∷◌, ◌++◌, Option, Some, None, ℤ}
use Rattle.dcx_math.specs.Rational.{ℚ}
use Rattle.dcx_frac.specs.declared.fraction.Frac.{Frac}
use Rattle.dcx_frac.specs.Frac.{value}
use Rattle.dcx_tree.specs.declared.problem.Problem.{Problem}
use Rattle.dcx_answer.specs.declared.stop.Stop.{Stop}
use Rattle.dcx_answer.specs.declared.stop.Stop.TheVariants as why
use Rattle.dcx_graph.specs.Program.{Program}
use Rattle.dcx_right.specs.Boxes.{Box, root_box}
use Rattle.dcx_branch.specs.declared.place.Place.{Place}
use Rattle.dcx_branch.specs.declared.side.Side.{Side}
use Rattle.dcx_answer.specs.declared.branch_tree.BranchNode.{BranchNode}
use Rattle.dcx_answer.specs.declared.branch_tree.BranchNode.TheVariants.{Split}
use Rattle.dcx_branch.specs.declared.node.Taken.{Taken}
use Rattle.dcx_branch.specs.declared.node.Taken.TheVariants as taken
use Rattle.dcx_answer.specs.declared.whole_answer.WholeAnswer.{WholeAnswer}
use Rattle.dcx_answer.specs.declared.whole_answer.WholeAnswer.TheVariants.{Optimal, Infeasible}
use Rattle.dcx_answer.specs.declared.whole_answer.BranchStop.{BranchStop}
use Rattle.dcx_answer.specs.declared.whole_answer.BranchStop.TheVariants.{RelaxationUnbounded, NodeLimit, Node, Memory}
use Rattle.dcx_branch.specs.declared.search.Best.{Best}
use Rattle.dcx_branch.specs.declared.search.Search.{Search}
use Rattle.dcx_branch.specs.Sides.{box_of, open_sides, IsNextSide}
use Rattle.dcx_branch.specs.Between.{HasRoom}
use Rattle.dcx_branch.specs.Run as run
use Rattle.dcx_branch.specs.Run.{Takes, FallsAtRoot, StopsAtNode}
use Rattle.dcx_branch.specs.Answers.{IsPointAt}

-- ---- the best point
-- it has the value of the run's best point, and the arrays of its unknowns
pub record IsBestOf (p : Problem) (b : run.Best) (f : Best) : Type 0 where
  pub number_is : value f.value ≡ b.value
  pub point_is : IsPointAt p b.unknowns f.point

abbrev pub HoldsBest : Problem → Option run.Best → Option Best → Type 0
HoldsBest p None None = ⊤
HoldsBest p None (Some f) = ⊥
HoldsBest p (Some b) None = ⊥
HoldsBest p (Some b) (Some f) = IsBestOf p b f

-- ---- the search
module _ (p : Problem) (q : Program Frac) (limit : ℕ) where
  -- with these boxes open
  pub record IsUnderWay (boxes : List Box) (search : Search) : Type 0 where
    pub best : Option run.Best
    pub comes : Takes p q limit (record { open_boxes = boxes; best = best; taken = search.taken }) search.nodes.items
    pub held : HoldsBest p best search.best

  -- the sides lead to the box that is next
  abbrev pub IsAt : Search → Type 0
  IsAt search = IsUnderWay (box_of (root_box p) search.sides.items ∷ open_sides (root_box p) search.sides.items) search

  -- no box is open
  abbrev pub IsDone : Search → Type 0
  IsDone search = IsUnderWay [] search

  -- there is a box that is next, or none is open
  abbrev pub IsAtOrDone : Bool → Search → Type 0
  IsAtOrDone true search = IsAt search
  IsAtOrDone false search = IsDone search

-- ---- one node more
-- the node that is listed
abbrev pub node_of : Taken → BranchNode
node_of (taken.Leaf leaf) = leaf
node_of (taken.Best leaf number point) = leaf
node_of (taken.Split place n) = Split place.variable place.entry n

-- the best point after it
abbrev pub best_after : Option Best → Taken → Option Best
best_after best (taken.Leaf leaf) = best
best_after best (taken.Best leaf number point) = Some (record { value = number; point = point })
best_after best (taken.Split place n) = best

-- the lower side of a split is added to the sides
pub record AddsSide (place : Place) (n : ℤ) (old new : List Side) : Type 0 where
  pub side : Side
  pub place_is : side.place ≡ place
  pub limit_is : side.limit ≡ n
  pub below : side.above ≡ false
  pub added : new ≡ old ++ side ∷ []

-- the sides after it
abbrev pub EntersSides : List Side → Taken → Bool → List Side → Type 0
EntersSides old (taken.Leaf leaf) more new = IsNextSide old more new
EntersSides old (taken.Best leaf number point) more new = IsNextSide old more new
EntersSides old (taken.Split place n) more new = (more ≡ true) × AddsSide place n old new

pub record Enters (old : Search) (t : Taken) (more : Bool) (new : Search) : Type 0 where
  pub nodes : new.nodes.items ≡ old.nodes.items ++ node_of t ∷ []
  pub best : new.best ≡ best_after old.best t
  pub count : new.taken ≡ old.taken + 1
  pub sides : EntersSides old.sides.items t more new.sides.items

-- a split has room
abbrev pub HasRoomIn : Taken → Type 0
HasRoomIn (taken.Leaf leaf) = ⊤
HasRoomIn (taken.Best leaf number point) = ⊤
HasRoomIn (taken.Split place n) = HasRoom n

-- ---- the end
-- the answer where no box is open
abbrev pub answer_of : Option Best → List BranchNode → ℕ → WholeAnswer
answer_of None tree count = Infeasible tree count
answer_of (Some best) tree count = Optimal best.value best.point tree count

-- the value of the best point
abbrev pub found_value : Option Best → Option ℚ
found_value None = None
found_value (Some best) = Some (value best.value)

-- the stop of a node
abbrev pub node_stop : ℕ → Stop → BranchStop
node_stop node (why.UnknownParam name) = Node node (why.UnknownParam name)
node_stop node (why.MissingParam name) = Node node (why.MissingParam name)
node_stop node (why.ParamShape name declared given) = Node node (why.ParamShape name declared given)
node_stop node (why.ParamSign name entry number) = Node node (why.ParamSign name entry number)
node_stop node (why.TooLarge rows columns) = Node node (why.TooLarge rows columns)
node_stop node (why.ZeroDivisor n entry) = Node node (why.ZeroDivisor n entry)
node_stop node (why.Wide site) = Node node (why.Wide site)
node_stop node (why.PivotLimit count) = Node node (why.PivotLimit count)
node_stop node why.Memory = Memory

-- what stops the node that comes next, where so many are taken
abbrev pub StopsNext : Problem → Program Frac → ℕ → ℕ → BranchStop → Type 0
StopsNext p q limit count RelaxationUnbounded = FallsAtRoot p q limit
StopsNext p q limit count (NodeLimit most) = ⊥
StopsNext p q limit count (Node node stop) = (node ≡ suc count) × StopsAtNode p q limit node stop
StopsNext p q limit count Memory = ⊤
