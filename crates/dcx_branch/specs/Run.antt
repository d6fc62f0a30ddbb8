-- The run of nodes: which boxes are open, the best point so far, how many nodes are taken, and the tree that they are listed in. It ends
-- where no box is open.
use Rattle.std.specs.Prelude.{◌≡◌, ◌≢◌, ⊤, ◌⊎◌, ℕ, suc, ◌<◌, List, [], ◌∷◌, ◌++◌, length, map, Option, Some, None, slice_get, ℤ, ◌+ℤ◌, pos}
use Rattle.dcx_math.specs.Rational.{ℚ, ◌≤ℚ◌, ◌<ℚ◌}
use Rattle.dcx_frac.specs.declared.fraction.Frac.{Frac}
use Rattle.dcx_frac.specs.declared.fraction.Passes.{Passes}
use Rattle.dcx_frac.specs.Frac.{value}
use Rattle.dcx_tree.specs.declared.problem.Problem.{Problem}
use Rattle.dcx_answer.specs.declared.stop.Stop.{Stop}
use Rattle.dcx_answer.specs.declared.stop.Stop.TheVariants as why
use Rattle.dcx_answer.specs.declared.site.Site.TheVariants as sites
use Rattle.dcx_linear.specs.FormTerms.{Unknowns}
use Rattle.dcx_tab.specs.declared.program.Program as tab
use Rattle.dcx_lp_answer.specs.declared.answer.LpAnswer.{LpAnswer}
use Rattle.dcx_lp_answer.specs.declared.answer.LpStatus.TheVariants as status
use Rattle.dcx_lp_solve.specs.declared.solving.Solved.{Solved}
use Rattle.dcx_lp_solve.specs.declared.stop.SolveStop.{SolveStop}
use Rattle.dcx_lp_solve.specs.declared.stop.SolveStop.TheVariants as solves
use Rattle.dcx_lp_solve.specs.Solved.{IsSolved, Stops as RowsStop}
use Rattle.dcx_lp_solve.specs.Stops.{run_stop}
use Rattle.dcx_std.specs.Solutions.{HasKinds, unknowns_at}
use Rattle.dcx_graph.specs.Program.{Program}
use Rattle.dcx_right.specs.Points.{IsWhole}
use Rattle.dcx_right.specs.Boxes.{Box, root_box, at_most, at_least}
use Rattle.dcx_answer.specs.declared.branch_tree.BranchNode.{BranchNode}
use Rattle.dcx_answer.specs.declared.branch_tree.BranchNode.TheVariants.{Split}
use Rattle.dcx_branch.specs.declared.place.Place.{Place}
use Rattle.dcx_branch.specs.declared.bound.BoundAt.{BoundAt}
use Rattle.dcx_branch.specs.Places.{places}
use Rattle.dcx_branch.specs.Rows.{node_rows, all_bounds}
use Rattle.dcx_branch.specs.Between.{IsBetween}
use Rattle.dcx_branch.specs.Leaves.{IsLeafOf, first_passing}

-- ---- states
-- a point, by the numbers of the unknowns, with its value
pub record Best : Type 0 where
  pub value : ℚ
  pub unknowns : Unknowns

-- the boxes that are open, the next one first; the best whole point so far; how many nodes are taken
pub record State : Type 0 where
  pub open_boxes : List Box
  pub best : Option Best
  pub taken : ℕ

abbrev pub start : Problem → State
start p = record { open_boxes = root_box p ∷ []; best = None; taken = 0 }

-- the best value so far
abbrev pub best_value : Option Best → Option ℚ
best_value None = None
best_value (Some b) = Some b.value

-- ---- what a node turns out to be
-- a value isn't below the best one
abbrev pub IsPruned : Option ℚ → ℚ → Type 0
IsPruned None v = ⊥
IsPruned (Some b) v = b ≤ℚ v

abbrev pub IsBetter : Option ℚ → ℚ → Type 0
IsBetter None v = ⊤
IsBetter (Some b) v = v <ℚ b

-- all numbers of these entries are whole
abbrev pub AreWhole : List Place → Unknowns → Type 0
AreWhole ps x = (i : ℕ) (place : Place) → slice_get ps i ≡ Some place → IsWhole (x place.unknown)

-- this is the first entry whose number isn't whole, and n is the greatest integer below that number
pub record IsFirstSplit (ps : List Place) (x : Unknowns) (place : Place) (n : ℤ) : Type 0 where
  pub position : ℕ
  pub there : slice_get ps position ≡ Some place
  pub before : (i : ℕ) (q : Place) → i < position → slice_get ps i ≡ Some q → IsWhole (x q.unknown)
  pub between : IsBetween (x place.unknown) n

-- the numbers of the unknowns in an answer to the scaled program
abbrev pub unknowns_in : tab.Program → LpAnswer → Unknowns
unknowns_in program a = unknowns_at program.columns (map value a.columns)

-- a leaf whose box has no better point, a leaf that has one, or two sides
pub data Turn : Type 0 where
  Cut : Turn
  Found : Turn
  Divided : Place → ℤ → Turn

-- a node turns out to be so, where its scaled program has this answer, and this is the best value so far
abbrev pub TurnsOut : List Place → Option ℚ → tab.Program → LpAnswer → Turn → Type 0
TurnsOut ps best program a Cut = (a.status ≡ status.Infeasible) ⊎ ((a.status ≡ status.Optimal) × IsPruned best (value a.number))
TurnsOut ps best program a Found = (a.status ≡ status.Optimal) × IsBetter best (value a.number) × AreWhole ps (unknowns_in program a)
TurnsOut ps best program a (Divided place n) = (a.status ≡ status.Optimal) × IsBetter best (value a.number) × IsFirstSplit ps (unknowns_in program a) place n

-- the state after such a node
abbrev pub after : Box → List Box → Option Best → ℕ → tab.Program → LpAnswer → Turn → State
after box rest best taken program a Cut = record { open_boxes = rest; best = best; taken = suc taken }
after box rest best taken program a Found = record { open_boxes = rest; best = Some (record { value = value a.number; unknowns = unknowns_in program a }); taken = suc taken }
after box rest best taken program a (Divided place n) = record {
  open_boxes = at_most box place.variable place.entry n ∷ at_least box place.variable place.entry (n +ℤ pos 1) ∷ rest;
  best = best;
  taken = suc taken;
}

-- a node is a leaf
abbrev pub IsLeafTurn : Turn → Type 0
IsLeafTurn Cut = ⊤
IsLeafTurn Found = ⊤
IsLeafTurn (Divided place n) = ⊥

-- the bounds of a box, in row order
abbrev pub bounds_in : Problem → Box → List BoundAt
bounds_in p box = all_bounds (places p.variables) box

module _ (p : Problem) (q : Program Frac) (limit : ℕ) where
  -- the rows of the node of a box are solved so
  abbrev pub IsNode : Box → Solved → Type 0
  IsNode box s = IsSolved limit (node_rows q (bounds_in p box)) s

  -- the first multiplier of a leaf that passes
  abbrev pub leaf_passing : Box → Solved → Option (ℕ × Passes)
  leaf_passing box s = first_passing p s.answer (length q.rows) (bounds_in p box)

  -- a leaf forms its multipliers, and none passes; a node with two sides forms none
  abbrev pub FormsLeaf : Box → Solved → Turn → Type 0
  FormsLeaf box s Cut = leaf_passing box s ≡ None
  FormsLeaf box s Found = leaf_passing box s ≡ None
  FormsLeaf box s (Divided place n) = ⊤

  -- one node, whose rows name unknowns of their own alone: of two sides the lower one comes next, with all that follows from it
  pub record Steps (a b : State) : Type 0 where
    pub box : Box
    pub rest : List Box
    pub first : a.open_boxes ≡ box ∷ rest
    pub solved : Solved
    pub known : HasKinds (node_rows q (bounds_in p box))
    pub node : IsNode box solved
    pub turn : Turn
    pub turns : TurnsOut (places p.variables) (best_value a.best) solved.program solved.answer turn
    pub forms : FormsLeaf box solved turn
    pub next : b ≡ after box rest a.best a.taken solved.program solved.answer turn

pub data Reaches (p : Problem) (q : Program Frac) (limit : ℕ) : State → State → Type 0 where
  here : (a : State) → Reaches p q limit a a
  next : (a b c : State) → Reaches p q limit a b → Steps p q limit b c → Reaches p q limit a c

-- the run ends with this best point and so many nodes
abbrev pub Ends : Problem → Program Frac → ℕ → Option Best → ℕ → Type 0
Ends p q limit best nodes = Reaches p q limit (start p) (record { open_boxes = []; best = best; taken = nodes })

-- ---- the tree
-- a node is listed as a leaf with the multipliers that the answer shows, or as its split
abbrev pub IsListed : Problem → Program Frac → Box → Solved → Turn → BranchNode → Type 0
IsListed p q box s Cut node = IsLeafOf p s.answer (length q.rows) (bounds_in p box) node
IsListed p q box s Found node = IsLeafOf p s.answer (length q.rows) (bounds_in p box) node
IsListed p q box s (Divided place n) node = node ≡ Split place.variable place.entry n

-- the run comes to this state, and the nodes that are taken are listed so, in order
pub data Takes (p : Problem) (q : Program Frac) (limit : ℕ) : State → List BranchNode → Type 0 where
  no_node : Takes p q limit (start p) []
  one_node : (a b : State) (nodes : List BranchNode) (node : BranchNode) → Takes p q limit a nodes → (step : Steps p q limit a b) → IsListed p q step.box step.solved step.turn node
      → Takes p q limit b (nodes ++ node ∷ [])

-- the run ends with this best point, so many nodes and this tree
abbrev pub EndsWith : Problem → Program Frac → ℕ → Option Best → ℕ → List BranchNode → Type 0
EndsWith p q limit best nodes tree = Takes p q limit (record { open_boxes = []; best = best; taken = nodes }) tree

-- ---- stops
-- the run has more nodes than so many
pub record PassesNodes (p : Problem) (q : Program Frac) (limit nodes : ℕ) : Type 0 where
  pub box : Box
  pub rest : List Box
  pub best : Option Best
  pub reached : Reaches p q limit (start p) (record { open_boxes = box ∷ rest; best = best; taken = nodes })

-- the run of the root ends unbounded
pub record FallsAtRoot (p : Problem) (q : Program Frac) (limit : ℕ) : Type 0 where
  pub solved : Solved
  pub node : IsNode p q limit (root_box p) solved
  pub unbounded : solved.answer.status ≡ status.Unbounded

-- the rows of a node with these bounds aren't solved, or a multiplier of its leaf passes, the first one
pub data NodeStops (p : Problem) (q : Program Frac) (limit : ℕ) (bs : List BoundAt) (best : Option ℚ) (stop : Stop) : Type 0 where
  at_rows : (e : SolveStop) → e ≢ solves.Memory → RowsStop limit (node_rows q bs) e → stop ≡ run_stop e → NodeStops p q limit bs best stop
  at_leaf : (s : Solved) (turn : Turn) (row : ℕ) (passes : Passes) → IsSolved limit (node_rows q bs) s → TurnsOut (places p.variables) best s.program s.answer turn → IsLeafTurn turn →
      first_passing p s.answer (length q.rows) bs ≡ Some (row, passes) → stop ≡ why.Wide (sites.Answer row passes) → NodeStops p q limit bs best stop

-- the run comes to this node, and the node stops so
pub record StopsAtNode (p : Problem) (q : Program Frac) (limit node : ℕ) (stop : Stop) : Type 0 where
  pub box : Box
  pub rest : List Box
  pub best : Option Best
  pub taken : ℕ
  pub number : node ≡ suc taken
  pub reached : Reaches p q limit (start p) (record { open_boxes = box ∷ rest; best = best; taken = taken })
  pub stops : NodeStops p q limit (bounds_in p box) (best_value best) stop
