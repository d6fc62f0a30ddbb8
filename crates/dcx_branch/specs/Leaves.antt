-- The multipliers of a leaf: those of the rows of constraints, and then those of the rows of bounds, in row order.
use Rattle.std.specs.Prelude.{◌≡◌, ⊤, ℕ, ◌+◌, List, [], ◌∷◌, length, map, slice_range, Option, Some, None, Result, Ok}
use Rattle.dcx_frac.specs.declared.fraction.Frac.{Frac}
use Rattle.dcx_frac.specs.declared.fraction.Passes.{Passes}
use Rattle.dcx_atom.specs.declared.array.Array.{Array}
use Rattle.dcx_tree.specs.declared.problem.Problem.{Problem}
use Rattle.dcx_answer.specs.declared.stop.Stop.{Stop}
use Rattle.dcx_answer.specs.declared.stop.Stop.TheVariants as why
use Rattle.dcx_answer.specs.declared.site.Site.TheVariants as sites
use Rattle.dcx_linear.specs.declared.row.RowKind.TheVariants.{AtMost}
use Rattle.dcx_lp_answer.specs.declared.answer.LpAnswer.{LpAnswer}
use Rattle.dcx_lp_answer.specs.declared.answer.LpStatus.TheVariants as status
use Rattle.dcx_lp_answer.specs.declared.stop.MultiplierStop.{MultiplierStop}
use Rattle.dcx_lp_answer.specs.declared.stop.MultiplierStop.TheVariants as multipliers
use Rattle.dcx_lp_answer.specs.Multipliers.{multiplier_of, passing_from}
use Rattle.dcx_postsolve.specs.Duals.{all_multipliers, AreDuals}
use Rattle.dcx_branch.specs.declared.bound.BoundAt.{BoundAt}
use Rattle.dcx_answer.specs.declared.branch_tree.BoundWeight.{BoundWeight}
use Rattle.dcx_answer.specs.declared.branch_tree.BranchNode.{BranchNode}
use Rattle.dcx_answer.specs.declared.branch_tree.BranchNode.TheVariants.{Bound, Empty, Split}

-- ---- bounds
-- bounds with these multipliers
abbrev pub bound_duals : List BoundAt → List Frac → List BoundWeight
bound_duals [] ws = []
bound_duals (b ∷ bs) [] = []
bound_duals (b ∷ bs) (w ∷ ws) = record { variable = b.place.variable; entry = b.place.entry; upper = b.upper; weight = w } ∷ bound_duals bs ws

-- the multipliers of the rows of bounds, the first of which has the number `first`
abbrev pub bound_multipliers : LpAnswer → ℕ → List BoundAt → List (Result Frac Passes)
bound_multipliers a first bs = map (multiplier_of a.status AtMost) (slice_range a.rows first (first + length bs))

-- they are formed, and each stands with its bound
pub record AreBoundDuals (a : LpAnswer) (first : ℕ) (bs : List BoundAt) (ds : List BoundWeight) : Type 0 where
  pub weights : List Frac
  pub formed : map Ok weights ≡ bound_multipliers a first bs
  pub are : ds ≡ bound_duals bs weights

-- ---- all of them
pub record IsLeaf (p : Problem) (a : LpAnswer) (first : ℕ) (bs : List BoundAt) (duals : List Array) (bounds : List BoundWeight) : Type 0 where
  pub constraints : AreDuals a.status p.constraints a.rows duals
  pub bounds_are : AreBoundDuals a first bs bounds

-- the leaf has the multipliers that the answer shows
abbrev pub IsLeafOf : Problem → LpAnswer → ℕ → List BoundAt → BranchNode → Type 0
IsLeafOf p a first bs (Bound duals bounds) = (a.status ≡ status.Optimal) × IsLeaf p a first bs duals bounds
IsLeafOf p a first bs (Empty duals bounds gap) = (a.status ≡ status.Infeasible) × (gap ≡ a.number) × IsLeaf p a first bs duals bounds
IsLeafOf p a first bs (Split k j n) = ⊥

abbrev pub or_else : {A : Type 0} → Option A → Option A → Option A
or_else None y = y
or_else (Some x) y = Some x

-- the first multiplier that passes, and its row
abbrev pub first_passing : Problem → LpAnswer → ℕ → List BoundAt → Option (ℕ × Passes)
first_passing p a first bs = or_else (passing_from 0 (all_multipliers a.status p.constraints a.rows)) (passing_from first (bound_multipliers a first bs))

-- ---- what stops them
abbrev pub leaf_stop : MultiplierStop → Stop
leaf_stop (multipliers.Wide row passes) = why.Wide (sites.Answer row passes)
leaf_stop multipliers.Memory = why.Memory

-- a stop is the first multiplier that passes; want of memory is free
abbrev pub StopsLeaf : Problem → LpAnswer → ℕ → List BoundAt → Stop → Type 0
StopsLeaf p a first bs (why.UnknownParam name) = ⊥
StopsLeaf p a first bs (why.MissingParam name) = ⊥
StopsLeaf p a first bs (why.ParamShape name declared given) = ⊥
StopsLeaf p a first bs (why.ParamSign name entry number) = ⊥
StopsLeaf p a first bs (why.TooLarge rows columns) = ⊥
StopsLeaf p a first bs (why.ZeroDivisor node entry) = ⊥
StopsLeaf p a first bs (why.Wide (sites.Node node entry passes)) = ⊥
StopsLeaf p a first bs (why.Wide (sites.Row row passes)) = ⊥
StopsLeaf p a first bs (why.Wide (sites.Map row passes)) = ⊥
StopsLeaf p a first bs (why.Wide (sites.Pivot pivots row column)) = ⊥
StopsLeaf p a first bs (why.Wide (sites.Answer row passes)) = first_passing p a first bs ≡ Some (row, passes)
StopsLeaf p a first bs (why.PivotLimit count) = ⊥
StopsLeaf p a first bs why.Memory = ⊤
