-- The multipliers of a leaf: which pass first, and that none does where they are formed.
use Rattle.std.proofs.Common.{◌≡◌, ℕ, suc, List, [], ◌∷◌, map, None, Ok, refl, sym, ap, ap₂, ◌∙◌}
use Rattle.dcx_frac.specs.declared.fraction.Frac.{Frac}
use Rattle.dcx_atom.specs.declared.array.Array.{Array}
use Rattle.dcx_tree.specs.declared.problem.Problem.{Problem}
use Rattle.dcx_lp_answer.specs.declared.answer.LpAnswer.{LpAnswer}
use Rattle.dcx_lp_answer.specs.declared.stop.MultiplierStop.{MultiplierStop}
use Rattle.dcx_lp_answer.specs.declared.stop.MultiplierStop.TheVariants as multipliers
use Rattle.dcx_lp_answer.specs.Multipliers.{passing_from, StopsAt}
use Rattle.dcx_postsolve.specs.Duals.{AreDuals}
use Rattle.dcx_postsolve.proofs.DualLaws.{are_one}
use Rattle.dcx_branch.specs.declared.bound.BoundAt.{BoundAt}
use Rattle.dcx_answer.specs.declared.branch_tree.BoundWeight.{BoundWeight}
use Rattle.dcx_answer.specs.declared.branch_tree.BranchNode.{BranchNode}
use Rattle.dcx_answer.specs.declared.branch_tree.BranchNode.TheVariants.{Bound, Empty, Split}
use Rattle.dcx_branch.specs.Leaves.{bound_multipliers, IsLeaf, IsLeafOf, or_else, first_passing, leaf_stop, StopsLeaf}

passing_formed : (i : ℕ) (ws : List Frac) → passing_from {A = Frac} i (map Ok ws) ≡ None
passing_formed i [] = refl
passing_formed i (w ∷ ws) = passing_formed (suc i) ws

-- a leaf whose multipliers are formed has none that passes
none_passes : (p : Problem) (a : LpAnswer) (first : ℕ) (bs : List BoundAt) (duals : List Array) (bounds : List BoundWeight) → IsLeaf p a first bs duals bounds → first_passing p a first bs ≡ None
none_passes p a first bs duals bounds h =
    ap₂ or_else ((are_one a.status p.constraints a.rows).none_passes duals h.constraints)
    (ap (passing_from first) (sym h.bounds_are.formed) ∙ passing_formed first h.bounds_are.weights)

pub leaf_forms : (p : Problem) (a : LpAnswer) (first : ℕ) (bs : List BoundAt) (leaf : BranchNode) → IsLeafOf p a first bs leaf → first_passing p a first bs ≡ None
leaf_forms p a first bs (Bound duals bounds) h = none_passes p a first bs duals bounds h.1
leaf_forms p a first bs (Empty duals bounds gap) h = none_passes p a first bs duals bounds h.2
leaf_forms p a first bs (Split k j n) h = absurd h

-- where those of constraints are formed, the first of bounds that passes is the first of all
pub stops_bounds : (p : Problem) (a : LpAnswer) (first : ℕ) (bs : List BoundAt) (duals : List Array) (e : MultiplierStop) → AreDuals a.status p.constraints a.rows duals →
    StopsAt e (passing_from first (bound_multipliers a first bs)) → StopsLeaf p a first bs (leaf_stop e)
stops_bounds p a first bs duals (multipliers.Wide row passes) made h =
    ap (λ o. or_else o (passing_from first (bound_multipliers a first bs))) ((are_one a.status p.constraints a.rows).none_passes duals made) ∙ h
stops_bounds p a first bs duals multipliers.Memory made h = tt
