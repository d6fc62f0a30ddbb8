-- The coefficients at the start: 1 for the minimized objective, and of each constraint its multipliers on the left and their negations on the right.
use Rattle.std.specs.Prelude.{◌≡◌, ℕ, Bool, true, false, List, [], ◌∷◌, ◌++◌, length, replicate, Option, Some, None, Result, Ok, slice_get, negsuc}
use Rattle.dcx_math.specs.Rational.{whole, neg_ℚ}
use Rattle.dcx_frac.specs.declared.fraction.Frac.{Frac}
use Rattle.dcx_frac.specs.declared.fraction.Passes.{Passes}
use Rattle.dcx_frac.specs.Frac.{value}
use Rattle.dcx_shape.specs.Shape.{sides_of}
use Rattle.dcx_shape.specs.Sides.{entries_of}
use Rattle.dcx_atom.specs.declared.array.Array.{Array}
use Rattle.dcx_atom.specs.Arrays.{list_below, joined_below}
use Rattle.dcx_atom.specs.Formed.{zero_frac, one_frac, frac_at}
use Rattle.dcx_arena.specs.Nodes.{entries_in}
use Rattle.dcx_tree.specs.declared.constraint.Sense.{Sense}
use Rattle.dcx_tree.specs.declared.constraint.Sense.TheVariants.{Minimize, Maximize}
use Rattle.dcx_tree.specs.declared.constraint.Constraint.{Constraint}
use Rattle.dcx_tree.specs.declared.problem.Problem.{Problem}
use Rattle.dcx_tree.specs.Nodes.{Node}
use Rattle.dcx_cert_collect.specs.Shares.{frac_in, Share, share_of, with_shares}
use Rattle.dcx_cert_collect.specs.Starts.{place_of}

-- the minimized objective has 1, so the objective has -1 where it is maximized
abbrev pub objective_number : Sense → Frac
objective_number Minimize = one_frac
objective_number Maximize = frac_at (whole (negsuc 0))

abbrev pub objective_shares : Bool → Problem → List Share
objective_shares true p = share_of (place_of p.tree (Some p.objective.0) 0) (Ok (objective_number p.sense)) ∷ []
objective_shares false p = []

-- the numbers of an array, and their negations, for the entries of node i
abbrev pub array_shares : List Node → ℕ → Array → List Share
array_shares nodes i x = list_below (entries_of (sides_of x.shape)) (λ e. share_of (place_of nodes (Some i) e) (Ok (frac_in x.entries e)))

abbrev pub negated_shares : List Node → ℕ → Array → List Share
negated_shares nodes i x = list_below (entries_of (sides_of x.shape)) (λ e. share_of (place_of nodes (Some i) e) (Ok (frac_at (neg_ℚ (value (frac_in x.entries e))))))

-- the left side of a constraint, and then its right side
abbrev pub constraint_shares : List Node → Option Constraint → Option Array → List Share
constraint_shares nodes None x = []
constraint_shares nodes (Some c) None = []
constraint_shares nodes (Some c) (Some x) = array_shares nodes c.left.0 x ++ negated_shares nodes c.right.0 x

-- all of them: the objective, if it is asked for, and the constraints in order
abbrev pub all_shares : Bool → Problem → List Array → List Share
all_shares with_objective p duals =
    objective_shares with_objective p ++ joined_below (length p.constraints) (λ k. constraint_shares p.tree (slice_get p.constraints k) (slice_get duals k))

-- the coefficients at the start, or the first addition that passes
abbrev pub start_table : Bool → Problem → List Array → Result (List Frac) Passes
start_table with_objective p duals = with_shares (replicate (entries_in p.tree) zero_frac) (all_shares with_objective p duals)

-- there is an array of multipliers for each constraint, of its shape
pub record AreDuals (p : Problem) (duals : List Array) : Type 0 where
  pub count : length duals ≡ length p.constraints
  pub shaped : (k : ℕ) (c : Constraint) (x : Array) → slice_get p.constraints k ≡ Some c → slice_get duals k ≡ Some x → sides_of x.shape ≡ sides_of c.shape
