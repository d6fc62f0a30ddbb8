-- The checks of a certificate at a setting and a point: what each demands, and the fault that tells where it fails first.
--
-- Parameters, variables and constraints go by position, in order, and entries in row-major order, all counted from 0. Numbers
-- that aren't given count as 0.
use Rattle.std.specs.Prelude.{◌≡◌, ◌≢◌, ℕ, List, [], ◌∷◌, Option, Some, None, pos}
use Rattle.dcx_math.specs.Rational.{ℚ, whole, ◌-ℚ◌, ◌≤ℚ◌, ◌<ℚ◌}
use Rattle.dcx_frac.specs.declared.fraction.Frac.{Frac}
use Rattle.dcx_frac.specs.Frac.{value}
use Rattle.dcx_shape.specs.declared.shape.Shape.{Shape}
use Rattle.dcx_shape.specs.Shape.{sides_of}
use Rattle.dcx_shape.specs.Sides.{entries_of}
use Rattle.dcx_atom.specs.declared.array.Array.{Array}
use Rattle.dcx_atom.specs.Arrays.{numbers_of}
use Rattle.dcx_atom.specs.Formed.{frac_at}
use Rattle.dcx_point.specs.Pairs.{Pairs}
use Rattle.dcx_convex.specs.Problems.{Holds}
use Rattle.dcx_convex.specs.Answers.{MayMultiply}
use Rattle.dcx_call.specs.declared.attribute.Variable.{Variable}
use Rattle.dcx_call.specs.declared.attribute.Parameter.{Parameter}
use Rattle.dcx_call.specs.Values.{given_by}
use Rattle.dcx_tree.specs.declared.constraint.Kind.{Kind}
use Rattle.dcx_tree.specs.declared.constraint.Constraint.{Constraint}
use Rattle.dcx_tree.specs.declared.problem.Problem.{Problem}
use Rattle.dcx_tree.specs.Meaning.{relation_of, value_at, objective_at, setting_of, point_of}
use Rattle.dcx_domain.specs.Entries.{KeepsDomainAt}
use Rattle.dcx_answer.specs.declared.stop.Stop.{Stop}
use Rattle.dcx_answer.specs.declared.stop.Stop.TheVariants as stops
use Rattle.dcx_fit.specs.Fit.{FitsParameters, IsFirstMisfit}
use Rattle.dcx_answer.specs.declared.cert_fault.CertFault.{CertFault}
use Rattle.dcx_answer.specs.declared.cert_fault.CertFault.TheVariants as faults
use Rattle.dcx_cert_sections.specs.Checks.{Check, nothing, in_turn, each_below}
use Rattle.dcx_cert_values.specs.Forming.{forming, divisors}
use Rattle.dcx_cert_check.specs.Demands.{demand, each_in}

-- ---- the setting fits
-- the fault is the stop that tells the first misfit
pub record IsMisfit (p : Problem) (setting : Pairs) (f : CertFault) : Type 0 where
  pub stop : Stop
  pub first : IsFirstMisfit p.parameters setting stop
  pub is_stop : stop ≢ stops.Memory
  pub told : f ≡ faults.Fit stop

-- the setting names the parameters alone, and gives each an array that is as is demanded of it
abbrev pub parameters_fit : Problem → Pairs → Check
parameters_fit p setting = record { passes = FitsParameters p.parameters setting; fails = IsMisfit p setting }

-- so it does, and then no entry of a divisor is 0
abbrev pub setting_fits : Problem → Pairs → Check
setting_fits p setting = in_turn (parameters_fit p setting) (divisors p setting)

-- ---- the told values are those of the setting
-- entry j of parameter k is told as it is in the setting
abbrev pub entry_is : ℕ → ℕ → (stated found : ℚ) → Check
entry_is k j stated found = demand (stated ≡ found) (faults.Setting k j (frac_at stated) (frac_at found))

-- each entry of an array of this shape is
abbrev pub entries_are : ℕ → Shape → (told setting : ℕ → ℚ) → Check
entries_are k shape told setting = each_below (entries_of (sides_of shape)) (λ j. entry_is k j (told j) (setting j))

-- the array that is told of parameter k is that of the setting
abbrev pub parameter_is : (told setting : Pairs) → ℕ → Parameter → Check
parameter_is told setting k q = entries_are k q.shape (given_by told q.name) (given_by setting q.name)

-- the same of each parameter, where values are told
abbrev pub setting_is : Problem → Option Pairs → Pairs → Check
setting_is p None setting = nothing
setting_is p (Some told) setting = each_in p.parameters (parameter_is told setting)

-- ---- points and rays lie in the domain
-- each entry of the array of variable k is as is demanded of the variable
abbrev pub variable_inside : (ℕ → ℕ → Frac → CertFault) → Pairs → ℕ → Variable → Check
variable_inside fault given k v = each_below (entries_of (sides_of v.shape)) (λ j.
    let x = given_by given v.name in
    demand (KeepsDomainAt v x j) (fault k j (frac_at (x j))))

-- the same of each variable
abbrev pub point_inside : Problem → Pairs → Check
point_inside p point = each_in p.variables (variable_inside (λ k j x. faults.Domain k j x) point)

abbrev pub ray_inside : Problem → Pairs → Check
ray_inside p ray = each_in p.variables (variable_inside (λ k j x. faults.RayDomain k j x) ray)

-- ---- the constraints hold, and the objective is as stated
-- so many numbers on the left and on the right stand to each other as constraint k asks, entry by entry
abbrev pub numbers_hold : Kind → (size : ℕ) → (left right : ℕ → ℚ) → ℕ → Check
numbers_hold kind size left right k = each_below size (λ j.
    demand (Holds (relation_of kind) (left j -ℚ right j)) (faults.Constraint k j (frac_at (left j)) (frac_at (right j))))

-- the values of both sides of constraint k do
abbrev pub entries_hold : Problem → (setting point : Pairs) → ℕ → Constraint → Check
entries_hold p setting point k c =
    let s = setting_of p setting in
    let x = point_of p point in
    numbers_hold c.kind (entries_of (sides_of c.shape)) (value_at p s x c.left.0) (value_at p s x c.right.0) k

-- so it does, once both sides are formed
abbrev pub constraint_holds : Problem → (setting point : Pairs) → ℕ → Constraint → Check
constraint_holds p setting point k c = in_turn (forming p setting point (c.left.0 ∷ c.right.0 ∷ [])) (entries_hold p setting point k c)

-- the same of each constraint
abbrev pub constraints_hold : Problem → (setting point : Pairs) → Check
constraints_hold p setting point = each_in p.constraints (constraint_holds p setting point)

-- the minimized objective at a point is as is demanded, once it is formed
abbrev pub objective_is : Problem → (setting point : Pairs) → (ℚ → Type 0) → (Frac → CertFault) → Check
objective_is p setting point met fault =
    let found = objective_at p (setting_of p setting) (point_of p point) in
    in_turn (forming p setting point (p.objective.0 ∷ [])) (demand (met found) (fault (frac_at found)))

-- it is the stated value
abbrev pub value_is : Problem → (setting point : Pairs) → Frac → Check
value_is p setting point stated = objective_is p setting point (λ found. found ≡ value stated) (λ found. faults.Value stated found)

-- it is at most the bound
abbrev pub start_bounded : Problem → (setting point : Pairs) → Frac → Check
start_bounded p setting point bound = objective_is p setting point (λ found. found ≤ℚ value bound) (λ found. faults.Bound bound found)

-- ---- multipliers, gap and slope
-- the multiplier of entry j of constraint k has its sign
abbrev pub multiplier_signed : Kind → ℕ → ℕ → ℚ → Check
multiplier_signed kind k j multiplier = demand (MayMultiply (relation_of kind) multiplier) (faults.DualSign k j (frac_at multiplier))

-- each multiplier of constraint k has
abbrev pub entries_signed : ℕ → Constraint → (ℕ → ℚ) → Check
entries_signed k c multipliers = each_below (entries_of (sides_of c.shape)) (λ j. multiplier_signed c.kind k j (multipliers j))

abbrev pub multipliers_signed : List Array → ℕ → Constraint → Check
multipliers_signed duals k c = entries_signed k c (numbers_of duals k)

-- the same of each constraint
abbrev pub duals_signed : Problem → List Array → Check
duals_signed p duals = each_in p.constraints (multipliers_signed duals)

-- the gap is above 0
abbrev pub gap_positive : Frac → Check
gap_positive gap = demand (whole (pos 0) <ℚ value gap) (faults.Gap gap)

-- the slope is above 0
abbrev pub slope_positive : Frac → Check
slope_positive slope = demand (whole (pos 0) <ℚ value slope) (faults.Descent slope)
