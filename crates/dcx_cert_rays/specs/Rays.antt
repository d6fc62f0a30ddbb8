-- The checks of a ray: along it no constraint is left, and the objective falls.
use Rattle.std.specs.Prelude.{◌≡◌, ℕ, ◌<◌, [], ◌∷◌, length, Option, Some, None, slice_get}
use Rattle.dcx_math.specs.Rational.{ℚ, neg_ℚ, ◌≤ℚ◌}
use Rattle.dcx_frac.specs.declared.fraction.Frac.{Frac}
use Rattle.dcx_frac.specs.Frac.{value}
use Rattle.dcx_shape.specs.Shape.{sides_of}
use Rattle.dcx_shape.specs.Sides.{entries_of}
use Rattle.dcx_atom.specs.Formed.{frac_at}
use Rattle.dcx_point.specs.Pairs.{Pairs}
use Rattle.dcx_convex.specs.Problems.{Holds, gap_of, objective_of}
use Rattle.dcx_tree.specs.declared.constraint.Constraint.{Constraint}
use Rattle.dcx_tree.specs.declared.problem.Problem.{Problem}
use Rattle.dcx_tree.specs.Meaning.{relation_of, convex_constraint, convex_problem}
use Rattle.dcx_answer.specs.declared.cert_fault.CertFault.{CertFault}
use Rattle.dcx_answer.specs.declared.cert_fault.CertFault.TheVariants.{RayConstraint, RayValue}
use Rattle.dcx_cert_sections.specs.Checks.{Check, nothing, in_turn, each_below}
use Rattle.dcx_cert_rays.specs.Steepness.{steepness_at, forming}

-- at entry j of a constraint the steepness of the left side is at most that of the right one, or is the same
abbrev pub HoldsAt : Problem → (setting ray : Pairs) → Constraint → ℕ → Type 0
HoldsAt p setting ray c j = Holds (relation_of c.kind) (gap_of (steepness_at p setting ray) (convex_constraint c) j)

-- the fault that tells the steepness of both sides at an entry
abbrev pub broken_fault : Problem → (setting ray : Pairs) → ℕ → Constraint → ℕ → CertFault
broken_fault p setting ray k c j = RayConstraint k j (frac_at (steepness_at p setting ray c.left.0 j)) (frac_at (steepness_at p setting ray c.right.0 j))

-- the first entry at which it isn't so
pub record IsFirstBroken (p : Problem) (setting ray : Pairs) (k : ℕ) (c : Constraint) (fault : CertFault) : Type 0 where
  pub entry : ℕ
  pub within : entry < entries_of (sides_of c.shape)
  pub before : (j : ℕ) → j < entry → HoldsAt p setting ray c j
  pub here : ¬ HoldsAt p setting ray c entry
  pub told : fault ≡ broken_fault p setting ray k c entry

abbrev pub sides_hold : Problem → (setting ray : Pairs) → ℕ → Constraint → Check
sides_hold p setting ray k c = record {
  passes = (j : ℕ) → j < entries_of (sides_of c.shape) → HoldsAt p setting ray c j;
  fails = IsFirstBroken p setting ray k c;
}

-- both sides of constraint k are formed, and then compared
abbrev pub constraint_check : Problem → (setting ray : Pairs) → ℕ → Option Constraint → Check
constraint_check p setting ray k None = nothing
constraint_check p setting ray k (Some c) = in_turn (forming p setting ray (c.left.0 ∷ c.right.0 ∷ [])) (sides_hold p setting ray k c)

-- the steepness of the objective, negated where it is to be maximized
abbrev pub objective_steepness : Problem → (setting ray : Pairs) → ℚ
objective_steepness p setting ray = objective_of (convex_problem p) (steepness_at p setting ray)

-- the minimized objective falls by at least the slope for each step
abbrev pub falls : Problem → (setting ray : Pairs) → (slope : Frac) → Check
falls p setting ray slope = record {
  passes = objective_steepness p setting ray ≤ℚ neg_ℚ (value slope);
  fails = λ fault. ¬ (objective_steepness p setting ray ≤ℚ neg_ℚ (value slope))
      × (fault ≡ RayValue (frac_at (neg_ℚ (value slope))) (frac_at (objective_steepness p setting ray)));
}

-- each constraint in order
abbrev pub constraints_check : Problem → (setting ray : Pairs) → Check
constraints_check p setting ray = each_below (length p.constraints) (λ k. constraint_check p setting ray k (slice_get p.constraints k))

-- the objective is formed, and then compared
abbrev pub value_check : Problem → (setting ray : Pairs) → (slope : Frac) → Check
value_check p setting ray slope = in_turn (forming p setting ray (p.objective.0 ∷ [])) (falls p setting ray slope)

-- no constraint is left along the ray, and the objective falls
abbrev pub ray_checks : Problem → (setting ray : Pairs) → (slope : Frac) → Check
ray_checks p setting ray slope = in_turn (constraints_check p setting ray) (value_check p setting ray slope)
