-- What is shown where the checks pass.
use Rattle.std.proofs.Common.{◌≡◌, ◌↔◌, ℕ, ◌<◌, List, Some, ap, ◌∙◌, subst}
use Rattle.std.specs.List.{slice_get, All}
use Rattle.std.specs.Prelude.{option_map}
use Rattle.std.proofs.lemmas.Option.{slice_get-map}
use Rattle.dcx_frac.specs.declared.fraction.Frac.{Frac}
use Rattle.dcx_shape.specs.Shape.{sides_of}
use Rattle.dcx_shape.specs.Sides.{entries_of}
use Rattle.dcx_atom.specs.declared.array.Array.{Array}
use Rattle.dcx_atom.specs.Arrays.{numbers_of}
use Rattle.dcx_point.specs.Pairs.{Pairs}
use Rattle.dcx_convex.specs.Problems as convex
use Rattle.dcx_convex.specs.Problems.{Holds, gap_at}
use Rattle.dcx_convex.specs.Answers.{MayMultiply, AreMultipliers}
use Rattle.dcx_call.specs.Values.{given_by}
use Rattle.dcx_tree.specs.declared.constraint.Constraint.{Constraint}
use Rattle.dcx_tree.specs.declared.problem.Problem.{Problem}
use Rattle.dcx_tree.specs.Meaning.{IsFeasible, IsInDomain, convex_constraint, convex_problem, setting_of, point_of}
use Rattle.dcx_domain.specs.Points.{IsInside}
use Rattle.dcx_domain.proofs.Entries.{entries_hold}
use Rattle.dcx_domain.proofs.Points.{points_hold}
use Rattle.dcx_math.proofs.Lists.{mapped, holds_at, all_from_at}
use Rattle.dcx_answer.specs.declared.cert_fault.CertFault.{CertFault}
use Rattle.dcx_answer.specs.declared.cert_fault.CertFault.TheVariants as faults
use Rattle.dcx_cert_values.proofs.Nonzero.{divisors_hold}
use Rattle.dcx_cert_check.specs.Demands.{each_in}
use Rattle.dcx_cert_check.specs.SingleChecks as checks
use Rattle.dcx_cert_check.specs.CheckLaws.{AreSound}
use Rattle.dcx_cert_check.proofs.Steps.{passed_at, passed_each}

-- ---- told values
Told : (told setting : Pairs) → Problem → Type 0
Told told setting p = All (λ q. (j : ℕ) → j < entries_of (sides_of q.shape) → given_by told q.name j ≡ given_by setting q.name j) p.parameters

told_alike : (p : Problem) (told setting : Pairs) → (checks.setting_is p (Some told) setting).passes ↔ Told told setting p
unfolding Told
told_alike p told setting = (
  (λ h. all_from_at _ p.parameters (λ k q at. passed_at p.parameters (checks.parameter_is told setting) h k q at)),
  (λ h. passed_each p.parameters (checks.parameter_is told setting) (λ k q at. holds_at
      (λ q. (j : ℕ) → j < entries_of (sides_of q.shape) → given_by told q.name j ≡ given_by setting q.name j) p.parameters k q h at)),
)

-- ---- points
given_passes : (p : Problem) (fault : ℕ → ℕ → Frac → CertFault) (given : Pairs) → (each_in p.variables (checks.variable_inside fault given)).passes ↔ IsInDomain p (point_of p given)
given_passes p fault given =
    let law = points_hold p given in (
      (λ h. law.1 (all_from_at (λ v. IsInside v given) p.variables (λ k v at. (entries_hold.each v (given_by given v.name)).1 (passed_at p.variables (checks.variable_inside fault given) h k v at)))),
      (λ d. passed_each p.variables (checks.variable_inside fault given) (λ k v at. (entries_hold.each v (given_by given v.name)).0 (holds_at (λ v. IsInside v given) p.variables k v (law.0 d) at))),
    )

point_passes : (p : Problem) (point : Pairs) → (checks.point_inside p point).passes ↔ IsInDomain p (point_of p point)
point_passes p point = given_passes p (λ k j x. faults.Domain k j x) point

ray_passes : (p : Problem) (ray : Pairs) → (checks.ray_inside p ray).passes ↔ IsInDomain p (point_of p ray)
ray_passes p ray = given_passes p (λ k j x. faults.RayDomain k j x) ray

-- ---- constraints
-- what holds of each entry of each constraint, and of each row of the problem
rows_from : (p : Problem) (P : ℕ → convex.Constraint → ℕ → Type 0) →
    ((k : ℕ) (c : Constraint) → slice_get p.constraints k ≡ Some c → (j : ℕ) → j < entries_of (sides_of c.shape) → P k (convex_constraint c) j) → convex.EachRow (convex_problem p) P
rows_from p P h k row at j lt =
    let (c, there, is) = mapped convex_constraint p.constraints k row at in
    subst (λ (r : convex.Constraint). (j < r.size → P k r j)) is (h k c there j) lt

rows_to : (p : Problem) (P : ℕ → convex.Constraint → ℕ → Type 0) → convex.EachRow (convex_problem p) P →
    (k : ℕ) (c : Constraint) → slice_get p.constraints k ≡ Some c → (j : ℕ) → j < entries_of (sides_of c.shape) → P k (convex_constraint c) j
rows_to p P rows k c at j lt = rows k (convex_constraint c) (slice_get-map convex_constraint p.constraints k ∙ ap (option_map convex_constraint) at) j lt

feasible : (p : Problem) (setting point : Pairs) → (checks.point_inside p point).passes → (checks.constraints_hold p setting point).passes → IsFeasible p (setting_of p setting) (point_of p point)
feasible p setting point inside hold = record {
  domain = (point_passes p point).0 inside;
  holds = rows_from p (λ k c j. Holds c.relation (gap_at (convex_problem p) (setting_of p setting) (point_of p point) c j))
      (λ k c at j lt. (passed_at p.constraints (checks.constraint_holds p setting point) hold k c at).1 j lt);
}

signs_pass : (p : Problem) (duals : List Array) → (checks.duals_signed p duals).passes ↔ AreMultipliers (convex_problem p) (numbers_of duals)
signs_pass p duals = (
  (λ h. rows_from p (λ k c j. MayMultiply c.relation (numbers_of duals k j)) (λ k c at j lt. passed_at p.constraints (checks.multipliers_signed duals) h k c at j lt)),
  (λ m. passed_each p.constraints (checks.multipliers_signed duals) (λ k c at j lt. rows_to p (λ k c j. MayMultiply c.relation (numbers_of duals k j)) m k c at j lt)),
)

pub checks_sound : AreSound
unfolding Told
checks_sound = record {
  fitting = λ p setting accepted h. divisors_hold.fitting p setting accepted h.0 h.1;
  told = told_alike;
  point = point_passes;
  domain_point = λ p point given h. record { shaped = given; domain = (point_passes p point).0 h };
  ray = ray_passes;
  feasible = feasible;
  objective = λ p setting point stated h. h.1;
  start = λ p setting point bound h. h.1;
  multipliers = signs_pass;
}
