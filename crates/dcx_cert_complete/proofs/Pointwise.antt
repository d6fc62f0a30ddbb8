-- The checks of a certificate at a point fail with nothing but an operation that passes, where the answer is right.
use Rattle.std.proofs.Common.{◌≡◌, inl, inr, ℕ, List, Option, Some, None, option_map, slice_get, refl, ap, ◌∙◌, pos}
use Rattle.std.proofs.lemmas.Option.{slice_get-map}
use Rattle.dcx_math.specs.Rational.{ℚ, whole, ◌≤ℚ◌, ◌<ℚ◌}
use Rattle.dcx_frac.specs.declared.fraction.Frac.{Frac}
use Rattle.dcx_frac.specs.Frac.{value}
use Rattle.dcx_atom.specs.declared.array.Array.{Array}
use Rattle.dcx_atom.specs.Arrays.{numbers_of}
use Rattle.dcx_point.specs.Pairs.{Pairs}
use Rattle.dcx_arena.specs.Unfold.{IsReached}
use Rattle.dcx_convex.specs.Answers.{AreMultipliers}
use Rattle.dcx_tree.specs.declared.constraint.Constraint.{Constraint}
use Rattle.dcx_tree.specs.declared.problem.Problem.{Problem}
use Rattle.dcx_tree.specs.Meaning.{convex_constraint, convex_problem, setting_of, point_of, objective_at, Fits, IsFeasible, IsInDomain}
use Rattle.dcx_answer.specs.declared.cert_fault.CertFault.{CertFault}
use Rattle.dcx_answer.specs.declared.cert_fault.CertFault.TheVariants as faults
use Rattle.dcx_cert_check.specs.Demands.{check_if}
use Rattle.dcx_cert_check.specs.SingleChecks.{constraint_holds, constraints_hold, objective_is, value_is, start_bounded, ray_inside, duals_signed, gap_positive, slope_positive}
use Rattle.dcx_cert_check.proofs.SingleSettled.{checks_settled}
use Rattle.dcx_cert_check.proofs.Sound.{checks_sound}
use Rattle.dcx_cert_check.specs.Checks.{point_checks}
use Rattle.dcx_cert_complete.specs.Bounded.{IsWide}
use Rattle.dcx_cert_complete.proofs.Checked.{forming_wide}

module _ (p : Problem) (setting point : Pairs) (fits : Fits p (setting_of p setting)) where
  -- ---- a feasible point
  module _ (feasible : IsFeasible p (setting_of p setting) (point_of p point)) where
    constraint_wide : (k : ℕ) (c : Constraint) → slice_get p.constraints k ≡ Some c → (f : CertFault) → (constraint_holds p setting point k c).fails f → IsWide f
    constraint_wide k c at f (inl h) = forming_wide p setting point fits (IsReached p.tree _) f h
    constraint_wide k c at f (inr (formed, h)) =
        absurd (h.here.0 (feasible.holds k (convex_constraint c) (slice_get-map convex_constraint p.constraints k ∙ ap (option_map convex_constraint) at) h.position h.there))

    constraints_wide : (f : CertFault) → (constraints_hold p setting point).fails f → IsWide f
    constraints_wide f h = by (slice_get p.constraints h.position) refl h.here
      where
        by : (o : Option Constraint) → slice_get p.constraints h.position ≡ o → (check_if (constraint_holds p setting point h.position) o).fails f → IsWide f
        by None e k = absurd k
        by (Some c) e k = constraint_wide h.position c e f k

    pub point_wide : (f : CertFault) → (point_checks p setting point).fails f → IsWide f
    point_wide f (inl h) = absurd ((checks_settled.point_inside p point).apart f ((checks_sound.point p point).1 feasible.domain) h)
    point_wide f (inr (inside, h)) = constraints_wide f h

  -- ---- the objective there
  objective_wide : (met : ℚ → Type 0) (fault : Frac → CertFault) → met (objective_at p (setting_of p setting) (point_of p point)) → (f : CertFault)
      → (objective_is p setting point met fault).fails f → IsWide f
  objective_wide met fault h f (inl k) = forming_wide p setting point fits (IsReached p.tree _) f k
  objective_wide met fault h f (inr (formed, k)) = absurd (k.0 h)

  pub value_wide : (stated : Frac) → objective_at p (setting_of p setting) (point_of p point) ≡ value stated → (f : CertFault) → (value_is p setting point stated).fails f → IsWide f
  value_wide stated h f k = objective_wide (λ found. found ≡ value stated) (λ found. faults.Value stated found) h f k

  pub start_wide : (bound : Frac) → objective_at p (setting_of p setting) (point_of p point) ≤ℚ value bound → (f : CertFault) → (start_bounded p setting point bound).fails f → IsWide f
  start_wide bound h f k = objective_wide (λ found. found ≤ℚ value bound) (λ found. faults.Bound bound found) h f k

-- ---- signs
pub ray_never : (p : Problem) (ray : Pairs) → IsInDomain p (point_of p ray) → (f : CertFault) → (ray_inside p ray).fails f → ⊥
ray_never p ray d f h = (checks_settled.ray_inside p ray).apart f ((checks_sound.ray p ray).1 d) h

pub signs_never : (p : Problem) (duals : List Array) → AreMultipliers (convex_problem p) (numbers_of duals) → (f : CertFault) → (duals_signed p duals).fails f → ⊥
signs_never p duals are f h = (checks_settled.duals_signed p duals).apart f ((checks_sound.multipliers p duals).1 are) h

pub gap_never : (gap : Frac) → whole (pos 0) <ℚ value gap → (f : CertFault) → (gap_positive gap).fails f → ⊥
gap_never gap h f k = (checks_settled.gap_positive gap).apart f h k

pub slope_never : (slope : Frac) → whole (pos 0) <ℚ value slope → (f : CertFault) → (slope_positive slope).fails f → ⊥
slope_never slope h f k = (checks_settled.slope_positive slope).apart f h k
