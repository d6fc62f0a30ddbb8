-- Each check tells one thing.
use Rattle.std.proofs.Common.{◌≡◌, ℕ, Option, Some, None, sym, ap, ◌∙◌}
use Rattle.dcx_math.specs.Rational.{ℚ, ◌≤ℚ◌}
use Rattle.dcx_frac.specs.Frac.{value}
use Rattle.dcx_frac.specs.declared.fraction.Frac.{Frac}
use Rattle.dcx_shape.specs.Shape.{sides_of}
use Rattle.dcx_shape.specs.Sides.{entries_of}
use Rattle.dcx_point.specs.Pairs.{Pairs}
use Rattle.dcx_call.specs.declared.attribute.Variable.{Variable}
use Rattle.dcx_tree.specs.declared.constraint.Constraint.{Constraint}
use Rattle.dcx_tree.specs.declared.problem.Problem.{Problem}
use Rattle.dcx_fit.proofs.First.{stops_hold}
use Rattle.dcx_answer.specs.declared.cert_fault.CertFault.{CertFault}
use Rattle.dcx_answer.specs.declared.cert_fault.CertFault.TheVariants as faults
use Rattle.dcx_cert_sections.specs.Checks.{each_below}
use Rattle.dcx_cert_sections.specs.Laws.{IsSettled}
use Rattle.dcx_cert_sections.proofs.Settled.{settled_together}
use Rattle.dcx_cert_values.proofs.Settling.{settled_here}
use Rattle.dcx_cert_check.specs.Demands.{demand}
use Rattle.dcx_cert_check.specs.SingleChecks as checks
use Rattle.dcx_cert_check.specs.CheckLaws.{AreSettled}
use Rattle.dcx_cert_check.proofs.Steps.{demand_settled, in_settled}

-- so many demands
demands_settled : (n : ℕ) (met : ℕ → Type 0) (fault : ℕ → CertFault) → IsSettled (each_below n (λ j. demand (met j) (fault j)))
demands_settled n met fault = settled_together.many n (λ j. demand (met j) (fault j)) (λ j. demand_settled (met j) (fault j))

fit_settled : (p : Problem) (setting : Pairs) → IsSettled (checks.parameters_fit p setting)
fit_settled p setting = record {
  apart = λ f fits e. stops_hold.unfit p.parameters setting e.stop e.first fits;
  one = λ f g e h. e.told ∙ ap (λ stop. faults.Fit stop) (stops_hold.one p.parameters setting e.stop h.stop e.first h.first e.is_stop h.is_stop) ∙ sym h.told;
}

setting_settled : (p : Problem) (told : Option Pairs) (setting : Pairs) → IsSettled (checks.setting_is p told setting)
setting_settled p None setting = settled_together.none
setting_settled p (Some told) setting = in_settled p.parameters (checks.parameter_is told setting) (λ k q. demands_settled (entries_of (sides_of q.shape)) _ _)

variables_settled : (fault : ℕ → ℕ → Frac → CertFault) (given : Pairs) (k : ℕ) (v : Variable) → IsSettled (checks.variable_inside fault given k v)
variables_settled fault given k v = demands_settled (entries_of (sides_of v.shape)) _ _

constraint_settled : (p : Problem) (setting point : Pairs) (k : ℕ) (c : Constraint) → IsSettled (checks.constraint_holds p setting point k c)
constraint_settled p setting point k c = settled_together.two _ _ (settled_here.below p setting point _) (demands_settled (entries_of (sides_of c.shape)) _ _)

objective_settled : (p : Problem) (setting point : Pairs) (met : ℚ → Type 0) (fault : Frac → CertFault) → IsSettled (checks.objective_is p setting point met fault)
objective_settled p setting point met fault = settled_together.two _ _ (settled_here.below p setting point _) (demand_settled _ _)

pub checks_settled : AreSettled
checks_settled = record {
  setting_fits = λ p setting. settled_together.two _ _ (fit_settled p setting) (settled_here.divisors p setting);
  setting_is = setting_settled;
  point_inside = λ p point. in_settled p.variables (checks.variable_inside (λ k j x. faults.Domain k j x) point) (variables_settled (λ k j x. faults.Domain k j x) point);
  ray_inside = λ p ray. in_settled p.variables (checks.variable_inside (λ k j x. faults.RayDomain k j x) ray) (variables_settled (λ k j x. faults.RayDomain k j x) ray);
  constraints_hold = λ p setting point. in_settled p.constraints (checks.constraint_holds p setting point) (constraint_settled p setting point);
  value_is = λ p setting point stated. objective_settled p setting point (λ found. found ≡ value stated) (λ found. faults.Value stated found);
  start_bounded = λ p setting point bound. objective_settled p setting point (λ found. found ≤ℚ value bound) (λ found. faults.Bound bound found);
  duals_signed = λ p duals. in_settled p.constraints (checks.multipliers_signed duals) (λ k c. demands_settled (entries_of (sides_of c.shape)) _ _);
  gap_positive = λ gap. demand_settled _ _;
  slope_positive = λ slope. demand_settled _ _;
}
