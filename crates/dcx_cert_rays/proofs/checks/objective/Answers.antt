-- The steepness of the objective, or its negative.
use Rattle.std.proofs.Common.{◌≡◌, ◌∙◌, sym, ap, subst}
use Rattle.dcx_math.specs.Rational.{ℚ, neg_ℚ}
use Rattle.dcx_frac.specs.Frac.{value}
use Rattle.dcx_convex.specs.Problems.{minimized}
use Rattle.dcx_tree.specs.declared.constraint.Sense.{Sense}
use Rattle.dcx_tree.specs.Meaning.{sense_of}
use Rattle.dcx_cert_rays.specs.Steepness.{steepness_at}
use Rattle.dcx_cert_rays.proofs.checks.objective.Goals as goal

pub returns-in-Minimize : goal.returns-in-Minimize
returns-in-Minimize c =
    let a = c.args.along.now in
    let f : ℚ = steepness_at a.problem.now a.setting.now a.ray.now a.problem.now.objective.0 0 in
    subst (λ (s : Sense). value c.steepness-found.result ≡ minimized (sense_of s) f) (sym c.in-Minimize.is) c.steepness-found.ensures

pub returns-in-Maximize : goal.returns-in-Maximize
returns-in-Maximize c =
    let a = c.args.along.now in
    let f : ℚ = steepness_at a.problem.now a.setting.now a.ray.now a.problem.now.objective.0 0 in
    subst (λ (s : Sense). value c.neg.result ≡ minimized (sense_of s) f) (sym c.in-Maximize.is) (c.neg.ensures ∙ ap neg_ℚ c.steepness-found.ensures)
