-- The comparison is exact.
use Rattle.std.proofs.Common.{MatchBool, inr, refl, subst}
use Rattle.dcx_math.specs.Rational.{◌≤ℚ◌, ◌<ℚ◌}
use Rattle.dcx_frac.specs.Frac.{value}
use Rattle.dcx_domain.proofs.Comparisons.{at_most}
use Rattle.dcx_cert_bound.proofs.checking.check_total.Goals as goal

pub returns-else-is_at_most : goal.returns-else-is_at_most
returns-else-is_at_most c =
    let x = value c.args.stated in
    let y = value c.args.total in
    inr (subst (λ b. MatchBool b (x ≤ℚ y) (y <ℚ x)) c.if-is_at_most.false (at_most c.is_at_most.result x y c.is_at_most.ensures), refl)
