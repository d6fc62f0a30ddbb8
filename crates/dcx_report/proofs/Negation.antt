-- What a fraction with its sign turned is.
use Rattle.std.proofs.Common.{◌≡◌, neg_ℤ, refl}
use Rattle.dcx_math.specs.Rational.{neg_ℚ}
use Rattle.dcx_frac.specs.declared.fraction.Frac.{Frac}
use Rattle.dcx_frac.specs.Frac.{value}
use Rattle.dcx_frac.proofs.Turns.{neg_value}
use Rattle.dcx_report.specs.Negated.{negated}

-- its value is the negative of the value
pub value-negated : (f : Frac) → value (negated f) ≡ neg_ℚ (value f)
unfolding negated
value-negated f = neg_value f (neg_ℤ f.num) f.den f.positive refl refl
