-- Products of fractions where they fit.
use Rattle.std.proofs.Common.{◌≡◌, refl}
use Rattle.std.specs.Result.{result_ok}
use Rattle.dcx_math.specs.Rational.{ℚ, ◌*ℚ◌}
use Rattle.dcx_frac.specs.Fits.{IsRepresentable}
use Rattle.dcx_frac.specs.Results.{answer, product_of, dec_fits}
use Rattle.dcx_frac.specs.Frac.{value}
use Rattle.dcx_frac.specs.declared.fraction.Frac.{Frac}
use Rattle.dcx_frac.specs.declared.fraction.Op.TheVariants.{Mul}
use Rattle.dcx_tokens.specs.Number.{frac_if, frac_at}

-- what a product leaves where it fits is the fraction of its value
decided : (x y : Frac) (z : ℚ) (d : Dec (IsRepresentable z)) → result_ok (answer Mul x y z d d) ≡ frac_if z d
decided x y z (yes fits) = refl
decided x y z (no wide) = refl

pub product_ok : (x y : Frac) → result_ok (product_of x y) ≡ frac_at (value x *ℚ value y)
unfolding product_of frac_at
product_ok x y = decided x y (value x *ℚ value y) (dec_fits (value x *ℚ value y))
