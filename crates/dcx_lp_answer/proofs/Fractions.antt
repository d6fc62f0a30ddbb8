-- Whole numbers and quotients of whole numbers as fractions.
use Rattle.std.proofs.Common.{◌≡◌, ◌<◌, ◌^◌, ℤ, pos, sym, subst, unsigned_abs, lit<}
use Rattle.std.specs.Prelude.{◌<ℤ◌}
use Rattle.dcx_math.specs.Rational.{ℚ, whole, ◌/ℚ◌, ◌<ℚ◌}
use Rattle.dcx_math.proofs.IntegerLaws.{positive_some}
use Rattle.dcx_math.proofs.Orders.{*ℚ_idr, <ℚ-≢}
use Rattle.dcx_math.proofs.Products.{*ℚ-positive, inverse-positive, whole-<ℤ, zero-<ℚ-one, /ℚ-unique}
use Rattle.dcx_math.proofs.Ring.{/ℚ-is}
use Rattle.dcx_frac.specs.Frac.{value}
use Rattle.dcx_frac.specs.Fits.{IsRepresentable}
use Rattle.dcx_frac.proofs.Representable.{representable_quotient}
use Rattle.dcx_atom.specs.Formed.{frac_at}
use Rattle.dcx_atom.proofs.Fractions.{value-frac_at}
use Rattle.dcx_frac.proofs.Integers.{one_positive}

pub over_one : (x : ℚ) → x /ℚ whole (pos 1) ≡ x
over_one x = /ℚ-unique x (whole (pos 1)) x (λ z. <ℚ-≢ zero-<ℚ-one (sym z)) (*ℚ_idr x)

-- a small whole number is representable
pub whole_fits : (z : ℤ) → unsigned_abs z < 2 ^ 127 → IsRepresentable (whole z)
whole_fits z h = subst IsRepresentable (over_one (whole z)) (representable_quotient z (pos 1) h (lit< tt) (positive_some (pos 1) one_positive))

pub value-whole : (z : ℤ) → unsigned_abs z < 2 ^ 127 → value (frac_at (whole z)) ≡ whole z
value-whole z h = value-frac_at (whole z) (whole_fits z h)

-- the quotient of small positive numbers is positive
pub value-quotient : (m d : ℤ) → pos 0 <ℤ d → unsigned_abs m < 2 ^ 127 → unsigned_abs d < 2 ^ 127 → value (frac_at (whole m /ℚ whole d)) ≡ whole m /ℚ whole d
value-quotient m d p h k = value-frac_at (whole m /ℚ whole d) (representable_quotient m d h k (positive_some d p))

pub quotient_positive : (m d : ℤ) → pos 0 <ℤ m → pos 0 <ℤ d → whole (pos 0) <ℚ whole m /ℚ whole d
quotient_positive m d p q = subst (λ x. whole (pos 0) <ℚ x) (sym (/ℚ-is (whole m) (whole d))) (*ℚ-positive (whole-<ℤ (pos 0) m p) (inverse-positive (whole-<ℤ (pos 0) d q)))
