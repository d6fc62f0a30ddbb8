-- A whole number of 32 bits is a fraction over 1.
use Rattle.std.proofs.Common.{◌≡◌, ℕ, ◌<◌, ◌^◌, pos, arith, lit<}
use Rattle.std.proofs.lemmas.Int.{ints}
use Rattle.dcx_math.specs.Rational.{whole, ◌/ℚ◌}
use Rattle.dcx_frac.specs.Fits.{IsRepresentable}
use Rattle.dcx_frac.proofs.Representable.{representable_quotient}

pub one_is_some : ¬ (pos 1 ≡ pos 0)
one_is_some e = absurd (omega (arith, ints, e))

pub small_is_fraction : (n : ℕ) → n < 2 ^ 32 → IsRepresentable (whole (pos n) /ℚ whole (pos 1))
small_is_fraction n lt = representable_quotient (pos n) (pos 1) (omega (arith, lt)) (lit< tt) one_is_some
