-- 1 / n as a fraction.
use Rattle.std.proofs.Common.{◌≡◌, ℕ, zero, suc, ◌<◌, ◌^◌, arith, ◌∙◌, pos}
use Rattle.std.proofs.lemmas.Int.{ints}
use native.Mathlib.Nat.{eq-one_of_dvd-one}
use Rattle.dcx_math.specs.Rational.{whole, ◌/ℚ◌, inverse}
use Rattle.dcx_math.specs.LowestTerms.{IsInLowestTerms}
use Rattle.dcx_math.proofs.Ring.{/ℚ-is}
use Rattle.dcx_math.proofs.Orders.{*ℚ_idl}
use Rattle.dcx_math.proofs.Ratios.{ratio-is-/ℚ}
use Rattle.dcx_atom.specs.Fits.{IsRepresentable, representable}

reciprocal_lowest : (n : ℕ) → IsInLowestTerms (whole (pos 1) /ℚ whole (pos (suc n))) (pos 1) (pos (suc n))
reciprocal_lowest n = record { positive = omega (arith, ints); coprime = λ d z h. eq-one_of_dvd-one z; is = ratio-is-/ℚ (pos 1) (pos (suc n)) (omega (arith, ints)) }

-- it is representable
pub reciprocal_fits : (n : ℕ) → 0 < n → n < 2 ^ 32 → IsRepresentable (whole (pos 1) /ℚ whole (pos n))
reciprocal_fits zero some small = absurd (omega arith)
reciprocal_fits (suc n) some small = representable (whole (pos 1) /ℚ whole (pos (suc n))) (pos 1) (pos (suc n)) (reciprocal_lowest n) (omega arith) (omega arith)

-- and the inverse of n
pub reciprocal_is : (n : ℕ) → whole (pos 1) /ℚ whole (pos n) ≡ inverse (whole (pos n))
reciprocal_is n = /ℚ-is (whole (pos 1)) (whole (pos n)) ∙ *ℚ_idl (inverse (whole (pos n)))
