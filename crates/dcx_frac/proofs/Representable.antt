-- Quotients of numbers that fit.
use Rattle.std.proofs.Common.{◌≢◌, ◌/◌, ◌<◌, ◌^◌, ℤ, pos, unsigned_abs, arith, sym, subst}
use Rattle.std.proofs.Math.Nat.{div-le_self}
use Rattle.dcx_math.specs.Rational.{whole, ◌/ℚ◌}
use Rattle.dcx_frac.specs.Fits.{Fits, IsRepresentable, representable, signed}
use Rattle.dcx_frac.proofs.Signs.{unsigned_abs-signed}
use Rattle.dcx_frac.proofs.Reduced.{sign, common, quotient_lowest}

-- a quotient of numbers that fit is representable
pub representable_quotient : (n d : ℤ) → Fits n → Fits d → d ≢ pos 0 → IsRepresentable (whole n /ℚ whole d)
representable_quotient n d num_fits den_fits some =
    let s = sign n d some in
    let g = common n d some in
    let num = unsigned_abs n / g in
    representable _ (signed s num) (pos (unsigned_abs d / g)) (quotient_lowest n d some)
    (subst (λ m. m < 2 ^ 127) (sym (unsigned_abs-signed s num)) (omega (arith, div-le_self (unsigned_abs n) g)))
    (omega (arith, div-le_self (unsigned_abs d) g))
