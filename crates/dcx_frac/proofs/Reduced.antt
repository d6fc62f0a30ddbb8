-- The quotient of two integers in lowest terms: what their greatest common divisor leaves, with the sign above.
use Rattle.std.proofs.Common.{◌≡◌, ◌≢◌, ℕ, ◌*◌, ◌/◌, ◌<◌, ℤ, pos, ◌*ℤ◌, ◌<ℤ◌, unsigned_abs, Bool, true, false, not, arith, sym, ap, ap₂, ◌∙◌, subst}
use Rattle.std.proofs.lemmas.Int.{ints}
use mathlib.Core.Bool.{beq}
use lib.Signed.{lt_z}
use native.Mathlib.Nat.{div-mul_cancel}
use Rattle.dcx_math.specs.Integers.{ring, units}
use Rattle.dcx_math.specs.Divisors.{gcd, IsCoprime}
use Rattle.dcx_math.specs.Rational.{ratio, whole, ◌*ℚ◌, ◌/ℚ◌}
use Rattle.dcx_math.specs.LowestTerms.{IsInLowestTerms}
use Rattle.dcx_math.proofs.Divisors.{gcd-pos, gcd-dvd_left, gcd-dvd_right, IsCoprime-quotients, quotient-pos}
use Rattle.dcx_math.proofs.Ratios.{ratio-*ℚ-ratio, ≡-from_products, ratio-one}
use Rattle.dcx_math.proofs.FieldLaws.{whole_injective}
use Rattle.dcx_math.proofs.Products.{/ℚ-unique}
use Rattle.dcx_frac.specs.Fits.{signed}
use Rattle.dcx_frac.proofs.Signs.{is_negative, lt_zero, signed-abs, unsigned_abs-signed, abs-pos}

-- the cross products, by signs and sizes
crossed : (s t : Bool) (p q g : ℕ) → signed (not (beq s t)) p *ℤ signed t (q * g) ≡ signed s (p * g) *ℤ pos q
crossed true true p q g = simp ring (omega (arith, ints))
crossed true false p q g = simp ring (omega (arith, ints))
crossed false true p q g = simp ring (omega (arith, ints))
crossed false false p q g = omega (arith, ints)

-- n / d, where d is not 0
module _ (n d : ℤ) (some : d ≢ pos 0) where
  -- whether the quotient is negative
  abbrev pub sign : Bool
  sign = not (beq (lt_z n (pos 0)) (lt_z d (pos 0)))

  -- what comes out of both
  abbrev pub common : ℕ
  common = gcd (unsigned_abs n) (unsigned_abs d)

  -- it is positive
  pub common_pos : 0 < common
  common_pos = gcd-pos (unsigned_abs n) (unsigned_abs d) (abs-pos d some)

  -- so is what is left below
  pub lower_pos : 0 < unsigned_abs d / common
  lower_pos = quotient-pos (unsigned_abs d) common (abs-pos d some) (gcd-dvd_right (unsigned_abs n) (unsigned_abs d))

  -- what is left is coprime
  pub parts_coprime : IsCoprime (unsigned_abs n / common) (unsigned_abs d / common)
  parts_coprime = IsCoprime-quotients (unsigned_abs n) (unsigned_abs d) common_pos

  quotient_cross : signed sign (unsigned_abs n / common) *ℤ d ≡ n *ℤ pos (unsigned_abs d / common)
  quotient_cross =
      let g = common in
      let p = unsigned_abs n / g in
      let q = unsigned_abs d / g in
      let sn : signed (is_negative n) (p * g) ≡ n = ap (signed (is_negative n)) (div-mul_cancel g (gcd-dvd_left (unsigned_abs n) (unsigned_abs d))) ∙ signed-abs n in
      let sd : signed (is_negative d) (q * g) ≡ d = ap (signed (is_negative d)) (div-mul_cancel g (gcd-dvd_right (unsigned_abs n) (unsigned_abs d))) ∙ signed-abs d in
      let flag = ap₂ (λ s t. signed (not (beq s t)) p) (lt_zero n) (lt_zero d) in
      ap₂ ◌*ℤ◌ flag (sym sd) ∙ crossed (is_negative n) (is_negative d) p q g ∙ ap (λ z. z *ℤ pos q) sn

  -- the quotient in lowest terms
  pub quotient_lowest : IsInLowestTerms (whole n /ℚ whole d) (signed sign (unsigned_abs n / common)) (pos (unsigned_abs d / common))
  quotient_lowest =
      let m = signed sign (unsigned_abs n / common) in
      let e = pos (unsigned_abs d / common) in
      let low = lower_pos in
      let positive : pos 0 <ℤ e = omega (arith, ints) in
      record {
        positive = positive;
        coprime = subst (λ k. IsCoprime k (unsigned_abs d / common)) (sym (unsigned_abs-signed sign (unsigned_abs n / common))) parts_coprime;
        is = /ℚ-unique (whole n) (whole d) (ratio m e positive) (λ z. some (whole_injective d (pos 0) z)) (times m e positive quotient_cross);
      }
    where
      times : (m e : ℤ) (p : pos 0 <ℤ e) → m *ℤ d ≡ n *ℤ e → ratio m e p *ℚ whole d ≡ whole n
      times m e p h =
          let one : pos 0 <ℤ pos 1 = omega (arith, ints) in
          ap (λ u. ratio m e p *ℚ u) (sym (ratio-one d one)) ∙ ratio-*ℚ-ratio m e d (pos 1) p one
          ∙ ≡-from_products (m *ℤ d) (e *ℤ pos 1) n (pos 1) _ one (simp units h) ∙ ratio-one n one
