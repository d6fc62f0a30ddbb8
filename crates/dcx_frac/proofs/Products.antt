-- The product of two fractions in lowest terms: the common divisors across come out, and no others are left.
use Rattle.std.proofs.Common.{◌≡◌, ℕ, ◌*◌, ◌/◌, ◌<◌, ℤ, pos, ◌*ℤ◌, ◌<ℤ◌, unsigned_abs, arith, sym, ap, ap₂, ◌∙◌, subst, mul-pos, not, Bool}
use Rattle.std.proofs.lemmas.Int.{ints}
use mathlib.Core.Bool.{beq}
use lib.Signed.{lt_z}
use native.Mathlib.Nat.{div-mul_cancel, dvd-mul_right}
use Prim.Native.Nat.{◌∣◌}
use Rattle.dcx_math.specs.Integers.{ring}
use Rattle.dcx_math.specs.Divisors.{gcd, IsCoprime}
use Rattle.dcx_math.specs.Rational.{◌*ℚ◌}
use Rattle.dcx_math.specs.LowestTerms.{IsInLowestTerms}
use Rattle.dcx_math.proofs.Divisors.{gcd-pos, gcd-dvd_left, gcd-dvd_right, IsCoprime-quotients, IsCoprime-swap, IsCoprime-mul, dvd_trans, quotient-pos}
use Rattle.dcx_math.proofs.IntegerLaws.{abs-positive}
use Rattle.dcx_math.proofs.Ratios.{ratio-*ℚ-ratio, ≡-from_products}
use Rattle.dcx_frac.specs.declared.fraction.Frac.{Frac}
use Rattle.dcx_frac.specs.Fits.{signed}
use Rattle.dcx_frac.specs.Frac.{num_of, den_of, value}
use Rattle.dcx_frac.proofs.Signs.{is_negative, lt_zero, signed-abs, signed-times, signed-mul, unsigned_abs-signed, pos-abs}

quotient_divides : (n g : ℕ) → g ∣ n → n / g ∣ n
quotient_divides n g h = subst (λ x. n / g ∣ x) (div-mul_cancel g h) (dvd-mul_right (n / g) g)

coprime_below : (a b a' b' : ℕ) → IsCoprime a b → a' ∣ a → b' ∣ b → IsCoprime a' b'
coprime_below a b a' b' h p q d da db = h d (dvd_trans d da p) (dvd_trans d db q)

-- the sizes of a / b * c / d
module _ (a b c d : ℕ) (ha : IsCoprime a b) (hc : IsCoprime c d) (pb : 0 < b) (pd : 0 < d) where
  -- what comes out of a and d
  abbrev pub across : ℕ
  across = gcd a d

  -- what comes out of c and b
  abbrev pub back_across : ℕ
  back_across = gcd c b

  -- both are positive
  pub across_pos : 0 < across
  across_pos = gcd-pos a d pd

  pub back_across_pos : 0 < back_across
  back_across_pos = gcd-pos c b pb

  -- the size of the numerator
  abbrev pub upper_size : ℕ
  upper_size = a / across * (c / back_across)

  -- the size of the denominator
  abbrev pub lower_size : ℕ
  lower_size = b / back_across * (d / across)

  -- the sizes are coprime
  pub sizes_coprime : IsCoprime upper_size lower_size
  sizes_coprime =
      let a' = a / across in
      let c' = c / back_across in
      let b' = b / back_across in
      let d' = d / across in
      let ab : IsCoprime a' b' = coprime_below a b a' b' ha (quotient_divides a across (gcd-dvd_left a d)) (quotient_divides b back_across (gcd-dvd_right c b)) in
      let ad : IsCoprime a' d' = IsCoprime-quotients a d across_pos in
      let cb : IsCoprime c' b' = IsCoprime-quotients c b back_across_pos in
      let cd : IsCoprime c' d' = coprime_below c d c' d' hc (quotient_divides c back_across (gcd-dvd_left c b)) (quotient_divides d across (gcd-dvd_right a d)) in
      let left = IsCoprime-mul a' b' d' ab ad in
      let right = IsCoprime-mul c' b' d' cb cd in
      IsCoprime-swap lower_size upper_size (IsCoprime-mul lower_size a' c' (IsCoprime-swap a' lower_size left) (IsCoprime-swap c' lower_size right))

  -- the denominator is positive
  pub lower_size_pos : 0 < lower_size
  lower_size_pos = mul-pos (quotient-pos b back_across pb (gcd-dvd_right c b)) (quotient-pos d across pd (gcd-dvd_right a d))

  -- what came out gives the product of the numerators again
  pub upper_whole : upper_size * (across * back_across) ≡ a * c
  upper_whole =
      let ea = div-mul_cancel across (gcd-dvd_left a d) in
      let ec = div-mul_cancel back_across (gcd-dvd_left c b) in
      let split : upper_size * (across * back_across) ≡ (a / across * across) * (c / back_across * back_across) = omega arith in
      split ∙ ap₂ ◌*◌ ea ec

  -- and that of the denominators
  pub lower_whole : lower_size * (across * back_across) ≡ b * d
  lower_whole =
      let eb = div-mul_cancel back_across (gcd-dvd_right c b) in
      let ed = div-mul_cancel across (gcd-dvd_right a d) in
      let split : lower_size * (across * back_across) ≡ (b / back_across * back_across) * (d / across * across) = omega arith in
      split ∙ ap₂ ◌*◌ eb ed

cross : (n d a b g : ℤ) → n *ℤ g ≡ a → d *ℤ g ≡ b → n *ℤ b ≡ a *ℤ d
cross n d a b g hn hd = rw (← hn, ← hd) (simp ring)

-- the same of two fractions
module _ (x y : Frac) where
  -- the size of the numerator
  abbrev pub upper : ℕ
  upper = upper_size (unsigned_abs (num_of x)) (unsigned_abs (den_of x)) (unsigned_abs (num_of y)) (unsigned_abs (den_of y)) x.lowest y.lowest
      (abs-positive (den_of x) x.positive) (abs-positive (den_of y) y.positive)

  -- the size of the denominator
  abbrev pub lower : ℕ
  lower = lower_size (unsigned_abs (num_of x)) (unsigned_abs (den_of x)) (unsigned_abs (num_of y)) (unsigned_abs (den_of y)) x.lowest y.lowest
      (abs-positive (den_of x) x.positive) (abs-positive (den_of y) y.positive)

  -- whether the product is negative
  abbrev pub sign : Bool
  sign = not (beq (lt_z (num_of x) (pos 0)) (lt_z (num_of y) (pos 0)))

  -- what comes out is positive
  pub left_pos : 0 < gcd (unsigned_abs (num_of x)) (unsigned_abs (den_of y))
  left_pos = gcd-pos (unsigned_abs (num_of x)) (unsigned_abs (den_of y)) (abs-positive (den_of y) y.positive)

  pub right_pos : 0 < gcd (unsigned_abs (num_of y)) (unsigned_abs (den_of x))
  right_pos = gcd-pos (unsigned_abs (num_of y)) (unsigned_abs (den_of x)) (abs-positive (den_of x) x.positive)

  -- the parts are coprime
  pub parts_coprime : IsCoprime upper lower
  parts_coprime = sizes_coprime (unsigned_abs (num_of x)) (unsigned_abs (den_of x)) (unsigned_abs (num_of y)) (unsigned_abs (den_of y)) x.lowest y.lowest
      (abs-positive (den_of x) x.positive) (abs-positive (den_of y) y.positive)

  -- the denominator is positive
  pub lower_pos : 0 < lower
  lower_pos = lower_size_pos (unsigned_abs (num_of x)) (unsigned_abs (den_of x)) (unsigned_abs (num_of y)) (unsigned_abs (den_of y)) x.lowest y.lowest
      (abs-positive (den_of x) x.positive) (abs-positive (den_of y) y.positive)

  -- the product in lowest terms
  pub product_lowest : IsInLowestTerms (value x *ℚ value y) (signed sign upper) (pos lower)
  product_lowest =
      let a = unsigned_abs (num_of x) in
      let b = unsigned_abs (den_of x) in
      let c = unsigned_abs (num_of y) in
      let d = unsigned_abs (den_of y) in
      let g = gcd a d * gcd c b in
      let sx = is_negative (num_of x) in
      let sy = is_negative (num_of y) in
      let some = lower_pos in
      let positive : pos 0 <ℤ pos lower = omega (arith, ints) in
      let n : signed sign upper *ℤ pos g ≡ num_of x *ℤ num_of y =
      ap (λ s. signed s upper *ℤ pos g) (ap₂ (λ s t. not (beq s t)) (lt_zero (num_of x)) (lt_zero (num_of y))) ∙ signed-times (not (beq sx sy)) upper g
      ∙ ap (signed (not (beq sx sy))) (upper_whole a b c d x.lowest y.lowest (abs-positive (den_of x) x.positive) (abs-positive (den_of y) y.positive)) ∙ signed-mul sx sy a c
      ∙ ap₂ ◌*ℤ◌ (signed-abs (num_of x)) (signed-abs (num_of y)) in
      let m : pos lower *ℤ pos g ≡ den_of x *ℤ den_of y =
      ap pos (lower_whole a b c d x.lowest y.lowest (abs-positive (den_of x) x.positive) (abs-positive (den_of y) y.positive))
      ∙ ap₂ ◌*ℤ◌ (pos-abs (den_of x) x.positive) (pos-abs (den_of y) y.positive) in
      record {
        positive = positive;
        coprime = subst (λ k. IsCoprime k lower) (sym (unsigned_abs-signed sign upper)) parts_coprime;
        is = ratio-*ℚ-ratio (num_of x) (den_of x) (num_of y) (den_of y) x.positive y.positive
            ∙ sym (≡-from_products (signed sign upper) (pos lower) (num_of x *ℤ num_of y) (den_of x *ℤ den_of y) positive _
            (cross (signed sign upper) (pos lower) (num_of x *ℤ num_of y) (den_of x *ℤ den_of y) (pos g) n m));
      }
