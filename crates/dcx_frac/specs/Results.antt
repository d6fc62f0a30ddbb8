-- What each operation on two fractions answers, as a function of its operands: the exact result, or what was asked.
use Rattle.std.specs.Prelude.{◌⊎◌, ◌^◌, pos, ◌+ℤ◌, ◌-ℤ◌, unsigned_abs, Result, Ok, Err}
use Rattle.std.proofs.Common.{inl, inr}
use native.Mathlib.Decide.{dec_lt}
use Rattle.dcx_math.specs.Rational.{ℚ, whole, ◌+ℚ◌, ◌-ℚ◌, ◌*ℚ◌, ◌/ℚ◌}
use Rattle.dcx_math.proofs.Orders.{ℚ_discrete}
use Rattle.dcx_math.proofs.LowestTerms.{numerator, denominator, numerator_is}
use Rattle.dcx_frac.specs.declared.fraction.Frac.{Frac}
use Rattle.dcx_frac.specs.declared.fraction.Op.{Op}
use Rattle.dcx_frac.specs.declared.fraction.Op.TheVariants.{Add, Sub, Mul, Div}
use Rattle.dcx_frac.specs.declared.fraction.Passes.{Passes}
use Rattle.dcx_frac.specs.Fits.{Fits, IsRepresentable, representable}
use Rattle.dcx_frac.specs.Frac.{value}
use Rattle.dcx_frac.specs.Formed.{IsZero, left_term, right_term, FormsSum, FormsDifference}

-- the fraction that a representable number is
unfoldable pub frac_of : (x : ℚ) → IsRepresentable x → Frac
frac_of x h =
    let lowest = numerator_is x in
    let fits = h.fits (numerator x) (denominator x) lowest in
    record { num = numerator x; den = denominator x; positive = lowest.positive; lowest = lowest.coprime; num_fits = fits.0; den_fits = fits.1 }

-- ---- each condition can be decided
-- whether a number is representable
pub dec_fits : (x : ℚ) → Dec (IsRepresentable x)
dec_fits x = by (dec_lt (unsigned_abs (numerator x)) (2 ^ 127)) (dec_lt (unsigned_abs (denominator x)) (2 ^ 127))
  where
    by : Dec (Fits (numerator x)) → Dec (Fits (denominator x)) → Dec (IsRepresentable x)
    by (yes n) (yes d) = yes (representable x (numerator x) (denominator x) (numerator_is x) n d)
    by (yes n) (no f) = no (λ h. f (h.fits (numerator x) (denominator x) (numerator_is x)).1)
    by (no f) d = no (λ h. f (h.fits (numerator x) (denominator x) (numerator_is x)).0)

-- whether a fraction is 0
pub dec_zero : (x : Frac) → Dec (IsZero x)
dec_zero x = by (ℚ_discrete (value x) (whole (pos 0)))
  where
    by : IsZero x ⊎ (¬ IsZero x) → Dec (IsZero x)
    by (inl z) = yes z
    by (inr n) = no n

-- whether the numbers of a sum fit
pub dec_sum : (x y : Frac) → Dec (FormsSum x y)
dec_sum x y =
    by (dec_lt (unsigned_abs (left_term x y)) (2 ^ 127)) (dec_lt (unsigned_abs (right_term x y)) (2 ^ 127))
    (dec_lt (unsigned_abs (left_term x y +ℤ right_term x y)) (2 ^ 127)) (dec_fits (value x +ℚ value y))
  where
    by : Dec (Fits (left_term x y)) → Dec (Fits (right_term x y)) → Dec (Fits (left_term x y +ℤ right_term x y)) → Dec (IsRepresentable (value x +ℚ value y)) → Dec (FormsSum x y)
    by (yes l) (yes r) (yes s) (yes p) = yes (record { left = l; right = r; sum = s; parts = p })
    by (yes l) (yes r) (yes s) (no f) = no (λ h. f h.parts)
    by (yes l) (yes r) (no f) p = no (λ h. f h.sum)
    by (yes l) (no f) s p = no (λ h. f h.right)
    by (no f) r s p = no (λ h. f h.left)

-- whether the numbers of a difference fit
pub dec_difference : (x y : Frac) → Dec (FormsDifference x y)
dec_difference x y =
    by (dec_lt (unsigned_abs (left_term x y)) (2 ^ 127)) (dec_lt (unsigned_abs (right_term x y)) (2 ^ 127))
    (dec_lt (unsigned_abs (left_term x y -ℤ right_term x y)) (2 ^ 127)) (dec_fits (value x -ℚ value y))
  where
    by : Dec (Fits (left_term x y)) → Dec (Fits (right_term x y)) → Dec (Fits (left_term x y -ℤ right_term x y)) → Dec (IsRepresentable (value x -ℚ value y)) → Dec (FormsDifference x y)
    by (yes l) (yes r) (yes s) (yes p) = yes (record { left = l; right = r; difference = s; parts = p })
    by (yes l) (yes r) (yes s) (no f) = no (λ h. f h.parts)
    by (yes l) (yes r) (no f) p = no (λ h. f h.difference)
    by (yes l) (no f) s p = no (λ h. f h.right)
    by (no f) r s p = no (λ h. f h.left)

-- whether one of three facts holds
pub dec_one_of : {A B C : Type 0} → Dec A → Dec B → Dec C → Dec (A ⊎ B ⊎ C)
dec_one_of (yes a) b c = yes (inl a)
dec_one_of (no f) (yes b) c = yes (inr (inl b))
dec_one_of (no f) (no g) (yes c) = yes (inr (inr c))
dec_one_of {A} {B} {C} (no f) (no g) (no k) = no none
  where
    none : A ⊎ B ⊎ C → ⊥
    none (inl a) = f a
    none (inr (inl b)) = g b
    none (inr (inr c)) = k c

-- ---- the answers
-- the exact result z where the operation fits, and else what was asked
abbrev pub answer : {Fit : Type 0} → Op → Frac → Frac → (z : ℚ) → Dec Fit → Dec (IsRepresentable z) → Result Frac Passes
answer op x y z (yes fit) (yes fits) = Ok (frac_of z fits)
answer op x y z (yes fit) (no wide) = Err (record { op = op; left = x; right = y })
answer op x y z (no wide) fits = Err (record { op = op; left = x; right = y })

-- x + y
unfoldable pub sum_of : Frac → Frac → Result Frac Passes
sum_of x y = answer Add x y (value x +ℚ value y) (dec_one_of (dec_zero x) (dec_zero y) (dec_sum x y)) (dec_fits (value x +ℚ value y))

-- x - y
unfoldable pub difference_of : Frac → Frac → Result Frac Passes
difference_of x y = answer Sub x y (value x -ℚ value y) (dec_one_of (dec_zero x) (dec_zero y) (dec_difference x y)) (dec_fits (value x -ℚ value y))

-- x * y
unfoldable pub product_of : Frac → Frac → Result Frac Passes
product_of x y = answer Mul x y (value x *ℚ value y) (dec_fits (value x *ℚ value y)) (dec_fits (value x *ℚ value y))

-- x / y
unfoldable pub quotient_of : Frac → Frac → Result Frac Passes
quotient_of x y = answer Div x y (value x /ℚ value y) (dec_fits (value x /ℚ value y)) (dec_fits (value x /ℚ value y))
