-- The numbers that an operation on two fractions forms. It passes 128 bits exactly where one of them doesn't fit.
use Rattle.std.specs.Prelude.{◌≡◌, ◌⊎◌, ℕ, ℤ, pos, ◌+ℤ◌, ◌-ℤ◌, ◌*ℤ◌, unsigned_abs}
use Rattle.dcx_math.specs.Rational.{whole, ◌+ℚ◌, ◌-ℚ◌, ◌*ℚ◌, ◌/ℚ◌}
use Rattle.dcx_math.specs.Divisors.{gcd, divided}
use Rattle.dcx_frac.specs.declared.fraction.Frac.{Frac}
use Rattle.dcx_frac.specs.Frac.{num_of, den_of, value}
use Rattle.dcx_frac.specs.Fits.{Fits, IsRepresentable}

-- of a / b and c / d: g, the greatest common divisor of b and d
abbrev pub shared_divisor : Frac → Frac → ℕ
shared_divisor x y = gcd (unsigned_abs (den_of x)) (unsigned_abs (den_of y))

-- a * (d / g)
abbrev pub left_term : Frac → Frac → ℤ
left_term x y = num_of x *ℤ divided (shared_divisor x y) (den_of y)

-- c * (b / g)
abbrev pub right_term : Frac → Frac → ℤ
right_term x y = num_of y *ℤ divided (shared_divisor x y) (den_of x)

-- all numbers fit that the sum of two fractions forms: both terms, their sum, and the parts of the result in lowest terms
pub record FormsSum (x y : Frac) : Type 0 where
  pub left : Fits (left_term x y)
  pub right : Fits (right_term x y)
  pub sum : Fits (left_term x y +ℤ right_term x y)
  pub parts : IsRepresentable (value x +ℚ value y)

-- the same for the difference
pub record FormsDifference (x y : Frac) : Type 0 where
  pub left : Fits (left_term x y)
  pub right : Fits (right_term x y)
  pub difference : Fits (left_term x y -ℤ right_term x y)
  pub parts : IsRepresentable (value x -ℚ value y)

-- the number is 0
abbrev pub IsZero : Frac → Type 0
IsZero x = value x ≡ whole (pos 0)

-- a sum with a zero operand forms nothing
abbrev pub SumFits : Frac → Frac → Type 0
SumFits x y = IsZero x ⊎ IsZero y ⊎ FormsSum x y

-- neither does a difference with one
abbrev pub DifferenceFits : Frac → Frac → Type 0
DifferenceFits x y = IsZero x ⊎ IsZero y ⊎ FormsDifference x y

-- a product forms the parts of the result in lowest terms; with 0, 1 or -1 they are those of 0 or of the other operand up to sign, so it always fits
abbrev pub ProductFits : Frac → Frac → Type 0
ProductFits x y = IsRepresentable (value x *ℚ value y)

-- a quotient is the product with the turned-over right side
abbrev pub QuotientFits : Frac → Frac → Type 0
QuotientFits x y = IsRepresentable (value x /ℚ value y)
