-- The number that a fraction is, and its two parts.
use Rattle.std.specs.Prelude.{ℤ}
use Rattle.dcx_math.specs.Rational.{ℚ, ratio}
use Rattle.dcx_frac.specs.declared.fraction.Frac.{Frac}

-- the upper part
abbrev pub num_of : Frac → ℤ
num_of f = f.num

-- the lower part
abbrev pub den_of : Frac → ℤ
den_of f = f.den

-- the number
abbrev pub value : Frac → ℚ
value f = ratio f.num f.den f.positive
