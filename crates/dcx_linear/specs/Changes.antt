-- Multiplying and dividing by a fraction.
use Rattle.std.specs.Prelude.{◌≡◌, pos, Result, Bool}
use Rattle.dcx_math.specs.Rational.{ℚ, whole, ◌*ℚ◌, ◌/ℚ◌, rat_eq}
use Rattle.dcx_frac.specs.declared.fraction.Frac.{Frac}
use Rattle.dcx_frac.specs.declared.fraction.Passes.{Passes}
use Rattle.dcx_frac.specs.Frac.{value}
use Rattle.dcx_frac.specs.Results.{product_of, quotient_of}
use Rattle.dcx_linear.specs.declared.change.Change.{Change}
use Rattle.dcx_linear.specs.declared.change.Change.TheVariants.{Scale, Divide}

-- nothing is divided by 0
abbrev pub IsAllowed : Change → Type 0
IsAllowed (Scale by) = Unit {0}
IsAllowed (Divide by) = ¬ (value by ≡ whole (pos 0))

-- the changed number
abbrev pub changed : Change → ℚ → ℚ
changed (Scale by) x = value by *ℚ x
changed (Divide by) x = x /ℚ value by

-- what forming the changed fraction answers
abbrev pub changed_frac : Change → Frac → Result Frac Passes
changed_frac (Scale by) f = product_of by f
changed_frac (Divide by) f = quotient_of f by

-- the test whether a fraction is 0
abbrev pub zero_test : Frac → Bool
zero_test x = rat_eq (value x) (whole (pos 0))
