-- Integers between which a number is, and those that may be limits.
use Rattle.std.specs.Prelude.{◌≤◌, ◌^◌, ℤ, ◌+ℤ◌, pos, unsigned_abs}
use Rattle.dcx_math.specs.Rational.{ℚ, whole, ◌<ℚ◌}

-- the limit and the next integer are far below 2 ^ 127 in magnitude
abbrev pub HasRoom : ℤ → Type 0
HasRoom n = unsigned_abs n ≤ 2 ^ 126

-- n is the greatest integer below x, which isn't whole
pub record IsBetween (x : ℚ) (n : ℤ) : Type 0 where
  pub above : whole n <ℚ x
  pub below : x <ℚ whole (n +ℤ pos 1)
