-- Sums and differences of entries: `a + b`, `-a`, and the differences of a vector.
use Rattle.std.specs.Prelude.{ℕ, ◌+◌, ◌-◌, nat_lt, if◌then◌else◌, List, [], ◌∷◌, Option, Some, None, option_and_then, pos, negsuc}
use Rattle.dcx_math.specs.Rational.{ℚ, whole, ◌+ℚ◌, ◌-ℚ◌, neg_ℚ}
use Rattle.dcx_shape.specs.declared.shape.Sides.{Sides}
use Rattle.dcx_shape.specs.declared.shape.Sides.TheVariants.{Scalar, Vector, Matrix}
use Rattle.dcx_atom.specs.Arrays.{same_sides}
use Rattle.dcx_atom.specs.Signs.{sign_at, rises, falls, no_trend, common_sign, flipped, zero_or_unknown}
use Rattle.dcx_atom.specs.Linear.{LinearTerm, LinearMeaning}
use Rattle.dcx_atom.specs.Bounding.{only}

-- entry p of argument i, times a number
abbrev pub term : ℕ → ℕ → ℚ → LinearTerm
term i p c = record { argument = i; entry = p; coefficient = c }

-- ---- a + b
-- two arguments with the same sides
abbrev pub two_alike : List Sides → Option Sides
two_alike [] = None
two_alike (a ∷ []) = None
two_alike (a ∷ b ∷ []) = if same_sides a b then Some a else None
two_alike (a ∷ b ∷ c ∷ rest) = None

abbrev pub plus_meaning : LinearMeaning
plus_meaning = record {
  shape = two_alike;
  trend = λ i. rises;
  sign = common_sign;
  value = λ args a k. a 0 k +ℚ a 1 k;
  terms = λ args k. term 0 k (whole (pos 1)) ∷ term 1 k (whole (pos 1)) ∷ [];
}

-- ---- -a
abbrev pub minus_meaning : LinearMeaning
minus_meaning = record {
  shape = only;
  trend = λ i. falls;
  sign = λ signs. flipped (sign_at signs 0);
  value = λ args a k. neg_ℚ (a 0 k);
  terms = λ args k. term 0 k (whole (negsuc 0)) ∷ [];
}

-- ---- the differences of a vector
abbrev pub differences_sides : Sides → Option Sides
differences_sides Scalar = None
differences_sides (Vector n) = if nat_lt 1 n then Some (Vector (n - 1)) else None
differences_sides (Matrix m n) = None

abbrev pub diff_meaning : LinearMeaning
diff_meaning = record {
  shape = λ args. option_and_then differences_sides (only args);
  trend = λ i. no_trend;
  sign = λ signs. zero_or_unknown (sign_at signs 0);
  value = λ args a k. a 0 (k + 1) -ℚ a 0 k;
  terms = λ args k. term 0 k (whole (negsuc 0)) ∷ term 0 (k + 1) (whole (pos 1)) ∷ [];
}
