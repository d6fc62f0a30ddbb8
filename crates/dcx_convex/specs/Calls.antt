-- All that is known of a call at arguments of given shapes, and the laws that it keeps. The rules ask for nothing else.
use Rattle.std.specs.Prelude.{◌≡◌, ◌⊎◌, ℕ, ◌<◌, List, length, pos}
use Rattle.dcx_math.specs.Rational.{ℚ, whole, ◌+ℚ◌, ◌*ℚ◌}
use Rattle.dcx_math.specs.Sums.{IsNonnegative}
use Rattle.dcx_atom.specs.declared.flags.Sign.{Sign}
use Rattle.dcx_atom.specs.declared.flags.Trend.{Trend}
use Rattle.dcx_atom.specs.declared.flags.Bend.{Bend}
use Rattle.dcx_atom.specs.Arrays.{Entries}
use Rattle.dcx_atom.specs.Signs.{HasSign, HaveSigns, IsBeyond, Follows, combination}

-- what a call is to the curvature rules: convex or concave; linear, which is both; a product, which is both where one
-- of its two sides is constant; or a quotient, which is both where its divisor is constant
pub data Kind : Type 0 where
  Nonlinear : Bend → Kind
  Linear : Kind
  Product : Kind
  Quotient : Kind

-- a call at arguments of given shapes
pub record Call : Type 0 where
  pub kind : Kind
  -- how many entries the value has
  pub size : ℕ
  -- the sign of the value, from those of the arguments
  pub sign : List Sign → Sign
  -- how the value moves with argument i, from the signs of all arguments
  pub trend : List Sign → ℕ → Trend
  -- entry j of the value
  pub value : Entries → ℕ → ℚ

-- a call of this kind is convex, or concave, between the arguments a and b
abbrev pub BendsBetween : Kind → Bend → Entries → Entries → Type 0
BendsBetween (Nonlinear own) bend a b = own ≡ bend
BendsBetween Linear bend a b = Unit {0}
BendsBetween Product bend a b = (a 0 ≡ b 0) ⊎ (a 1 ≡ b 1)
BendsBetween Quotient bend a b = a 1 ≡ b 1

-- the laws of a call of so many arguments
pub record IsLawful (c : Call) (count : ℕ) : Type 0 where
  -- the value has the sign that is told
  pub sign_law : (signs : List Sign) (a : Entries) → length signs ≡ count → HaveSigns signs a → (j : ℕ) → j < c.size →
      HasSign (c.sign signs) (c.value a j)
  -- where `a` has the signs, and each entry of b is that of a or has gone from there as the trend allows, the value at b is beyond that at a
  pub monotonicity : (bend : Bend) (signs : List Sign) (a b : Entries) → BendsBetween c.kind bend a b → HaveSigns signs a →
      ((i k : ℕ) → Follows bend (c.trend signs i) (a i k) (b i k)) → (j : ℕ) → j < c.size → IsBeyond bend (c.value a j) (c.value b j)
  -- the value between two arguments isn't beyond the line between its values there
  pub curvature : (bend : Bend) (t r : ℚ) (a b : Entries) → BendsBetween c.kind bend a b → IsNonnegative t → IsNonnegative r →
      t +ℚ r ≡ whole (pos 1) → (j : ℕ) → j < c.size →
      IsBeyond bend (c.value (combination t r a b) j) (t *ℚ c.value a j +ℚ r *ℚ c.value b j)
