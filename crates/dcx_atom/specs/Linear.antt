-- All that a linear call is, its laws, and the terms as the code has them.
use Rattle.std.specs.Prelude.{◌≡◌, ℕ, ◌<◌, List, Option, Some, length, map}
use Rattle.dcx_math.specs.Rational.{ℚ, ◌*ℚ◌}
use Rattle.dcx_math.specs.Sums.{rat_sum_by}
use Rattle.dcx_frac.specs.Frac.{value}
use Rattle.dcx_shape.specs.declared.shape.Sides.{Sides}
use Rattle.dcx_shape.specs.Sides.{entries_of}
use Rattle.dcx_atom.specs.declared.flags.Sign.{Sign}
use Rattle.dcx_atom.specs.declared.flags.Trend.{Trend}
use Rattle.dcx_atom.specs.declared.flags.Bend.{Bend}
use Rattle.dcx_atom.specs.declared.terms.Triple.{Triple}
use Rattle.dcx_atom.specs.Arrays.{Entries, list_below}
use Rattle.dcx_atom.specs.Signs.{HasSign, HaveSigns, IsBeyond, Follows}

-- a coefficient times an entry of an argument
pub record LinearTerm : Type 0 where
  pub argument : ℕ
  pub entry : ℕ
  pub coefficient : ℚ

-- the sum of the terms
abbrev pub terms_at : List LinearTerm → Entries → ℚ
terms_at terms a = rat_sum_by (λ x. x.coefficient *ℚ a x.argument x.entry) terms

-- all that a linear call is; arguments are lists of sides and functions of their places
pub record LinearMeaning : Type 0 where
  -- the sides of the value; None where the call has no value
  pub shape : List Sides → Option Sides
  -- how the value moves with argument i
  pub trend : ℕ → Trend
  -- the sign of the value, from those of the arguments
  pub sign : List Sign → Sign
  -- entry j of the value
  pub value : List Sides → Entries → ℕ → ℚ
  -- the terms of entry j
  pub terms : List Sides → ℕ → List LinearTerm

-- a statement about each entry j of each value that the call has
abbrev pub ForEachEntry : LinearMeaning → (List Sides → ℕ → Type 0) → Type 0
ForEachEntry m P = (args : List Sides) (sides : Sides) → m.shape args ≡ Some sides → (j : ℕ) → j < entries_of sides → P args j

-- the value is the sum of the terms
abbrev pub IsLinear : LinearMeaning → Type 0
IsLinear m = ForEachEntry m (λ args j. (a : Entries) → m.value args a j ≡ terms_at (m.terms args j) a)

-- the value has the sign that is told
abbrev pub KeepsSign : LinearMeaning → Type 0
KeepsSign m = ForEachEntry m (λ args j. (signs : List Sign) (a : Entries) → length signs ≡ length args → HaveSigns signs a →
    HasSign (m.sign signs) (m.value args a j))

-- where each entry of b is that of a or has gone from there as the trend allows, the value at b is beyond that at a, upward and downward
abbrev pub KeepsTrend : LinearMeaning → Type 0
KeepsTrend m = ForEachEntry m (λ args j. (bend : Bend) (a b : Entries) →
    ((i k : ℕ) → Follows bend (m.trend i) (a i k) (b i k)) → IsBeyond bend (m.value args a j) (m.value args b j))

-- the term with its coefficient as a number
abbrev pub linear_term : Triple → LinearTerm
linear_term x = record { argument = x.argument; entry = x.entry; coefficient = value x.coefficient }

-- the lists have the terms of each of so many entries, in order
abbrev pub AreTermsOf : LinearMeaning → List Sides → ℕ → List (List Triple) → Type 0
AreTermsOf m args size terms = map (map linear_term) terms ≡ list_below size (m.terms args)
