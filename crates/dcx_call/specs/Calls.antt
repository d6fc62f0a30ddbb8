-- The shape, the sign and the trend of each call.
use Rattle.std.specs.Prelude.{ℕ, zero, suc, List, [], ◌∷◌, Option, Some, None, pos}
use Rattle.std.specs.List.{list_all}
use Rattle.dcx_math.specs.Rational.{whole, rat_le}
use Rattle.dcx_frac.specs.declared.fraction.Frac.{Frac}
use Rattle.dcx_frac.specs.Frac.{value}
use Rattle.dcx_shape.specs.declared.shape.Sides.{Sides}
use Rattle.dcx_shape.specs.Shape.{sides_of}
use Rattle.dcx_atom.specs.declared.flags.Sign.{Sign}
use Rattle.dcx_atom.specs.declared.flags.Trend.{Trend}
use Rattle.dcx_atom.specs.Signs.{sign_at, no_trend, product_sign, by_other}
use Rattle.dcx_affine.specs.declared.pairing.Pairing.{Pairing}
use Rattle.dcx_affine.specs.declared.pairing.Pairing.TheVariants.{Times, MatTimes, Over}
use Rattle.dcx_affine.specs.Pairing.{paired_sides}
use Rattle.dcx_call.specs.declared.call.Call.{Call}
use Rattle.dcx_call.specs.declared.call.Call.TheVariants as calls
use Rattle.dcx_call.specs.Attributes.{attribute_sign, counted}
use Rattle.dcx_call.specs.Atoms.{atom_meaning}
use Rattle.dcx_call.specs.Linears.{linear_meaning}

-- ---- shapes
-- its own sides, where there is no argument
abbrev pub own_sides : Sides → List Sides → Option Sides
own_sides own [] = Some own
own_sides own (a ∷ rest) = None

-- the sides of a pairing of two arguments
abbrev pub sides_of_two : Pairing → List Sides → Option Sides
sides_of_two p [] = None
sides_of_two p (a ∷ []) = None
sides_of_two p (a ∷ b ∷ []) = paired_sides p a b
sides_of_two p (a ∷ b ∷ c ∷ rest) = None

-- the sides of the value; None where the call has no value
abbrev pub shape_of : Call → List Sides → Option Sides
shape_of (calls.Variable v) args = own_sides (sides_of v.shape) args
shape_of (calls.Parameter p) args = own_sides (sides_of p.shape) args
shape_of (calls.Constant x) args = own_sides (sides_of x.shape) args
shape_of (calls.Atom a) args = (atom_meaning a).shape args
shape_of (calls.Linear l) args = (linear_meaning l).shape args
shape_of (calls.Pairing p) args = sides_of_two p args

-- ---- signs
-- the sign of numbers
abbrev pub numbers_sign : List Frac → Sign
numbers_sign xs = record {
  nonneg = list_all (λ x. rat_le (whole (pos 0)) (value x)) xs;
  nonpos = list_all (λ x. rat_le (value x) (whole (pos 0))) xs;
}

-- the sign of the value, from those of the arguments
abbrev pub sign_of : Call → List Sign → Sign
sign_of (calls.Variable v) signs = attribute_sign (counted v.whole v.attribute)
sign_of (calls.Parameter p) signs = attribute_sign p.attribute
sign_of (calls.Constant x) signs = numbers_sign x.entries
sign_of (calls.Atom a) signs = (atom_meaning a).sign signs
sign_of (calls.Linear l) signs = (linear_meaning l).sign signs
sign_of (calls.Pairing p) signs = product_sign (sign_at signs 0) (sign_at signs 1)

-- ---- trends
-- how a product or a quotient moves with a side; with a divisor it is not told
abbrev pub pairing_trend : Pairing → List Sign → ℕ → Trend
pairing_trend p signs zero = by_other (sign_at signs 1)
pairing_trend Times signs (suc i) = by_other (sign_at signs 0)
pairing_trend MatTimes signs (suc i) = by_other (sign_at signs 0)
pairing_trend Over signs (suc i) = no_trend

-- how the value moves with argument i, from the signs of the arguments
abbrev pub trend_of : Call → List Sign → ℕ → Trend
trend_of (calls.Variable v) signs i = no_trend
trend_of (calls.Parameter p) signs i = no_trend
trend_of (calls.Constant x) signs i = no_trend
trend_of (calls.Atom a) signs i = (atom_meaning a).trend i (sign_at signs i)
trend_of (calls.Linear l) signs i = (linear_meaning l).trend i
trend_of (calls.Pairing p) signs i = pairing_trend p signs i
