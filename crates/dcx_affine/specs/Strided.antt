-- Calls of one argument, each of whose entries is a number times the sum of a stride of the argument's entries.
use Rattle.std.specs.Prelude.{◌≡◌, ℕ, ◌<◌, List, Option, Some, option_and_then, pos}
use Rattle.dcx_math.specs.Rational.{ℚ, whole, ◌*ℚ◌}
use Rattle.dcx_math.specs.Sums.{IsNonnegative, rat_sum_below}
use Rattle.dcx_shape.specs.declared.shape.Sides.{Sides}
use Rattle.dcx_shape.specs.Sides.{entries_of}
use Rattle.dcx_atom.specs.declared.axis.Stride.{Stride}
use Rattle.dcx_atom.specs.Arrays.{list_below, sides_at}
use Rattle.dcx_atom.specs.Signs.{sign_at, rises}
use Rattle.dcx_atom.specs.Axis.{stride_entry}
use Rattle.dcx_atom.specs.Bounding.{only}
use Rattle.dcx_atom.specs.Linear.{LinearTerm, LinearMeaning}

-- the entries of a stride, each times a coefficient
abbrev pub stride_terms : ℚ → Stride → List LinearTerm
stride_terms c s = list_below s.count (λ i. record { argument = 0; entry = stride_entry s i; coefficient = c })

-- the sum of the entries of a stride
abbrev pub stride_sum : Stride → (ℕ → ℚ) → ℚ
stride_sum s x = rat_sum_below s.count (λ i. x (stride_entry s i))

-- one entry alone
abbrev pub one_entry : ℕ → Stride
one_entry p = record { first = p; step = 1; count = 1 }

-- no entry
abbrev pub no_entry : Stride
no_entry = record { first = 0; step = 1; count = 0 }

-- what such a call is, of an argument with these sides and entries
pub record StridedCall : Type 0 where
  -- the sides of the result
  pub result : Sides → Option Sides
  -- entry k of the value, as a user of NumPy would say it
  pub value : Sides → (ℕ → ℚ) → ℕ → ℚ
  -- the number by which each sum is multiplied
  pub coefficient : Sides → ℚ
  -- the entries that are summed for entry k
  pub stride : Sides → ℕ → Stride

-- the call as a linear one: it rises, and has the sign of its argument
abbrev pub strided_meaning : StridedCall → LinearMeaning
strided_meaning s = record {
  shape = λ args. option_and_then s.result (only args);
  trend = λ i. rises;
  sign = λ signs. sign_at signs 0;
  value = λ args a k. s.value (sides_at args 0) (a 0) k;
  terms = λ args k. stride_terms (s.coefficient (sides_at args 0)) (s.stride (sides_at args 0) k);
}

-- the number isn't below 0, and each entry of the value is the number times the sum of its stride
pub record IsStrided (s : StridedCall) : Type 0 where
  pub nonneg : (from to : Sides) → s.result from ≡ Some to → IsNonnegative (s.coefficient from)
  pub sums : (from to : Sides) → s.result from ≡ Some to → (x : ℕ → ℚ) (k : ℕ) → k < entries_of to → s.value from x k ≡ s.coefficient from *ℚ stride_sum (s.stride from k) x

-- a call that takes one entry or none, by which nothing is multiplied
abbrev pub plain : Sides → ℚ
plain from = whole (pos 1)
