-- Products and quotients: each entry is a sum over pairs of an entry of argument 0 and one of argument 1.
use Rattle.std.specs.Prelude.{ℕ, zero, suc, List}
use Rattle.dcx_math.specs.Rational.{ℚ, ◌*ℚ◌, ◌/ℚ◌}
use Rattle.dcx_math.specs.Sums.{rat_sum_by}
use Rattle.dcx_atom.specs.declared.flags.Sign.{Sign}
use Rattle.dcx_atom.specs.declared.flags.Trend.{Trend}
use Rattle.dcx_atom.specs.Arrays.{Entries}
use Rattle.dcx_atom.specs.Signs.{sign_at, no_trend, product_sign, by_other}
use Rattle.dcx_convex.specs.Calls.{Call, Product, Quotient}

-- entry `left` of argument 0 with entry `right` of argument 1
pub record Pair : Type 0 where
  pub left : ℕ
  pub right : ℕ

-- the sum of the products, and of the quotients, of these pairs
abbrev pub products_at : List Pair → Entries → ℚ
products_at pairs a = rat_sum_by (λ x. a 0 x.left *ℚ a 1 x.right) pairs

abbrev pub quotients_at : List Pair → Entries → ℚ
quotients_at pairs a = rat_sum_by (λ x. a 0 x.left /ℚ a 1 x.right) pairs

abbrev pub product_trend : List Sign → ℕ → Trend
product_trend signs zero = by_other (sign_at signs 1)
product_trend signs (suc i) = by_other (sign_at signs 0)

abbrev pub quotient_trend : List Sign → ℕ → Trend
quotient_trend signs zero = by_other (sign_at signs 1)
quotient_trend signs (suc i) = no_trend

-- a product of so many entries, by the pairs of each
abbrev pub product_call : ℕ → (ℕ → List Pair) → Call
product_call size pairs = record {
  kind = Product;
  size = size;
  sign = λ signs. product_sign (sign_at signs 0) (sign_at signs 1);
  trend = product_trend;
  value = λ a j. products_at (pairs j) a;
}

-- a quotient; an entry that is divided by 0 counts as 0
abbrev pub quotient_call : ℕ → (ℕ → List Pair) → Call
quotient_call size pairs = record {
  kind = Quotient;
  size = size;
  sign = λ signs. product_sign (sign_at signs 0) (sign_at signs 1);
  trend = quotient_trend;
  value = λ a j. quotients_at (pairs j) a;
}
