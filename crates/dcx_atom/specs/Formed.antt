-- What it means to form a number in 128 bits: the operations of a small formula, in order, up to the first that passes.
use Rattle.std.specs.Prelude.{pos, List, [], ◌∷◌, map, Result, Ok, Err}
use Rattle.std.proofs.Common.{lit<}
use native.Mathlib.Nat.{eq-one_of_dvd-one}
use Rattle.dcx_math.specs.Rational.{ℚ, whole, ◌-ℚ◌, ◌*ℚ◌}
use Rattle.dcx_math.specs.Sums.{rat_sum}
use Rattle.dcx_frac.specs.declared.fraction.Frac.{Frac}
use Rattle.dcx_frac.specs.declared.fraction.Passes.{Passes}
use Rattle.dcx_frac.specs.Fits.{IsRepresentable}
use Rattle.dcx_frac.specs.Results.{frac_of, dec_fits, sum_of, difference_of, product_of}

-- the fraction 0
abbrev pub zero_frac : Frac
zero_frac = record { num = pos 0; den = pos 1; positive = record { lt = tt }; lowest = λ d z h. eq-one_of_dvd-one h; num_fits = lit< tt; den_fits = lit< tt }

-- the fraction that x is; 0 where x is no fraction of 128 bits
unfoldable pub frac_at : ℚ → Frac
frac_at x = by (dec_fits x)
  where
    by : Dec (IsRepresentable x) → Frac
    by (yes fits) = frac_of x fits
    by (no wide) = zero_frac

-- the fraction 1
abbrev pub one_frac : Frac
one_frac = frac_at (whole (pos 1))

-- goes on with what was formed
abbrev pub and_then : {A B : Type 0} → Result A Passes → (A → Result B Passes) → Result B Passes
and_then (Ok x) f = f x
and_then (Err passes) f = Err passes

-- x + y1 + y2 + .., from the left
abbrev pub sum_from : Frac → List Frac → Result Frac Passes
sum_from x [] = Ok x
sum_from x (y ∷ ys) = and_then (sum_of x y) (λ z. sum_from z ys)

-- 0 + x1 + x2 + .., from the left
abbrev pub sum_in_order : List ℚ → Result Frac Passes
sum_in_order xs = sum_from zero_frac (map frac_at xs)

-- a formula over numbers of 128 bits
pub data Formula : Type 0 where
  -- a number, for which nothing is formed
  number : ℚ → Formula
  -- the sum of the numbers in order, from 0
  total : List ℚ → Formula
  difference : ℚ → ℚ → Formula
  product : ℚ → ℚ → Formula

-- the exact number that a formula stands for
abbrev pub exact : Formula → ℚ
exact (number x) = x
exact (total xs) = rat_sum xs
exact (difference x y) = x -ℚ y
exact (product x y) = x *ℚ y

-- the number, or its first operation that passes 128 bits
abbrev pub formed : Formula → Result Frac Passes
formed (number x) = Ok (frac_at x)
formed (total xs) = sum_in_order xs
formed (difference x y) = difference_of (frac_at x) (frac_at y)
formed (product x y) = product_of (frac_at x) (frac_at y)
