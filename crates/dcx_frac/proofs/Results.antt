-- An answer that is exact, comes exactly where the operation fits, and tells what was asked, is the one answer.
use Rattle.std.proofs.Common.{◌≡◌, ◌↔◌, refl, sym, ap, ◌∙◌, Option, Some, None, IsSome, IfSome, Result, Ok, Err, IsOk, IfOk, IfErr}
use Rattle.std.specs.Option.{ok_or}
use Rattle.dcx_math.specs.Rational.{ℚ, ◌+ℚ◌, ◌-ℚ◌, ◌*ℚ◌, ◌/ℚ◌}
use Rattle.dcx_math.proofs.LowestTerms.{numerator_is}
use Rattle.dcx_frac.specs.declared.fraction.Frac.{Frac}
use Rattle.dcx_frac.specs.declared.fraction.Op.{Op}
use Rattle.dcx_frac.specs.declared.fraction.Op.TheVariants.{Add, Sub, Mul, Div}
use Rattle.dcx_frac.specs.declared.fraction.Passes.{Passes}
use Rattle.dcx_frac.specs.Fits.{IsRepresentable}
use Rattle.dcx_frac.specs.Frac.{value}
use Rattle.dcx_frac.specs.Formed.{SumFits, DifferenceFits, ProductFits, QuotientFits}
use Rattle.dcx_frac.specs.Results.{frac_of, answer, sum_of, difference_of, product_of, quotient_of}
use Rattle.dcx_frac.proofs.Parts.{value_injective}
use Rattle.dcx_frac.proofs.Turns.{sum_representable, difference_representable}

-- the value of the fraction that a number is
pub value-frac_of : (x : ℚ) (h : IsRepresentable x) → value (frac_of x h) ≡ x
unfolding frac_of
value-frac_of x h = sym (numerator_is x).is

-- r is the exact result z of the operation, or tells what was asked, exactly where it doesn't fit
pub record IsAnswer (op : Op) (x y : Frac) (z : ℚ) (Fit : Type 0) (r : Result Frac Passes) : Type 0 where
  pub exact : IfOk r (λ f. value f ≡ z)
  pub fits : IsOk r ↔ Fit
  pub told : IfErr r (λ p. p ≡ record { op = op; left = x; right = y })

-- the answers of one operation on x and y, where what fits is representable
module _ {Fit : Type 0} (op : Op) (x y : Frac) (z : ℚ) (holds : Fit → IsRepresentable z) where
  -- the defined answer is one
  pub answer_is : (d : Dec Fit) (e : Dec (IsRepresentable z)) → IsAnswer op x y z Fit (answer op x y z d e)
  answer_is (yes h) (yes r) = record { exact = value-frac_of z r; fits = ((λ s. h), (λ k. refl)); told = tt }
  answer_is (yes h) (no n) = absurd (n (holds h))
  answer_is (no n) e = record { exact = tt; fits = ((λ s. cc), (λ h. absurd (n h))); told = refl }

  -- there is one
  pub is_answer : (r s : Result Frac Passes) → IsAnswer op x y z Fit r → IsAnswer op x y z Fit s → r ≡ s
  is_answer (Ok f) (Ok g) a b = ap Ok (value_injective f g (a.exact ∙ sym b.exact))
  is_answer (Ok f) (Err q) a b = let k = b.fits.1 (a.fits.0 refl) in cc
  is_answer (Err p) (Ok g) a b = let k = a.fits.1 (b.fits.0 refl) in cc
  is_answer (Err p) (Err q) a b = ap Err (a.told ∙ sym b.told)

  -- what the code answers of the number that it found
  pub found_is : (found : Option Frac) (r : Result Frac Passes) → r ≡ ok_or found (record { op = op; left = x; right = y }) → (IsSome found ↔ Fit)
      → IfSome found (λ f. value f ≡ z) → IsAnswer op x y z Fit r
  found_is None r is e v = rw is (record { exact = tt; fits = e; told = refl })
  found_is (Some f) r is e v = rw is (record { exact = v; fits = e; told = tt })

-- each function is the answer of its operation, and the only one
pub sum_of_is : (x y : Frac) → IsAnswer Add x y (value x +ℚ value y) (SumFits x y) (sum_of x y)
unfolding sum_of
sum_of_is x y = answer_is Add x y (value x +ℚ value y) (sum_representable x y) _ _

pub is_sum_of : (x y : Frac) (r : Result Frac Passes) → IsAnswer Add x y (value x +ℚ value y) (SumFits x y) r → r ≡ sum_of x y
is_sum_of x y r a = is_answer Add x y (value x +ℚ value y) (sum_representable x y) r (sum_of x y) a (sum_of_is x y)

pub difference_of_is : (x y : Frac) → IsAnswer Sub x y (value x -ℚ value y) (DifferenceFits x y) (difference_of x y)
unfolding difference_of
difference_of_is x y = answer_is Sub x y (value x -ℚ value y) (difference_representable x y) _ _

pub is_difference_of : (x y : Frac) (r : Result Frac Passes) → IsAnswer Sub x y (value x -ℚ value y) (DifferenceFits x y) r → r ≡ difference_of x y
is_difference_of x y r a = is_answer Sub x y (value x -ℚ value y) (difference_representable x y) r (difference_of x y) a (difference_of_is x y)

pub product_of_is : (x y : Frac) → IsAnswer Mul x y (value x *ℚ value y) (ProductFits x y) (product_of x y)
unfolding product_of
product_of_is x y = answer_is Mul x y (value x *ℚ value y) (λ fit. fit) _ _

pub is_product_of : (x y : Frac) (r : Result Frac Passes) → IsAnswer Mul x y (value x *ℚ value y) (ProductFits x y) r → r ≡ product_of x y
is_product_of x y r a = is_answer Mul x y (value x *ℚ value y) (λ fit. fit) r (product_of x y) a (product_of_is x y)

pub quotient_of_is : (x y : Frac) → IsAnswer Div x y (value x /ℚ value y) (QuotientFits x y) (quotient_of x y)
unfolding quotient_of
quotient_of_is x y = answer_is Div x y (value x /ℚ value y) (λ fit. fit) _ _

pub is_quotient_of : (x y : Frac) (r : Result Frac Passes) → IsAnswer Div x y (value x /ℚ value y) (QuotientFits x y) r → r ≡ quotient_of x y
is_quotient_of x y r a = is_answer Div x y (value x /ℚ value y) (λ fit. fit) r (quotient_of x y) a (quotient_of_is x y)

-- none is no number
pub none_some : (r : Option Frac) → r ≡ None → IsSome r → ⊥
none_some None e s = cc
none_some (Some f) e s = cc
