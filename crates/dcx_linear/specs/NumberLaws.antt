-- The laws of fractions as coefficients.
use Rattle.std.proofs.Common.{◌≡◌, ℕ, List, Option, Some, IfSome, Result, Ok, IfOk, sym, ◌∙◌, subst}
use Rattle.dcx_math.specs.Rational.{ℚ, ◌+ℚ◌}
use Rattle.dcx_frac.specs.declared.fraction.Frac.{Frac}
use Rattle.dcx_frac.specs.declared.fraction.Passes.{Passes}
use Rattle.dcx_frac.specs.Frac.{value}
use Rattle.dcx_frac.specs.Results.{sum_of, product_of, quotient_of}
use Rattle.dcx_frac.proofs.Results.{sum_of_is, product_of_is, quotient_of_is}
use Rattle.dcx_point.specs.Pairs.{Pairs}
use Rattle.dcx_linear.specs.declared.change.Change.{Change}
use Rattle.dcx_linear.specs.declared.change.Change.TheVariants.{Scale, Divide}
use Rattle.dcx_linear.specs.Changes.{changed, changed_frac}
use Rattle.dcx_linear.specs.Parameters.{Parameters, entry_of}

-- two answers that are the same one are equal
pub one_answer : {A : Type 0} (q r s : A) → r ≡ q → s ≡ q → r ≡ s
one_answer q r s e f = e ∙ sym f

-- what is told is the number
pub told_number_lem : (c x : Frac) → Some c ≡ Some x → c ≡ x
told_number_lem c x e = cc

-- the value of an exact answer
pub exact_value : (r : Result Frac Passes) (x : ℚ) (c : Frac) → Ok c ≡ r → IfOk r (λ f. value f ≡ x) → value c ≡ x
exact_value r x c e h = let P : Result Frac Passes → Type 0 = λ q. IfOk q (λ f. value f ≡ x) in subst P (sym e) h

-- the setting's entry is the number that stands for it
pub parameter_value_lem : (position : ℕ) (name : List ℕ) (entry : ℕ) (setting : Pairs) (c : Frac) (p : Parameters)
    → entry_of setting name entry ≡ Some c → IfSome (entry_of setting name entry) (λ f. value f ≡ p position entry) → value c ≡ p position entry
parameter_value_lem position name entry setting c p e h = let P : Option Frac → Type 0 = λ q. IfSome q (λ f. value f ≡ p position entry) in subst P e h

-- the value of a sum
pub sum_value_lem : (a b c : Frac) (p : Parameters) → Ok c ≡ sum_of a b → value c ≡ value a +ℚ value b
sum_value_lem a b c p e = exact_value (sum_of a b) (value a +ℚ value b) c e (sum_of_is a b).exact

-- the value of a product or a quotient
pub change_value_lem : (change : Change) (a c : Frac) (p : Parameters) → Ok c ≡ changed_frac change a → value c ≡ changed change (value a)
change_value_lem (Scale by) a c p e = exact_value (product_of by a) _ c e (product_of_is by a).exact
change_value_lem (Divide by) a c p e = exact_value (quotient_of a by) _ c e (quotient_of_is a by).exact
