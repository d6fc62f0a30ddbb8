-- What is used of coefficients, and that fractions and affine numbers have it.
use Rattle.std.proofs.Common.{◌≡◌, Option, Some, IsSome, Result, Ok, refl, ap, ◌∙◌}
use Rattle.dcx_math.specs.Rational.{ℚ, ◌+ℚ◌}
use Rattle.dcx_frac.specs.declared.fraction.Frac.{Frac}
use Rattle.dcx_frac.specs.declared.fraction.Passes.{Passes}
use Rattle.dcx_frac.specs.Frac.{value}
use Rattle.dcx_frac.specs.Results.{sum_of}
use Rattle.dcx_linear.specs.declared.change.Change.{Change}
use Rattle.dcx_linear.specs.Changes.{changed, changed_frac}
use Rattle.dcx_linear.specs.Parameters.{Parameters}
use Rattle.dcx_linear.specs.NumberLaws.{told_number_lem, sum_value_lem, change_value_lem}
use Rattle.dcx_linear.specs.ParamForms.{form_value, number_of_form, form_of_number, sum_gives_form, change_gives_form}
use Rattle.dcx_linear.specs.ParamLaws.{form_number_value, form_told_number, form_sum_value, form_change_value}
use Rattle.dcx_linear.proofs.NumberForms.{sum_number, change_number}
use Rattle.dcx_linear.specs.FormsAt.{frac_value}

-- the laws of coefficients, and that sums and changes of numbers are numbers
pub record AreCoefs {C : Type 0} (value_at : C → Parameters → ℚ) (of_number : Frac → C) (number_of : C → Option Frac) (Sums : C → C → Result C Passes → Type 0)
    (Changes : Change → C → Result C Passes → Type 0) : Type 0 where
  pub number_value : (x : Frac) (p : Parameters) → value_at (of_number x) p ≡ value x
  pub number_told : (x : Frac) → number_of (of_number x) ≡ Some x
  pub told_value : (c : C) (x : Frac) (p : Parameters) → number_of c ≡ Some x → value_at c p ≡ value x
  pub sum_value : (a b c : C) (p : Parameters) → Sums a b (Ok c) → value_at c p ≡ value_at a p +ℚ value_at b p
  pub change_value : (change : Change) (a c : C) (p : Parameters) → Changes change a (Ok c) → value_at c p ≡ changed change (value_at a p)
  pub sum_number : (a b c : C) → Sums a b (Ok c) → IsSome (number_of a) → IsSome (number_of b) → IsSome (number_of c)
  pub change_number : (change : Change) (a c : C) → Changes change a (Ok c) → IsSome (number_of a) → IsSome (number_of c)

pub fracs_are : AreCoefs frac_value (λ f. f) (λ f. Some f) (λ a b r. r ≡ sum_of a b) (λ change a r. r ≡ changed_frac change a)
fracs_are = record {
  number_value = λ x p. refl;
  number_told = λ x. refl;
  told_value = λ c x p e. ap value (told_number_lem c x e);
  sum_value = sum_value_lem;
  change_value = change_value_lem;
  sum_number = λ a b c h k l. refl;
  change_number = λ change a c h k. refl;
}

pub param_forms_are : AreCoefs form_value form_of_number number_of_form sum_gives_form change_gives_form
param_forms_are = record {
  number_value = form_number_value;
  number_told = λ x. refl;
  told_value = λ c x p e. ap (λ d. form_value d p) (form_told_number c x e) ∙ form_number_value x p;
  sum_value = form_sum_value;
  change_value = form_change_value;
  sum_number = sum_number;
  change_number = change_number;
}
