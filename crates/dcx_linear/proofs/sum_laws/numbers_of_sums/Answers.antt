-- Adding numbers gives numbers.
use Rattle.std.proofs.Common.{IsSome}
use Rattle.dcx_linear.specs.ParamForms.{number_of_form, sum_gives_form}
use Rattle.dcx_linear.proofs.Coefficients.{sum_keeps}
use Rattle.dcx_linear.proofs.NumberForms.{sum_number}
use Rattle.dcx_linear.proofs.sum_laws.numbers_of_sums.Goals as goal

pub returns : goal.returns
returns c = λ f g h s a b. sum_keeps number_of_form (λ x. IsSome (number_of_form x)) sum_gives_form sum_number f g h s a b
