-- Multiplying or dividing numbers gives numbers.
use Rattle.std.proofs.Common.{IsSome}
use Rattle.dcx_linear.specs.ParamForms.{number_of_form, change_gives_form}
use Rattle.dcx_linear.proofs.Coefficients.{change_keeps}
use Rattle.dcx_linear.proofs.NumberForms.{change_number}
use Rattle.dcx_linear.proofs.sum_laws.numbers_of_changed.Goals as goal

pub returns : goal.returns
returns c = λ change f h s a. change_keeps number_of_form (λ x. IsSome (number_of_form x)) change_gives_form change_number change f h s a
