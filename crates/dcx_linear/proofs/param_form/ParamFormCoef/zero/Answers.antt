-- The number 0 as a form is made of the one fraction that is 0.
use Rattle.std.proofs.Common.{ap, ◌∙◌}
use Rattle.dcx_atom.proofs.FormedSums.{zero_frac-unique}
use Rattle.dcx_linear.specs.ParamForms.{form_of_number}
use Rattle.dcx_linear.proofs.param_form.ParamFormCoef.zero.Goals as goal

pub returns : goal.returns
returns c = c.number.ensures ∙ ap form_of_number (zero_frac-unique c.zero.result c.zero.ensures)
