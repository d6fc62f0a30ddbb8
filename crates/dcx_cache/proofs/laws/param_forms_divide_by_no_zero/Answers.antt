-- Nodes that are formed of affine numbers have no divisor with an entry of 0.
use Rattle.dcx_cache.proofs.DivisorLawsHold.{param_forms_divide_by_no_zero}
use Rattle.dcx_cache.proofs.laws.param_forms_divide_by_no_zero.Goals as goal

pub returns : goal.returns
returns c = param_forms_divide_by_no_zero
