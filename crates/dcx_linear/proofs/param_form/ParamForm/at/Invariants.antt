-- From the number so far the terms that are left lead to the number at the setting.
use Rattle.std.proofs.Common.{◌≡◌, drop}
use Rattle.dcx_linear.specs.ParamForms.{plus_terms}
use Rattle.dcx_linear.proofs.param_form.ParamForm.at.Given as goal

abbrev pub invariant-terms : goal.invariant-terms
invariant-terms l = plus_terms l.setting l.number (drop l.term-index l.term-items) ≡ plus_terms l.setting l.fn.self.constant l.fn.self.terms
