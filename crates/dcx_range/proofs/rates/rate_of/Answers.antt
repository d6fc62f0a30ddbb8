-- The product is that of the definition.
use Rattle.std.proofs.Common.{Ok, sym, ap, ◌∙◌}
use Rattle.dcx_atom.specs.Formed.{and_then}
use Rattle.dcx_range.specs.Operations.{kept_rate}
use Rattle.dcx_range.proofs.Coefficients.{rate_is}
use Rattle.dcx_std.specs.WholeRows.{opposite}
use Rattle.dcx_range.proofs.rates.rate_of.Goals as goal

pub returns-in-Ok-clause-rate : goal.returns-in-Ok-clause-rate
returns-in-Ok-clause-rate c =
    sym (rate_is c.args.position c.args.constant.now c.args.int.now c.turned-factor.result c.opposite-negated.result c.mul.result c.turned-factor.ensures
    (c.opposite-negated.ensures ∙ ap opposite c.coefficient_of-coefficient.ensures.value) c.mul.ensures.answer
    ∙ ap (λ r. and_then r (λ h. Ok (kept_rate c.args.int.now h))) c.in-Ok.is)

pub returns-in-Err-clause-rate : goal.returns-in-Err-clause-rate
returns-in-Err-clause-rate c =
    sym (rate_is c.args.position c.args.constant.now c.args.int.now c.turned-factor.result c.opposite-negated.result c.mul.result c.turned-factor.ensures
    (c.opposite-negated.ensures ∙ ap opposite c.coefficient_of-coefficient.ensures.value) c.mul.ensures.answer
    ∙ ap (λ r. and_then r (λ h. Ok (kept_rate c.args.int.now h))) c.in-Err.is)
