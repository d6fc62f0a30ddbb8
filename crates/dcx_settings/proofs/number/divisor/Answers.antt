-- Digits behind a slash are a divisor, unless they are 0.
use Rattle.dcx_settings.proofs.Numbers.{quotient_read_is}
use Rattle.dcx_settings.proofs.number.divisor.Goals as goal

pub returns-in-Some-quotient-clause-ok : goal.returns-in-Some-quotient-clause-ok
returns-in-Some-quotient-clause-ok c =
    let q = c.in-Some-quotient.ensures.some in
    quotient_read_is _ _ _ c.in-Some-quotient.number c.signed.result _ _ c.in-Some.ensures.first q.0 q.1 c.signed.ensures
