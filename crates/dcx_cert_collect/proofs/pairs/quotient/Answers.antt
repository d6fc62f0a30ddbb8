-- A quotient by 0 is 0.
use Rattle.dcx_cert_collect.proofs.Counting.{zero_quotient}
use Rattle.dcx_cert_collect.proofs.pairs.quotient.Goals as goal

pub returns-then-is_zero : goal.returns-then-is_zero
returns-then-is_zero c = zero_quotient c.args.coefficient c.args.number c.zero.result (c.is_zero.ensures.0 c.if-is_zero.true) c.zero.ensures
