-- The test is exact.
use Rattle.std.proofs.Common.{inr, refl}
use Rattle.dcx_cert_check.proofs.Demands.{positive, not_positive}
use Rattle.dcx_cert_check.proofs.signs.check_gap.Goals as goal

pub returns-then-is_at_most : goal.returns-then-is_at_most
returns-then-is_at_most c = inr (not_positive c.is_at_most.result c.zero.result c.args.gap c.zero.ensures c.is_at_most.ensures c.if-is_at_most.true, refl)

pub returns : goal.returns
returns c = positive c.is_at_most.result c.zero.result c.args.gap c.zero.ensures c.is_at_most.ensures c.if-is_at_most.false
