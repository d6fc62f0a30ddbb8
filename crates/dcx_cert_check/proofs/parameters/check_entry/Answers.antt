-- The test is exact.
use Rattle.dcx_cert_check.proofs.Demands.{entry_passes, entry_fails}
use Rattle.dcx_cert_check.proofs.parameters.check_entry.Goals as goal

pub returns-then-is_equal : goal.returns-then-is_equal
returns-then-is_equal c = entry_passes c.is_equal.result c.args.number c.args.entry c.args.stated c.args.found c.is_equal.ensures c.if-is_equal.true

pub returns : goal.returns
returns c = entry_fails c.is_equal.result c.args.number c.args.entry c.args.stated c.args.found c.is_equal.ensures c.if-is_equal.false
