-- Bytes that are without fault are not at fault.
use Rattle.dcx_front.proofs.OneVerdict as holds
use Rattle.dcx_front.proofs.laws.one_verdict.Goals as goal

pub returns : goal.returns
returns c = holds.apart
