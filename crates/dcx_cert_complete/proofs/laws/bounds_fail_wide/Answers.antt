-- The bound checks fail with nothing else.
use Rattle.dcx_cert_complete.proofs.Checked.{bounds_fail_wide}
use Rattle.dcx_cert_complete.proofs.laws.bounds_fail_wide.Goals as goal

pub returns : goal.returns
returns c = bounds_fail_wide
