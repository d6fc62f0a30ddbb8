-- The total bounds the Lagrangian.
use Rattle.dcx_cert_collect.proofs.LawsHold.{totals_hold}
use Rattle.dcx_cert_collect.proofs.laws.totals_are_bounds.Goals as goal

pub returns : goal.returns
returns c = totals_hold
