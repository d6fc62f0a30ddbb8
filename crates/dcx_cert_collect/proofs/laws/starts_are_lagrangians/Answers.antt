-- The coefficients at the start are those of the Lagrangian.
use Rattle.dcx_cert_collect.proofs.LawsHold.{starts_hold}
use Rattle.dcx_cert_collect.proofs.laws.starts_are_lagrangians.Goals as goal

pub returns : goal.returns
returns c = starts_hold
