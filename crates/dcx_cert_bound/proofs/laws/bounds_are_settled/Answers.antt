-- The checks of one thing each, in order.
use Rattle.std.proofs.Common.{[]}
use Rattle.dcx_cert_values.specs.Forming.{IsFixedNode}
use Rattle.dcx_cert_values.proofs.Settling.{nodes_settled}
use Rattle.dcx_cert_bound.proofs.Settled.{bounds_settled}
use Rattle.dcx_cert_bound.proofs.laws.bounds_are_settled.Goals as goal

pub returns : goal.returns
returns c = bounds_settled (λ p setting. nodes_settled p setting [] (IsFixedNode p))
