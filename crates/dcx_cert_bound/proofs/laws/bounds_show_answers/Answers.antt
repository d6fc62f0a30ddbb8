-- The total bounds the Lagrangian, or the penalty.
use Rattle.dcx_cert_bound.proofs.Shown.{bounds_show}
use Rattle.dcx_cert_bound.proofs.laws.bounds_show_answers.Goals as goal

pub returns : goal.returns
returns c = bounds_show
