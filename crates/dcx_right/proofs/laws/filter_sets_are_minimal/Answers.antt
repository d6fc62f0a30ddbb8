-- A filter's set is impossible, and possible without any one of its constraints.
use Rattle.dcx_right.proofs.ConstraintSets.{filter_sets_are_minimal}
use Rattle.dcx_right.proofs.laws.filter_sets_are_minimal.Goals as goal

pub returns : goal.returns
returns c = filter_sets_are_minimal
