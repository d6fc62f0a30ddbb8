-- A problem has one filter's set at a setting.
use Rattle.dcx_right.proofs.ConstraintSets.{filter_sets_are_one}
use Rattle.dcx_right.proofs.laws.filter_sets_are_one.Goals as goal

pub returns : goal.returns
returns c = filter_sets_are_one
