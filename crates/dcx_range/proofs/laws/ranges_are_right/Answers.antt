-- What the operations form at the last basis shows it.
use Rattle.dcx_range.proofs.Right.{ranges_are_right}
use Rattle.dcx_range.proofs.laws.ranges_are_right.Goals as goal

pub returns : goal.returns
returns c = ranges_are_right
