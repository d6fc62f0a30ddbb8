-- Each kind of answer has its own cause.
use Rattle.dcx_range.proofs.OneRange.{ranges_are_one}
use Rattle.dcx_range.proofs.laws.ranges_are_one.Goals as goal

pub returns : goal.returns
returns c = ranges_are_one
