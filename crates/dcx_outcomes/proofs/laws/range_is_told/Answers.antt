-- One thing stands against a parameter's range, or nothing does.
use Rattle.dcx_outcomes.proofs.RangeEnds as holds
use Rattle.dcx_outcomes.proofs.laws.range_is_told.Goals as goal

pub returns : goal.returns
returns c = holds.range_is_told
