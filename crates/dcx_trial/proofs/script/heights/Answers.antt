-- One more height stands at the end.
use Rattle.std.proofs.Common.{rules}
use Rattle.dcx_trial.proofs.Ranges.{one_height_more}
use Rattle.dcx_trial.proofs.script.heights.Goals as goal

pub loop-place-preserved : goal.loop-place-preserved
loop-place-preserved c = rw one_height_more (search rules)
