-- One more place stands at the end.
use Rattle.std.proofs.Common.{rules}
use Rattle.dcx_trial.proofs.Ranges.{one_place_more}
use Rattle.dcx_trial.proofs.script.places.Goals as goal

pub loop-place-preserved : goal.loop-place-preserved
loop-place-preserved c = rw one_place_more (search rules)
