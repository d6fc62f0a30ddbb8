-- Where no first variable is found no variable is whole.
use Rattle.dcx_declared.proofs.Marked.{no_whole}
use Rattle.dcx_declared.proofs.whole.has_whole.Goals as goal

pub returns-in_default : goal.returns-in_default
returns-in_default c = no_whole c.args.problem.now c.in_default.ensures
