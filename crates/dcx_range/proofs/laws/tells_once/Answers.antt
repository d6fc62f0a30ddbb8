-- Each thing that is told shuts the others out.
use Rattle.dcx_range.proofs.Named.{tells_once}
use Rattle.dcx_range.proofs.laws.tells_once.Goals as goal

pub returns : goal.returns
returns c = tells_once
