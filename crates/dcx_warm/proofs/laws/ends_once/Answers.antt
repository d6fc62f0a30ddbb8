-- Each pivot of a run is the only one that may be done there.
use Rattle.dcx_warm.proofs.Ending.{ends_once}
use Rattle.dcx_warm.proofs.laws.ends_once.Goals as goal

pub returns : goal.returns
returns c = ends_once
