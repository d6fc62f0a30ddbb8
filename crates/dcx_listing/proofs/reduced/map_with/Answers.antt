-- What is listed has a number.
use Rattle.dcx_listing.proofs.Maps.{listed}
use Rattle.dcx_listing.proofs.reduced.map_with.Goals as goal

pub returns : goal.returns
returns g c = listed c.args.accepted.now.work.problem c.args.accepted.now.work.last c.reduce.result c.requires.arrays c.reduce.ensures.program
