-- One place of each.
use Rattle.dcx_declared.proofs.Marked as holds
use Rattle.dcx_declared.proofs.laws.places_are_one.Goals as goal

pub returns : goal.returns
returns c = holds.places_are_one
