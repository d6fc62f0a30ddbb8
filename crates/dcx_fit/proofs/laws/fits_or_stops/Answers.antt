-- A setting fits or is stopped by one first misfit, and not both.
use Rattle.dcx_fit.proofs.First.{stops_hold}
use Rattle.dcx_fit.proofs.laws.fits_or_stops.Goals as goal

pub returns : goal.returns
returns c = stops_hold
