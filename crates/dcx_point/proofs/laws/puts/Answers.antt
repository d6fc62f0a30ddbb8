-- The laws of puts.
use Rattle.dcx_point.proofs.Puts.{puts_hold}
use Rattle.dcx_point.proofs.laws.puts.Goals as goal

pub returns : goal.returns
returns c = puts_hold
