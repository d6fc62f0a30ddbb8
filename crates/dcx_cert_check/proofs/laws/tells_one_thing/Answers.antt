-- A certificate passes its checks or fails and not both, with one fault.
use Rattle.dcx_cert_check.proofs.Settled.{tells_one_thing}
use Rattle.dcx_cert_check.proofs.laws.tells_one_thing.Goals as goal

pub returns : goal.returns
returns c = tells_one_thing
