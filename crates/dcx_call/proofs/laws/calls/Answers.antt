-- The laws of all calls.
use Rattle.dcx_call.proofs.CallLaws.{calls_hold}
use Rattle.dcx_call.proofs.laws.calls.Goals as goal

pub returns : goal.returns
returns c = calls_hold
