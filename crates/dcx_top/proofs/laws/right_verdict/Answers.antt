-- A run with its cause refuses exactly where its files are at fault.
use Rattle.dcx_host.specs.Faults.{Rose}
use Rattle.dcx_top.proofs.Verdict.{right_verdict}
use Rattle.dcx_top.proofs.laws.right_verdict.Goals as goal

pub returns : goal.returns
returns c = λ words told before now. right_verdict words told (Rose before now)
