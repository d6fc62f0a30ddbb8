-- Words and files have one run.
use Rattle.dcx_host.specs.Faults.{Rose}
use Rattle.dcx_top.proofs.OneRun.{only_run}
use Rattle.dcx_top.proofs.laws.one_run.Goals as goal

pub returns : goal.returns
returns c = λ words told before now. only_run words told (Rose before now)
