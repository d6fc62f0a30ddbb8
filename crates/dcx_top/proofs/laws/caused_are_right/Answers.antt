-- A run with its cause is right.
use Rattle.dcx_host.specs.Faults.{Rose}
use Rattle.dcx_top.proofs.Right.{caused_are_right}
use Rattle.dcx_top.proofs.laws.caused_are_right.Goals as goal

pub returns : goal.returns
returns c = λ words told before now. caused_are_right words told (Rose before now)
