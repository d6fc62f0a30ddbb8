-- The script has no fault: it is a text, with the tokens of its tree.
use Rattle.dcx_trial_laws.proofs.Accepted.{accepted}
use Rattle.dcx_trial_laws.proofs.reading.trial_has_no_fault.Goals as goal

pub returns : goal.returns
returns c = λ size f short h. accepted size short f h
