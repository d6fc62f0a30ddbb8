-- Each number of the script takes at most 22 characters.
use Rattle.std.proofs.Common.{ℕ, arith}
use Rattle.dcx_trial_laws.proofs.Script.{script_short}
use Rattle.dcx_trial_laws.proofs.Sized.{bounded}
use Rattle.dcx_trial_laws.proofs.reading.trial_is_short.Goals as goal

pub returns : goal.returns
returns c = λ size asked. let most = (bounded asked.0 size asked.1).most in let short = script_short size (omega arith) in omega (arith, short, most)
