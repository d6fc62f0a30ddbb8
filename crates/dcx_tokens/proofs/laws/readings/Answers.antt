-- Two readings of a text have the same tokens and the same first fault.
use Rattle.dcx_tokens.proofs.OneReading.{one_reading}
use Rattle.dcx_tokens.proofs.laws.readings.Goals as goal

pub returns : goal.returns
returns c = λ text ts us f g a b. one_reading a b
