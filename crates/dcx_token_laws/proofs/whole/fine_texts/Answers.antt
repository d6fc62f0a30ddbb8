-- Such a list leaves no step of the reading a fault.
use Rattle.dcx_token_laws.proofs.Unhalted.{fine_texts}
use Rattle.dcx_token_laws.proofs.whole.fine_texts.Goals as goal

pub returns : goal.returns
returns c = fine_texts
