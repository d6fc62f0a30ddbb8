-- The first fault of a text is one of its tokens.
use Rattle.dcx_tokens.proofs.Faults.{of_tokens}
use Rattle.dcx_tokens.proofs.laws.faults.Goals as goal

pub returns : goal.returns
returns c = λ text ts f lexed. of_tokens lexed
