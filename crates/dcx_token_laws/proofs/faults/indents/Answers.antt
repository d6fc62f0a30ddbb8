-- The blocks that are open are kept as a stack, along the tokens.
use Rattle.dcx_token_laws.proofs.Follows.{indents}
use Rattle.dcx_token_laws.proofs.faults.indents.Goals as goal

pub returns : goal.returns
returns c = indents
