-- The brackets that are open are kept as a stack, along the tokens.
use Rattle.dcx_token_laws.proofs.Unread.{unclosed}
use Rattle.dcx_token_laws.proofs.faults.unclosed.Goals as goal

pub returns : goal.returns
returns c = unclosed
