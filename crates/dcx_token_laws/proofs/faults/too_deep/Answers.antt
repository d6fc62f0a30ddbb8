-- No more than 64 are open behind any token, and the reader counts 64.
use Rattle.dcx_token_laws.proofs.Follows.{too_deep}
use Rattle.dcx_token_laws.proofs.faults.too_deep.Goals as goal

pub returns : goal.returns
returns c = too_deep
