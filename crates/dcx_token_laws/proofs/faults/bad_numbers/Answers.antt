-- A number ends the same where nothing behind it spoils it.
use Rattle.dcx_token_laws.proofs.Unread.{bad_numbers}
use Rattle.dcx_token_laws.proofs.faults.bad_numbers.Goals as goal

pub returns : goal.returns
returns c = bad_numbers
