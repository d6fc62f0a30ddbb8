-- What is formed is exact.
use Rattle.dcx_call.proofs.Exact.{forms_exactly}
use Rattle.dcx_call.proofs.laws.formed_entries_are_exact.Goals as goal

pub returns : goal.returns
returns c = forms_exactly
