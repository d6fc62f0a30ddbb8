-- The laws of entries.
use Rattle.dcx_domain.proofs.Entries.{entries_hold}
use Rattle.dcx_domain.proofs.laws.entries.Goals as goal

pub returns : goal.returns
returns c = entries_hold
