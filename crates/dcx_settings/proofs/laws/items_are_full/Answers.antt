-- Each item is full.
use Rattle.dcx_settings.proofs.Full.{items_full_in}
use Rattle.dcx_settings.proofs.laws.items_are_full.Goals as goal

pub returns : goal.returns
returns c = items_full_in
