-- A node at the end changes nothing.
use Rattle.dcx_convex.proofs.LawsHold.{pushing_changes_nothing}
use Rattle.dcx_convex.proofs.laws.pushing_changes_nothing.Goals as goal

pub returns : goal.returns
returns c = pushing_changes_nothing
