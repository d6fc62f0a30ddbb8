-- New positions change nothing.
use Rattle.dcx_convex.proofs.LawsHold.{renumbering_changes_nothing}
use Rattle.dcx_convex.proofs.laws.renumbering_changes_nothing.Goals as goal

pub returns : goal.returns
returns c = renumbering_changes_nothing
