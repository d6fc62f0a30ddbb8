-- Accepted problems are convex.
use Rattle.dcx_tree.proofs.LawsHold.{accepted_is_convex}
use Rattle.dcx_tree.proofs.laws.accepted_is_convex.Goals as goal

pub returns : goal.returns
returns c = accepted_is_convex
