-- Answers of a node's program are leaves of its box, and an optimal one has a feasible point.
use Rattle.dcx_branch.proofs.Leaves.{answers_are_leaves}
use Rattle.dcx_branch.proofs.laws.answers_are_leaves.Goals as goal

pub returns : goal.returns
returns c = answers_are_leaves
