-- The constraints so far stand.
use Rattle.std.proofs.Common.{All, take}
use Rattle.dcx_tree.specs.Problems.{IsConstraint}
use Rattle.dcx_tree.proofs.tree.Tree.are_constraints.Given as goal

abbrev pub invariant-loop-constraint : goal.invariant-loop-constraint
invariant-loop-constraint l = All (IsConstraint l.self) (take l.constraint-index l.constraints)
