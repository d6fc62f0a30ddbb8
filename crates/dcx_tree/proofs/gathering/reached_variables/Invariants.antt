-- Those of the passed ones that stand in the tree.
use Rattle.std.proofs.Common.{◌≡◌, take}
use Rattle.std.specs.Prelude.{filter}
use Rattle.dcx_tree.specs.Gather.{has_variable}
use Rattle.dcx_tree.proofs.gathering.reached_variables.Given as goal

abbrev pub invariant-loop-variable : goal.invariant-loop-variable
invariant-loop-variable l = l.reached.items ≡ filter (λ x. has_variable l.tree x.name) (take l.variable-index l.declared)
