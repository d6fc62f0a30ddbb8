-- Those of the passed ones that stand in the tree.
use Rattle.std.proofs.Common.{◌≡◌, take}
use Rattle.std.specs.Prelude.{filter}
use Rattle.dcx_tree.specs.Gather.{has_parameter}
use Rattle.dcx_tree.proofs.gathering.reached_parameters.Given as goal

abbrev pub invariant-loop-parameter : goal.invariant-loop-parameter
invariant-loop-parameter l = l.reached.items ≡ filter (λ x. has_parameter l.tree x.name) (take l.parameter-index l.declared)
