-- The names of the nodes that are passed.
use Rattle.std.proofs.Common.{◌≡◌, ℕ, List, take}
use Rattle.std.specs.HashSet.{contains}
use Rattle.dcx_point.specs.Pairs.{same_name}
use Rattle.dcx_tree.specs.Gather.{has_parameter}
use Rattle.dcx_tree.proofs.gathering.parameter_names.Given as goal

abbrev pub invariant-loop-i : goal.invariant-loop-i
invariant-loop-i l = (name : List ℕ) → contains same_name l.names name ≡ has_parameter (take l.i l.tree) name
