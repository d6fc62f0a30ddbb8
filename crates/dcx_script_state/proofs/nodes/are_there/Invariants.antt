-- The arguments that are left are all nodes of the tree exactly where all arguments are.
use Rattle.std.proofs.Common.{◌≡◌, drop}
use Rattle.dcx_arena.specs.Nodes.{positions}
use Rattle.dcx_script_values.specs.Nodes.{are_there}
use Rattle.dcx_script_state.proofs.nodes.are_there.Given as goal

abbrev pub invariant-loop-arg : goal.invariant-loop-arg
invariant-loop-arg l = are_there l.tree (positions (drop l.arg-index l.args)) ≡ are_there l.tree (positions l.args)
