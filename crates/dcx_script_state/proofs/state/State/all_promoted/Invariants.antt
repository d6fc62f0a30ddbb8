-- The promotions so far, and then those of the nodes that are left, are those of all nodes.
use Rattle.std.proofs.Common.{◌≡◌, drop}
use Rattle.dcx_arena.specs.Nodes.{positions}
use Rattle.dcx_script_values.specs.Nodes.{all_promoted}
use Rattle.dcx_script_state.proofs.Each.{go_on}
use Rattle.dcx_script_state.proofs.state.State.all_promoted.Given as goal

abbrev pub invariant-loop-node : goal.invariant-loop-node
invariant-loop-node l =
    all_promoted l.place l.to (positions l.nodes) l.initial.self ≡ go_on (positions l.promoted.items) (all_promoted l.place l.to (positions (drop l.node-index l.nodes)) l.self)
