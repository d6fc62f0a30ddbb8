-- The shape of the node is that of its sides, and the call is the one that the definition makes.
use Rattle.std.proofs.Common.{subst, sym}
use Rattle.dcx_script_values.specs.View.{Gives, Fails}
use Rattle.dcx_operators.specs.Indices.{index_node}
use Rattle.dcx_operators.proofs.Indexed.{index_node-is, index_node-fails}
use Rattle.dcx_operators.proofs.indices.index_node.Goals as goal

pub returns-in-Ok : goal.returns-in-Ok
returns-in-Ok c =
    subst (Gives (λ i. i.0) c.push.result c.push.new.self)
    (sym (index_node-is c.args.place c.args.node.0 c.args.picks.now c.args.state.now c.shape-from.result c.in-Ok.call c.shape-from.ensures c.in-Ok.ensures))
    c.push.ensures

pub returns-in-Err : goal.returns-in-Err
returns-in-Err c =
    subst (λ e. Fails e (index_node c.args.place c.args.node.0 c.args.picks.now c.args.state.now)) (sym c.array_fault.ensures)
    (index_node-fails c.args.place c.args.node.0 c.args.picks.now c.args.state.now c.shape-from.result c.in-Err.fault c.shape-from.ensures c.in-Err.ensures)
